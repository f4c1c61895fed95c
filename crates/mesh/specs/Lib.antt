-- The definitions that the contracts cite.
pub mod Refusals
pub mod Rights
pub mod Table
pub mod Kind
pub mod Kinds
pub mod Rows
