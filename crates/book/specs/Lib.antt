-- The definitions that the contracts cite.
pub mod Agrees
pub mod BookCalls
