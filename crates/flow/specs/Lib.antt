-- The definitions that the contracts cite.
pub mod Sets
pub mod Members
pub mod Flow
pub mod Touched
pub mod Tables
pub mod Followers
pub mod Visit
pub mod Reach
pub mod Order
pub mod Listing
