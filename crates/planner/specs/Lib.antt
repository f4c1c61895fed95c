-- The definitions that the contracts cite.
pub mod Grants
pub mod Walk
pub mod Search
pub mod Ledger
pub mod Rows
pub mod Law
pub mod FlowTests
pub mod Computed
pub mod Theorems
pub mod Tried
pub mod WrongPlanners
