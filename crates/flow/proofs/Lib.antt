-- The lemmas that the functions' proofs share.
pub mod SetLaws
pub mod FlowLaws
pub mod ReachLaws
pub mod OrderLaws
pub mod PathLaws
