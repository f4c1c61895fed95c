-- The lemmas that the answers cite.
pub mod Firsts
pub mod Places
pub mod Checks
pub mod Written
pub mod Devices
pub mod Formed
