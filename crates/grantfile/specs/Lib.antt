-- The definitions that the contracts cite: the format, its tests, what the calls answer, and what their inner steps do.
pub mod Format
pub mod Tests
pub mod Reading
pub mod Inner
pub mod Accepted
