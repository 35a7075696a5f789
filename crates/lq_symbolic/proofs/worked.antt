pub mod Values
pub mod Assumptions
