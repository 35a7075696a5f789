pub mod Full
pub mod Faults
