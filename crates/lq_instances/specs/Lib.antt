pub mod Instances
pub mod Search
pub mod Cuts
pub mod Faults
pub mod Stated
