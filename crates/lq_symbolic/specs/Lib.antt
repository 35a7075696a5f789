pub mod State
pub mod Value
pub mod Assume
pub mod Told
pub mod Stands
