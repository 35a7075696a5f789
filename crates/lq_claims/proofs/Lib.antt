pub mod Counts
pub mod Kept
pub mod Parts
pub mod Claiming
pub mod Returning
pub mod Meaning
pub mod worked
