pub mod Ascending
pub mod Kept
pub mod Moves
pub mod Meaning
pub mod worked
