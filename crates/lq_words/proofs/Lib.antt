pub mod Holdings
pub mod Stores
pub mod Splits
pub mod Joins
pub mod Closing
