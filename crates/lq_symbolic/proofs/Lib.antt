pub mod Collected
pub mod Sums
pub mod Given
pub mod worked
