pub mod Pairs
pub mod Sizes
pub mod Cutting
pub mod Apart
pub mod Grouped
pub mod Shared
pub mod worked
