pub mod Effects
pub mod Table
pub mod Counted
pub mod Covers
