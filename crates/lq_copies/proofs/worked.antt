-- Worked sources, whose copies are computed.
pub mod Words
pub mod Digits
pub mod FillTwice
pub mod Recursion
pub mod Chain
pub mod Arguments
pub mod Limit
