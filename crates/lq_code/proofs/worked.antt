-- Worked programs, whose code, its rules and its runs are computed.
pub mod CodeWords
pub mod Sum
pub mod Forms
pub mod Alike
pub mod Broken
pub mod Bytes
pub mod Wrong
