pub mod Calls
pub mod Recursive
pub mod Copied
