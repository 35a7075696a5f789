pub mod Bytes
pub mod Sign
pub mod Tokens
pub mod Faults
pub mod Scan
pub mod Shape
pub mod Counts
