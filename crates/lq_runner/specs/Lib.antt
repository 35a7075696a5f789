pub mod Chunks
pub mod Share
