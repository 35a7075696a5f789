pub mod Alone
pub mod Clean
pub mod Frame
pub mod Interleavings
pub mod Slice
pub mod Literal
