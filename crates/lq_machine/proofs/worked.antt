-- Worked programs, whose runs under picks are computed.
pub mod Logs
pub mod TwoStores
pub mod Nested
pub mod Overlap
pub mod Halves
pub mod Endless
pub mod Traps
pub mod Squares
pub mod Paths
pub mod Sort
pub mod Iterations
