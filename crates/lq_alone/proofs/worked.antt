-- Worked programs, whose branches are computed alone.
pub mod AloneWords
pub mod CleanRuns
pub mod AsInOrder
pub mod Accesses
pub mod Limits
pub mod Slices
