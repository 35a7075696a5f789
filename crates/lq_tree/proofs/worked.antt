-- Worked sources and plain programs.
pub mod SourceWords
pub mod PlainWords
pub mod Walk
pub mod Formed
