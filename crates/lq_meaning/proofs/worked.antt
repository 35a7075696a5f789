-- Worked programs, whose meaning is computed.
pub mod SourceWords
pub mod PlainWords
pub mod Outcomes
pub mod sources
pub mod plain
