-- The commands, each with its words and its answers (docs/COMMANDS.md, "The commands").
pub mod Seq
pub mod Replay
