pub mod Race
pub mod Seen
