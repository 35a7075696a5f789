-- Worked rounds, and states that the rule refuses.
pub mod TwoChunks
