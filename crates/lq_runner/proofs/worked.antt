-- Worked forks: how they are cut, and how their units are dealt out.
pub mod Cuts
pub mod Shares
