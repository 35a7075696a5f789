pub mod Step
pub mod Run
pub mod Replay
pub mod Forest
pub mod Machine
pub mod Around
pub mod Fault
pub mod Paths
