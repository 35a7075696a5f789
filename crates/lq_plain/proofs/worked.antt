-- Worked programs, whose plain form is computed.
pub mod Worded
pub mod Programs
pub mod Forms
pub mod Lines
pub mod Factors
pub mod Edges
pub mod Through
pub mod Formed
