pub mod Records
pub mod Stands
