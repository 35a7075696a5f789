pub mod Part
pub mod Memory
pub mod Words
