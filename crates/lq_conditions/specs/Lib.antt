pub mod After
pub mod Asked
pub mod Conditions
pub mod There
