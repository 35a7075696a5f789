pub mod Clashes
pub mod Iterations
