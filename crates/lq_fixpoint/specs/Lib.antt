pub mod Filling
pub mod Goals
pub mod Sifting
pub mod Thinning
pub mod Asking
pub mod Users
pub mod Work
