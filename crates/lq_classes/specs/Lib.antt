pub mod Classes
pub mod Links
pub mod Layout
pub mod Forest
pub mod Joins
pub mod Numbers
