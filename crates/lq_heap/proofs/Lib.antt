pub mod OpenLists
pub mod Folds
