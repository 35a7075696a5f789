pub mod View
pub mod Units
pub mod Steps
pub mod Laws
