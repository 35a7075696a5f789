pub mod View
pub mod Handed
pub mod Steps
pub mod Laws
