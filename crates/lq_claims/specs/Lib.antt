pub mod View
pub mod Claims
pub mod Steps
pub mod Laws
