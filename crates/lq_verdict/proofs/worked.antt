pub mod Under
pub mod Accepted
pub mod Good
pub mod Files
pub mod OneStoreProofs
pub mod HalfProofs
pub mod BadEntries
