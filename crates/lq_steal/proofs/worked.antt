-- A worked deque, and deques that the rule refuses.
pub mod ThreeChunks
