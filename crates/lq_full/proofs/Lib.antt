pub mod CountLemmas
pub mod LimitLemmas
