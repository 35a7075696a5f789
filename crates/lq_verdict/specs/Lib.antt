pub mod Verdict
pub mod Claims
pub mod Audit
