pub mod Refusing
pub mod Saying
pub mod Verdict
