pub mod Causes
pub mod Limits
pub mod Marks
pub mod Ran
pub mod Step
pub mod Session
pub mod Over
