pub mod Cuts
pub mod Waiting
