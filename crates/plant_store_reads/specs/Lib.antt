pub mod Wanted
pub mod Parts
