pub mod Databases
pub mod Leaving
