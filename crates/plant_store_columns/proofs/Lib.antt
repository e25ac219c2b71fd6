mod Rows
mod Shared
pub mod public
