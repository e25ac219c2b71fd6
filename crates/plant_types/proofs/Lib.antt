pub mod public
mod Unique
mod Examples
