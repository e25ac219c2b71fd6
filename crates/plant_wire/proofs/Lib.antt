pub mod public
mod Serving
mod Sessions
