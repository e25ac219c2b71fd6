pub mod Push
pub mod Returns
