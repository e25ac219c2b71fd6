pub mod Grid
pub mod Matrix
