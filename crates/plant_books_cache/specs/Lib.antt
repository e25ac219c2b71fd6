pub mod Cache
pub mod Leaves
