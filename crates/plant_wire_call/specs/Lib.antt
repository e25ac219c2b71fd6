pub mod Causes
pub mod Lengths
pub mod Path
pub mod Reading
pub mod Front
pub mod Cut
