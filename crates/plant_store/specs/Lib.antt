pub mod Mine
pub mod Counting
pub mod Opening
pub mod Opened
pub mod Standing
