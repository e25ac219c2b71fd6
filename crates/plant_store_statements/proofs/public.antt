pub mod Meanings
pub mod Writes
pub mod Reading
pub mod Queries
pub mod Contents
pub mod ReadsOnly
pub mod StepsInside
pub mod Crashes
