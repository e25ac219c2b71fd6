pub mod Forms
pub mod Kept
pub mod Tidy
pub mod Shape
pub mod Codes
pub mod Causes
pub mod Tables
pub mod Shown
