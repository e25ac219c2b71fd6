pub mod Growing
pub mod Running
pub mod With
