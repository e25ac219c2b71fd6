pub mod Running
pub mod Enduring
pub mod FaultLaws
