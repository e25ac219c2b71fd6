pub mod Json
pub mod Names
pub mod Response
pub mod Bodies
pub mod Changes
pub mod Answers
