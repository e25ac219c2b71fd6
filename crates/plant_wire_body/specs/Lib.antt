pub mod Members
pub mod Lists
pub mod Bodies
pub mod Proposals
