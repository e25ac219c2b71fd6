pub mod OldTables
pub mod Upgrading
pub mod OldRules
pub mod OldReading
pub mod TakingOver
