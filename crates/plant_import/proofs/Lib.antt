mod Digits
mod RecordsReached
mod Places
mod ReadsRecords
mod Rows
mod Merges
pub mod public
mod ByNumber
mod Examples
mod BelowAll
mod BesideLaws
