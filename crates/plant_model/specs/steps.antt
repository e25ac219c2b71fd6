-- Definitions for the code's own steps: what a call looks at, the facts read from rows, and the rows that change.
pub mod LooksAt
pub mod Parts
pub mod Scopes
pub mod RowFacts
pub mod RowChanges
pub mod Keys
pub mod CallChanges
