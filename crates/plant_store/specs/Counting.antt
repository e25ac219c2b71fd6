-- Which fault an error of the database is.
use Rattle.std.specs.Prelude.{Bool, Err, IfErr, IsErr, IsTrue, Ok, Result, ◌≡◌, ◌⊎◌}
use Rattle.sqlite.specs.declared.error.{Error.{Error, TheVariants.{SqliteFailure}}, ErrorCode.TheVariants.{DiskFull, OutOfMemory}}
use Rattle.plant_types.specs.declared.fault.Fault.{Fault, TheVariants.{Memory, Store}}

-- memory ran out, for the store or for one of its files that lies in memory, which then has no room
abbrev pub IsWantOfMemory : Bool → Error → Type 0
IsWantOfMemory in_memory e = (e ≡ SqliteFailure OutOfMemory) ⊎ (IsTrue in_memory × (e ≡ SqliteFailure DiskFull))

-- an error of the database is a fault of memory if memory ran out, else a fault of the store
abbrev pub Names : Bool → Error → Fault → Type 0
Names in_memory e Memory = IsWantOfMemory in_memory e
Names in_memory e Store = ¬ IsWantOfMemory in_memory e

-- a value is returned as it is, and an error as a fault
abbrev pub SaysAgain : {X : Type 0} → Result X Error → Result X Fault → Type 0
SaysAgain (Ok found) again = again ≡ Ok found
SaysAgain (Err e) again = IsErr again

-- the fault names the error
abbrev pub NamesAgain : {X : Type 0} → Bool → Result X Error → Result X Fault → Type 0
NamesAgain in_memory said again = IfErr said (λ e. IfErr again (Names in_memory e))
