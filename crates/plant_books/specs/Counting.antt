-- The count of the fault `Store`, as long as it is below the greatest number.
use Rattle.std.specs.Prelude.{Err, Ok, Result, ℕ, ◌+◌, ◌-◌, ◌<◌, ◌^◌, ◌≡◌}
use Rattle.plant_types.specs.declared.fault.Fault.{Fault, TheVariants.{Memory, Store}}

-- the fault Store adds one, the fault Memory nothing
abbrev pub CountsFault : ℕ → ℕ → Fault → Type 0
CountsFault old new Memory = new ≡ old
CountsFault old new Store = old < 2 ^ 64 - 1 → new ≡ old + 1

-- a call adds one if it fails with Store, else nothing
abbrev pub Counts : {X : Type 0} → ℕ → ℕ → Result X Fault → Type 0
Counts old new (Ok x) = new ≡ old
Counts old new (Err fault) = CountsFault old new fault
