-- The results of functions that may fail.
use Rattle.std.specs.Prelude.{IfErr, IfOk, Result, ◌≡◌}
use Rattle.plant_types.specs.declared.fault.Fault.{Fault, TheVariants.{Memory}}

-- if the function succeeds, it gives this value
abbrev pub Gives : {A E : Type 0} → Result A E → A → Type 0
Gives said x = IfOk said (λ y. y ≡ x)

-- if the function fails, memory ran out
abbrev pub OnlyMemory : {A : Type 0} → Result A Fault → Type 0
OnlyMemory said = IfErr said (λ e. e ≡ Memory)
