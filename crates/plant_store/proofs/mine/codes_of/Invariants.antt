use Rattle.std.proofs.Common.{map, ◌≡◌}
use Rattle.plant_store.proofs.mine.codes_of.Given as goal

abbrev pub invariant-loop-mine : goal.invariant-loop-mine
invariant-loop-mine l = l.codes ≡ map (λ mine. mine.unit) l.yielded
