use Rattle.std.proofs.Common.{◌≡◌, take}
use Rattle.plant_types.proofs.try_copy.copy_all.Given as goal

abbrev pub invariant-loop-row : goal.invariant-loop-row
invariant-loop-row g l = l.copies.items ≡ take l.row-index l.rows
