use Rattle.std.proofs.Common.{take}
use Rattle.plant_import.specs.Reached.{AreFirst}
use Rattle.plant_import.proofs.needs.first_numbers.Given as goal

abbrev pub invariant-loop-row : goal.invariant-loop-row
invariant-loop-row l = AreFirst l.firsts l.kept (take l.row-index l.rows)
