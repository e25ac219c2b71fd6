use Rattle.std.proofs.Common.{take}
use Rattle.plant_import.specs.Reached.{AreNamed}
use Rattle.plant_import.proofs.beside.tags_of.Given as goal

abbrev pub invariant-loop-row : goal.invariant-loop-row
invariant-loop-row l = AreNamed l.tags (take l.row-index l.rows)
