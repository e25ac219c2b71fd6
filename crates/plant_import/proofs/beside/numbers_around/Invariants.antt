use Rattle.std.proofs.Common.{take}
use Rattle.plant_import.specs.Reached.{AreAround}
use Rattle.plant_import.proofs.beside.numbers_around.Given as goal

abbrev pub invariant-loop-row : goal.invariant-loop-row
invariant-loop-row l = AreAround l.found l.kept (take l.row-index l.rows)
