use Rattle.std.{specs.List.{list_any}, proofs.Common.{take, ◌≡◌, false}}
use Rattle.plant_unit.specs.{Additions.{AreKept}, Readings.{is_outside}}
use Rattle.plant_unit.proofs.proposals.has_outside.Given as goal

abbrev pub invariant-loop-row : goal.invariant-loop-row
invariant-loop-row l = AreKept l.part → list_any (is_outside l.fn.matrix l.part.rows) (take l.row-index l.row-items) ≡ false
