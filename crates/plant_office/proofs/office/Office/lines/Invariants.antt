use Rattle.std.proofs.Common.{◌≡◌, map}
use Rattle.plant_office.specs.Lines.{line_of_mine}
use Rattle.plant_office.proofs.office.Office.lines.Given as goal

abbrev pub invariant-loop-mine : goal.invariant-loop-mine
invariant-loop-mine g l = l.lines ≡ map line_of_mine l.yielded
