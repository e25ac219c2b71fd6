use Rattle.std.proofs.Common.{◌≡◌, filter_map}
use Rattle.plant_office.specs.Lines.{line_of_shelf}
use Rattle.plant_office.proofs.office.shelf_lines.Given as goal

abbrev pub invariant-loop-mine : goal.invariant-loop-mine
invariant-loop-mine l = l.lines ≡ filter_map (line_of_shelf l.now) l.yielded
