use Rattle.std.proofs.Common.{◌≡◌, ◌++◌, take, flat_map}
use Rattle.plant_report.specs.{Columns.{line}, Texts.{mine_columns}}
use Rattle.plant_report.proofs.shelves.mine_text.Given as goal

abbrev pub invariant-loop-line : goal.invariant-loop-line
invariant-loop-line l = l.text.items ≡ l.initial.text.items ++ flat_map (λ r. line (mine_columns r)) (take l.line-index l.lines)
