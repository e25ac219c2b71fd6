use Rattle.std.proofs.Common.{take, ◌++◌, ◌≡◌}
use Rattle.plant_books.proofs.numbered.push_all.Given as goal

abbrev pub invariant-loop-row : goal.invariant-loop-row
invariant-loop-row g l = l.all ≡ l.initial.all ++ take l.row-index l.rows
