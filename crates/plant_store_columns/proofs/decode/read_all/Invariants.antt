use Rattle.std.proofs.Common.{◌≡◌, take, map}
use Rattle.plant_store_columns.specs.Shown.{columns}
use Rattle.plant_store_columns.proofs.decode.read_all.Given as goal

abbrev pub invariant-loop-row : goal.invariant-loop-row
invariant-loop-row g l = map (columns g.T.Shown.width) (take l.row-index l.rows) ≡ map g.T.Shown.cells l.table
