use Rattle.std.{specs.List.{range_with_len}, proofs.Common.{◌≡◌, map, filter}}
use Rattle.plant_model.specs.steps.RowFacts.{cells_at, has_cells}
use Rattle.plant_unit.proofs.matrices.cells_of.Given as goal

abbrev pub invariant-loop-place : goal.invariant-loop-place
invariant-loop-place l = map (λ row. row.items) l.rows.items ≡ filter has_cells (map (cells_at l.cells l.number) (range_with_len 1 l.place))
