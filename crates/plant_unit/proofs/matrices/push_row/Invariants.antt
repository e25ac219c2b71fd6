use Rattle.std.{specs.List.{enumerate_from}, proofs.Common.{◌≡◌, take, map, ◌++◌}}
use Rattle.plant_model.specs.declared.rows.{Row.TheVariants.{Cell as CellPut}, RowEdit.TheVariants.{Put}}
use Rattle.plant_unit.specs.MatrixRows.{cell_row_of}
use Rattle.plant_unit.proofs.matrices.push_row.Given as goal

abbrev pub invariant-loop-i : goal.invariant-loop-i
invariant-loop-i l =
    l.changes ≡ l.initial.changes ++ map (λ r. Put (CellPut r)) (map (cell_row_of l.number l.severity) (enumerate_from 1 (take l.i l.row)))
