use Rattle.std.{specs.List.{enumerate_from}, proofs.Common.{◌≡◌, take, map, flat_map, ◌++◌}}
use Rattle.plant_model.specs.declared.rows.{Row.TheVariants.{Cell as CellPut}, RowEdit.TheVariants.{Put}}
use Rattle.plant_unit.specs.MatrixRows.{row_of_cells}
use Rattle.plant_unit.proofs.matrices.push_cells.Given as goal

abbrev pub invariant-loop-i : goal.invariant-loop-i
invariant-loop-i l =
    l.changes ≡ l.initial.changes ++ map (λ r. Put (CellPut r))
    (flat_map (row_of_cells l.number) (enumerate_from 1 (map (λ row. row.items) (take l.i l.cells))))
