use Rattle.std.{specs.List.{enumerate_from}, proofs.Common.{◌≡◌, take, map, ◌++◌}}
use Rattle.plant_model.specs.declared.rows.{Row.TheVariants.{Band as BandPut}, RowEdit.TheVariants.{Put}}
use Rattle.plant_unit.specs.MatrixRows.{band_row_of}
use Rattle.plant_unit.proofs.matrices.push_bands.Given as goal

abbrev pub invariant-loop-i : goal.invariant-loop-i
invariant-loop-i l = l.changes ≡ l.initial.changes ++ map (λ r. Put (BandPut r)) (map (band_row_of l.number) (enumerate_from 1 (take l.i l.limits)))
