use Rattle.plant_model.specs.declared.rows.{Row.TheVariants.{Cell as CellPut}, RowEdit.TheVariants.{Put}}
use Rattle.plant_unit.{specs.MatrixRows.{row_of_cells}, proofs.public.Loops.{grown, next_cells}}
use Rattle.plant_unit.proofs.matrices.push_cells.Goals as goal

pub loop-i-preserved : goal.loop-i-preserved
loop-i-preserved c =
    grown c.args.changes.now c.loop-i.changes c.push_row.new.changes _ _ _ c.in_ok-push_row.ensures.value c.loop-i.invariant
    (next_cells (λ r. Put (CellPut r)) (row_of_cells c.args.number) (λ row. row.items) c.args.cells.now c.loop-i.i c.index-cells-i.result
    c.deref.result.now c.loop-i-test.true c.index-cells-i.is c.deref.ensures.value)
