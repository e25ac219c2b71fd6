use Rattle.plant_model.specs.declared.rows.{Row.TheVariants.{Cell as CellPut}, RowEdit.TheVariants.{Put}}
use Rattle.plant_unit.{specs.MatrixRows.{cell_row_of}, proofs.public.Loops.{grown, next_mapped}}
use Rattle.plant_unit.proofs.matrices.push_row.Goals as goal

pub loop-i-preserved : goal.loop-i-preserved
loop-i-preserved c =
    grown c.args.changes.now c.loop-i.changes c.push.new.self _ _ _ c.in_ok-push.ensures.ok c.loop-i.invariant
    (next_mapped (λ r. Put (CellPut r)) (cell_row_of c.args.number c.args.severity) c.args.row.now c.loop-i.i _ c.loop-i-test.true)
