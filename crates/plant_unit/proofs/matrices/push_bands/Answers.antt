use Rattle.plant_model.specs.declared.rows.{Row.TheVariants.{Band as BandPut}, RowEdit.TheVariants.{Put}}
use Rattle.plant_unit.{specs.MatrixRows.{band_row_of}, proofs.public.Loops.{grown, next_mapped}}
use Rattle.plant_unit.proofs.matrices.push_bands.Goals as goal

pub loop-i-preserved : goal.loop-i-preserved
loop-i-preserved c =
    grown c.args.changes.now c.loop-i.changes c.push.new.self _ _ _ c.in_ok-push.ensures.ok c.loop-i.invariant
    (next_mapped (λ r. Put (BandPut r)) (band_row_of c.args.number) c.args.limits.now c.loop-i.i 0 c.loop-i-test.true)
