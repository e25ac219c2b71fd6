use Rattle.std.proofs.Common.{sym}
use Rattle.plant_ration.{specs.Matrix.{is_no_lower_row}, proofs.Neighbours.{neighbours_all, neighbours_not_at, not_above}}
use Rattle.plant_ration.proofs.shape.rows_rise.Goals as goal

pub returns : goal.returns
returns c =
    sym (neighbours_all (λ less more. is_no_lower_row less.items more.items) c.args.cells.now c.loop-i.i c.loop-i-test.false c.loop-i.invariant)

pub returns-then-not-is_above : goal.returns-then-not-is_above
returns-then-not-is_above c =
    sym (neighbours_not_at (λ less more. is_no_lower_row less.items more.items) c.args.cells.now c.loop-i.i c.index-cells-i.result
    c.index-cells-i-in-loop-i.result c.loop-i.auto.i c.loop-i-test.true
    (not_above _ _ _ _ _ _ c.index-cells-i.is c.index-cells-i-in-loop-i.is c.deref.ensures.value c.deref-in-loop-i.ensures.value
    c.if-not-is_above.ensures))
