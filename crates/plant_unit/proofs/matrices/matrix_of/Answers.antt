use Rattle.std.proofs.Common.{map, ◌∙◌}
use Rattle.plant_ration.specs.Matrix.{matrix_of}
use Rattle.plant_unit.proofs.ReadingLaws.{matrix_made}
use Rattle.plant_unit.proofs.matrices.matrix_of.Goals as goal

pub returns-clause-value : goal.returns-clause-value
returns-clause-value c =
    matrix_made (λ row. row.items) c.args.rows.now c.args.number c.ok.result c.in_ok-new.field-0 c.in_ok-limits.limits.items c.in_ok-cells.cells.items
    c.as_slice.result.now c.as_slice-2.result.now
    c.ok.ensures.value (c.in_ok-new.ensures.value
    ∙ (λ i. matrix_of (c.deref.ensures.value i) (map (λ row. row.items) (c.deref-2.ensures.value i)))) c.as_slice.ensures.value c.as_slice-2.ensures.value
    c.in_ok-limits.ensures.value c.in_ok-cells.ensures.value
