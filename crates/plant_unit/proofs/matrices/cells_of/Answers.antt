use Rattle.std.proofs.Common.{ap, sym, ◌∙◌, List, length, map, ◌==◌}
use Rattle.plant_model.specs.steps.RowFacts.{cells_at}
use Rattle.plant_ration.specs.declared.cell.Cell.{Cell}
use Rattle.plant_unit.proofs.{ReadingLaws.{row_left, row_pushed}, matrices.cells_of.Goals.{then-not-is_empty+in_ok-push, else-not-is_empty}}
use Rattle.plant_unit.proofs.matrices.cells_of.Goals as goal

pub loop-place-preserved : goal.loop-place-preserved
loop-place-preserved c =
    let empty = ap (λ (xs : List Cell). length xs == 0) (sym c.as_slice.ensures.value) ∙ sym c.is_empty.ensures in
    elim c.if-not-is_empty.branch [
      | then-not-is_empty+in_ok-push w ↦
          row_pushed (λ row. row.items)
          (cells_at c.args.cells.now c.args.number) c.loop-place.rows.items c.if-not-is_empty.rows.items c.in_ok-row.row c.loop-place.place
          (ap (λ v. v.items) w.rows-is ∙ w.in_ok-push.ensures.items) (empty ∙ w.if-not-is_empty.true) c.in_ok-row.ensures.value c.loop-place.invariant
      | else-not-is_empty w ↦
          ap (λ v. map (λ row. row.items) v.items) w.rows-is
          ∙ row_left (λ row. row.items) (cells_at c.args.cells.now c.args.number) c.loop-place.rows.items c.in_ok-row.row c.loop-place.place
          (empty ∙ w.if-not-is_empty.false) c.in_ok-row.ensures.value c.loop-place.invariant
    ]
