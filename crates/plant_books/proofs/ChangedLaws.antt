-- Rows after changes, one more at a time.
use Rattle.std.proofs.Common.{List, [], refl, ◌++◌, ◌∷◌, ◌≡◌}
use Rattle.plant_model.specs.declared.rows.{RowEdit.{RowEdit}, UnitRows.{UnitRows}}
use Rattle.plant_model.specs.steps.RowChanges.{changed, changed_by}

pub changed_next : (cs : List RowEdit) (c : RowEdit) (rows : UnitRows) → changed_by (cs ++ c ∷ []) rows ≡ changed c (changed_by cs rows)
changed_next [] c rows = refl
changed_next (d ∷ cs) c rows = changed_next cs c (changed d rows)
