-- Rows whose tags are wanted, and alarms that have a shelf.
use Rattle.std.specs.Prelude.{List, filter}
use Rattle.plant_books.specs.{Asking.{is_wanted}, declared.asking.Wanted.{Wanted}}
use Rattle.plant_model.specs.declared.rows.{AlarmRow.{AlarmRow}, ShelfRow.{ShelfRow}}
use Rattle.plant_model.specs.steps.Parts.{has_shelf}
use Rattle.plant_types.specs.Names.{Name}

-- the rows whose tags are wanted
abbrev pub rows_wanted : {X : Type 0} → (X → Name) → Wanted → List X → List X
rows_wanted tag wanted rows = filter (λ r. is_wanted wanted (tag r)) rows

-- the alarms that have one of these shelves
abbrev pub shelved : List ShelfRow → List AlarmRow → List AlarmRow
shelved shelves alarms = filter (λ r. has_shelf shelves r.tag) alarms
