-- Books in a list of units.
use Rattle.std.specs.{FinMap.{entries}, List.{AllByRecursion}, Prelude.{List, Option, Some, filter_map, flat_map, length, map, option_map, unwrap_or, ℕ, ◌<◌, ◌^◌, ◌≡◌}}
use Rattle.plant_books.specs.{Contents.{Content, is_held_in, mine_unit, shelves_mine}, declared.books.{MineRow.{MineRow}, MineUnit.{MineUnit}}}
use Rattle.plant_books.specs.declared.opened.OpenedUnit.{OpenedUnit}
use Rattle.plant_model.specs.declared.rows.{RowEdit.{RowEdit}, UnitRows.{UnitRows}}
use Rattle.plant_model.specs.steps.RowChanges.{changed_by, no_rows}
use Rattle.plant_types.specs.{KeyedRows.{put_row, row_at}, Names.{Name, name_cmp}, Options.{when}}

-- the rows of the unit with a code
abbrev pub rows_at : List OpenedUnit → Name → Option UnitRows
rows_at opened u = option_map (λ o. o.rows) (row_at name_cmp (λ o. o.unit) u opened)

-- a part can count the alarms and the events of a unit with these rows: 32 bits hold either number
abbrev pub IsCountable : UnitRows → Type 0
IsCountable rows = (length rows.alarms < 2 ^ 32) × (length rows.events < 2 ^ 32)

-- this is so for each unit of the list
abbrev pub AreCountable : List OpenedUnit → Type 0
AreCountable opened = AllByRecursion (λ o. IsCountable o.rows) opened

-- the codes of the units in which the person holds a role at the moment
abbrev pub listed_codes : List OpenedUnit → ℕ → Name → List Name
listed_codes opened t p = filter_map (λ o. when (is_held_in t p (Some o.rows)) o.unit) opened

-- these units with the person's roles and their last moments
abbrev pub listed_units : List OpenedUnit → ℕ → Name → List MineUnit
listed_units opened t p = filter_map (λ o. mine_unit t p o.unit (Some o.rows)) opened

-- the shelves of these units
abbrev pub listed_shelves : List OpenedUnit → ℕ → Name → List MineRow
listed_shelves opened t p = flat_map (λ o. shelves_mine t p o.unit (Some o.rows)) opened

-- a unit after changes of its rows
abbrev pub opened_after : List OpenedUnit → Name → List RowEdit → OpenedUnit
opened_after opened u cs = record { unit = u; rows = changed_by cs (unwrap_or (rows_at opened u) no_rows) }

-- the list with this unit, which is added if it was never opened
abbrev pub listed_after : List OpenedUnit → Name → List RowEdit → List OpenedUnit
listed_after opened u cs = put_row name_cmp (λ o. o.unit) (opened_after opened u cs) opened

-- the content has this administrator, and the list has its units with their rows, in the order of codes
pub record IsListed (administrator : Name) (opened : List OpenedUnit) (m : Content) : Type 0 where
  pub admin : administrator ≡ m.admin
  pub units : map (λ o. (o.unit, o.rows)) opened ≡ entries m.units
