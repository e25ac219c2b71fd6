-- What books contain: the administrator's name, and the rows of each opened unit.
use Rattle.std.specs.{FinMap.{FinMap, contains_key, empty, get, insert, keys}, List.{list_any}}
use Rattle.std.specs.Prelude.{flat_map, Bool, List, None, OnOk, Option, Result, Some, [], false, filter, filter_map, if◌then◌else◌, map, option_map, true, unwrap_or, ℕ, ◌++◌, ◌≡◌, ◌⊎◌}
use Rattle.plant_alarm.specs.declared.event.Event.{Event}
use Rattle.plant_books.specs.declared.books.{MineRow.{MineRow}, MineUnit.{MineUnit}}
use Rattle.plant_model.specs.steps.{Parts.{part_of}, RowChanges.{changed_by, no_rows, puts_unit}, RowFacts.{last_return_in, unit_read}}
use Rattle.plant_model.specs.declared.{call.Call.{Call}, rows.{RowEdit.{RowEdit}, ShelfRow.{ShelfRow}, UnitPart.{UnitPart}}}
use Rattle.plant_model.specs.declared.rows.UnitRows.{UnitRows}
use Rattle.plant_types.specs.{Names.{Name, name_cmp}, Options.{when}, declared.role.Role.{Role}}
pub use Rattle.plant_model.specs.steps.RowFacts.{is_held_row}

-- what books contain
pub record Content : Type 0 where
  pub admin : Name
  pub units : FinMap name_cmp UnitRows

-- the content of new books: no unit
abbrev pub no_units : Name → Content
no_units admin = record { admin = admin; units = empty }

-- the content with these rows of a unit
abbrev pub with_rows : Content → Name → UnitRows → Content
with_rows m u rows = record { admin = m.admin; units = insert m.units u rows }

-- the unit's rows, none if the code was never opened
abbrev pub rows_in : Content → Name → UnitRows
rows_in m u = unwrap_or (get m.units u) no_rows

-- the rows of a unit, except its events
abbrev pub without_events : UnitRows → UnitRows
without_events rows = record rows { events = [] }

-- the rows of a unit, except what was reviewed: the limits and cells of its matrices, and its changes
abbrev pub without_reviews : UnitRows → UnitRows
without_reviews rows = record rows { bands = []; cells = []; changes = [] }

-- the rows of a unit, except its history: what was reviewed, and its events
abbrev pub without_history : UnitRows → UnitRows
without_history rows = without_events (without_reviews rows)

-- rows with the history of others
abbrev pub with_history_of : UnitRows → UnitRows → UnitRows
with_history_of whole rows =
    record rows { bands = whole.bands; cells = whole.cells; changes = whole.changes; events = whole.events }

-- the unit's rows except its history, none if the code was never opened
abbrev pub rows_but_history : Content → Name → Option UnitRows
rows_but_history m u = option_map without_history (get m.units u)

-- the unit's events, none if the code was never opened
abbrev pub events_in : Content → Name → List Event
events_in m u = (rows_in m u).events

-- the content after changes of one unit's rows
abbrev pub after_changes : Content → Name → List RowEdit → Content
after_changes m u cs = with_rows m u (changed_by cs (rows_in m u))

-- the unit exists, or the changes put its row
abbrev pub IsKnownTo : Content → Name → List RowEdit → Type 0
IsKnownTo m u cs = (contains_key m.units u ≡ true) ⊎ (puts_unit cs ≡ true)

-- the person holds a role at the moment in the unit of these rows, if there are any
abbrev pub is_held_in : ℕ → Name → Option UnitRows → Bool
is_held_in t p None = false
is_held_in t p (Some rows) = list_any (is_held_row t p) rows.grants

-- the codes of the units in which the person holds a role at the moment, rising
abbrev pub codes_held : Content → ℕ → Name → List Name
codes_held m t p = filter_map (λ u. when (is_held_in t p (get m.units u)) u) (keys m.units)

-- the roles that the person holds in a unit at the moment, in the order of its grants
abbrev pub roles_in : ℕ → Name → UnitRows → List Role
roles_in t p rows = map (λ g. g.role_no) (filter (is_held_row t p) rows.grants)

-- a unit with the roles that the person holds there and its last moment
abbrev pub mine_as : ℕ → Name → Name → UnitRows → MineUnit
mine_as t p u rows = record { unit = u; roles = roles_in t p rows; last = (unit_read rows).last_s }

-- the same for a unit that was opened, if the person holds a role there at the moment
abbrev pub mine_unit : ℕ → Name → Name → Option UnitRows → Option MineUnit
mine_unit t p u None = None
mine_unit t p u (Some rows) = when (is_held_in t p (Some rows)) (mine_as t p u rows)

-- the units in which the person holds a role at the moment, rising
abbrev pub mine_units : Content → ℕ → Name → List MineUnit
mine_units m t p = filter_map (λ u. mine_unit t p u (get m.units u)) (keys m.units)

-- a shelf of a unit, with the moment at which its alarm last returned to normal
abbrev pub mine_row : Name → UnitRows → ShelfRow → MineRow
mine_row u rows s = record { unit = u; shelf = s; last_return = last_return_in rows.alarms s.tag }

-- the shelves of a unit are appended to others
abbrev pub AddsShelves : {A E : Type 0} → Name → UnitRows → List MineRow → List MineRow → Result A E → Type 0
AddsShelves u rows before after said = OnOk said (after ≡ before ++ map (mine_row u rows) rows.shelves)

-- the shelves of a unit, each with the moment at which its alarm last returned to normal; none without rows
abbrev pub shelves_there : Name → Option UnitRows → List MineRow
shelves_there u o = map (mine_row u (unwrap_or o no_rows)) (unwrap_or o no_rows).shelves

-- the shelves of a unit in which the person holds a role at the moment
abbrev pub shelves_mine : ℕ → Name → Name → Option UnitRows → List MineRow
shelves_mine t p u None = []
shelves_mine t p u (Some rows) = if is_held_in t p (Some rows) then map (mine_row u rows) rows.shelves else []

-- the shelves of all units in which the person holds a role at the moment, by unit and tag, each once
abbrev pub mine_shelves : Content → ℕ → Name → List MineRow
mine_shelves m t p = flat_map (λ u. shelves_mine t p u (get m.units u)) (keys m.units)

-- the part of a unit's rows that a call looks at, none if the code was never opened
abbrev pub part_in : Content → Call → Name → Option UnitPart
part_in m c u = option_map (part_of c) (get m.units u)
