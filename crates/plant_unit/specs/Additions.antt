-- What a file adds to a unit, or why it is refused.
use Rattle.std.specs.List.{list_all}
use Rattle.std.specs.Prelude.{Bool, Err, List, None, Ok, Option, Result, Some, length, nat_lt, true, ℕ, ◌+◌, ◌-◌, ◌<◌, ◌||◌, ◌∷◌, ◌≡◌, ◌≤◌}
use Rattle.plant_model.specs.Facts.{Facts, limit_revision_of}
use Rattle.plant_model.specs.steps.CallChanges.{unit_after}
use Rattle.plant_model.specs.steps.LooksAt.{Scope, scope_of, AllAlarms, AllEvents, AllGrants, AllRecords, AllShelves, Approval, Content, File, NothingElse, OneAlarm, OneChange, OneRecord, Shelving}
use Rattle.plant_model.specs.Refusals.{file_refusals, first_refusal}
use Rattle.plant_model.specs.steps.RowChanges.{import_changes}
use Rattle.plant_model.specs.steps.RowFacts.{change_found, change_read, facts_among, facts_in, unit_read}
use Rattle.plant_model.specs.{Rows.{change_entry}, declared.{call.Request.{Request, TheVariants.{Import}}, reply.{Refused.{Refused}}}}
use Rattle.plant_model.specs.declared.{rows.{ChangeEntry.{ChangeEntry}, Row.TheVariants.{Unit as UnitPut}}}
use Rattle.plant_model.specs.declared.rows.{RowEdit.{RowEdit, TheVariants.{Put}}, UnitPart.{UnitPart}}
use Rattle.plant_alarm.specs.declared.event.Event.{Event}
use Rattle.plant_import.specs.{Merging.{IsRising, first_fault, fresh}, Needed.{needed}, Numbers.{new_numbers}, declared.merging.Merged.{Merged}}
use Rattle.plant_types.specs.{Limits.{max_events}, Names.{Name}, Results.{Gives}}
use Rattle.plant_unit.specs.{Readings.{has_its_sheet, has_kind, is_left_out, is_matrix_at}, Summaries.{HaveSummaries}}

-- the decision, unless there is a refusal
abbrev pub decided_or : {A : Type 0} → Option Refused → A → Result A Refused
decided_or None decided = Ok decided
decided_or (Some refused) decided = Err refused

abbrev pub rows_added : List Event → List Event → Merged
rows_added kept rows = record { fresh = fresh kept rows; repeated = length rows - length (fresh kept rows) }

-- the new rows of a file and the number of its repeated ones, or the first refusal of its rows
abbrev pub addition : Facts → ℕ → List Event → Result Merged Refused
addition f t rows = decided_or (first_refusal (file_refusals f t (Ok rows))) (rows_added f.events rows)

-- the number of events fits into 32 bits
abbrev pub AreCountable : List Event → Type 0
AreCountable es = length es ≤ 4294967295

-- these are the unit's events, in the part of an import: the part has those of them that the file's rows need, and
-- their number, and the states of its alarms are computed from them
pub record AreEventsOf (part : UnitPart) (rows es : List Event) : Type 0 where
  pub rise : IsRising es
  pub needed_are : part.rows.events ≡ needed es rows
  pub count_is : part.count ≡ length es
  pub summaries : HaveSummaries part.rows.alarms es

-- by all events of the unit: the result is whether there are too many events with the file's new ones
abbrev pub TellsFull : {E : Type 0} → UnitPart → List Event → Result Bool E → Type 0
TellsFull part rows said = (es : List Event) → AreEventsOf part rows es
    → Gives said (nat_lt max_events (length es + length (new_numbers es rows)))

-- by all events of the unit: the result is what a file's rows add at a moment, or why they are refused
abbrev pub GivesAddition : {E : Type 0} → UnitPart → ℕ → List Event → Result (Result Merged Refused) E → Type 0
GivesAddition part t rows said = (es : List Event) → AreEventsOf part rows es
    → Gives said (addition (facts_among part es) t rows)

-- these are the events that a request sees in a part: for an import some of them are in the part, for a list of floods
-- all of them; for other requests they can be any
abbrev pub AreEventsIn : UnitPart → Scope → List Event → Type 0
AreEventsIn part NothingElse es = Unit {0}
AreEventsIn part AllGrants es = Unit {0}
AreEventsIn part (OneAlarm a) es = Unit {0}
AreEventsIn part (Shelving a) es = Unit {0}
AreEventsIn part (OneRecord a) es = Unit {0}
AreEventsIn part (OneChange n) es = Unit {0}
AreEventsIn part (Approval n) es = Unit {0}
AreEventsIn part (Content a) es = Unit {0}
AreEventsIn part AllRecords es = Unit {0}
AreEventsIn part (File rows) es = AreEventsOf part rows es
AreEventsIn part AllShelves es = Unit {0}
AreEventsIn part AllAlarms es = Unit {0}
AreEventsIn part AllEvents es = part.rows.events ≡ es

abbrev pub AreEventsFor : UnitPart → Request → List Event → Type 0
AreEventsFor part r es = AreEventsIn part (scope_of r) es

-- the new rows of a file without fault
pub record AreAdded (es rows added : List Event) : Type 0 where
  pub rise : IsRising es
  pub fresh_are : added ≡ fresh es rows
  pub tags : List Name
  pub now : ℕ
  pub no_fault : first_fault tags now 2 es rows ≡ None

-- by all events of the unit: the changes of an import that adds these of a file's rows at a moment
abbrev pub GivesImport : {E : Type 0} → UnitPart → ℕ → List Event → List Event → Result (List RowEdit) E → Type 0
GivesImport part t rows added said =
    (u : Name) (es : List Event) → AreEventsOf part rows es → AreAdded es rows added
    → Gives said (Put (UnitPut (unit_after (facts_among part es) t (Import u (Ok rows))))
    ∷ import_changes (facts_among part es) rows)

-- what the parts of a legal history keep
pub record AreKept (part : UnitPart) : Type 0 where
  -- a number of events that fits into 32 bits
  pub events_few : length part.rows.events ≤ 4294967295
  -- the matrix in force is a valid matrix, if the part has cells of it
  pub matrix_whole : (is_left_out part.rows (unit_read part.rows).matrix_no
      || is_matrix_at part.rows (unit_read part.rows).matrix_no) ≡ true
  -- a change has what its kind needs: the columns, or the rows of a matrix
  pub changes_whole : (n : ℕ) (c : ChangeEntry) → change_found part.rows n ≡ Some c
      → has_kind part.rows c c.kind_no ≡ true
  -- a change has nothing else: its row is that of the change that is read from it
  pub changes_read : (n : ℕ) (c : ChangeEntry) → change_found part.rows n ≡ Some c
      → change_entry (change_read part.rows c) ≡ c
  -- the change that a record came from has the columns of a sheet, if the part has that change
  pub records_whole : list_all (has_its_sheet part.rows) part.rows.records ≡ true
  -- there is a next number of each kind
  pub count_fits : part.count < 4294967295
  pub matrix_fits : (unit_read part.rows).matrix_rev < 4294967295
  pub record_fits : (a : Name) → (facts_in part).revision a < 4294967295
  pub limit_fits : (a : Name) → limit_revision_of (facts_in part) a < 4294967295
