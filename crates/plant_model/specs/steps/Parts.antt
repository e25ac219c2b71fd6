-- The part of a unit's rows that a call looks at: the unit's row, the caller's grants, and what its request selects.
use Rattle.std.specs.List.{list_any}
use Rattle.std.specs.Prelude.{◌&&◌, Bool, List, None, Option, Some, [], false, filter, if◌then◌else◌, length, nat_le, true, ℕ, ◌||◌}
use Rattle.plant_alarm.specs.declared.event.Event.{Event}
use Rattle.plant_import.specs.Needed.{needed}
use Rattle.plant_model.specs.{Histories.{same_number}, declared.{call.Request.{Request}, kinds.Counted.{Counted}}}
use Rattle.plant_model.specs.Kinds.{count_of}
use Rattle.plant_model.specs.steps.LooksAt.{AllAlarms, AllEvents, AllGrants, AllRecords, AllShelves, Approval, Content, File, NothingElse, OneAlarm, OneChange, OneRecord, Scope, Shelving, scope_of}
use Rattle.plant_model.specs.declared.call.Call.{Call}
use Rattle.plant_model.specs.steps.{RowChanges.{no_rows}, RowFacts.{change_found, holds_by, last_number, unit_read, pair_of}}
use Rattle.plant_model.specs.declared.kinds.Counted.TheVariants.{Alarms as AlarmsCounted, Changes as ChangesCounted, Events as EventsCounted, Nothing}
use Rattle.plant_model.specs.declared.rows.{ChangeEntry.{ChangeEntry}, ChangeTopic.{ChangeTopic}}
use Rattle.plant_model.specs.declared.rows.ChangeTopic.TheVariants.{Limit as LimitTopic, Matrix as MatrixTopic, Record as RecordTopic}
use Rattle.plant_model.specs.declared.rows.{ShelfRow.{ShelfRow}, UnitPart.{UnitPart}, UnitRows.{UnitRows}}
use Rattle.plant_types.specs.{Names.{Name, same_name}, Roles.{Pair}}

-- the rows of a scope, apart from the unit's own row and the caller's grants: by pair, tag, number of a matrix, number
-- of a change
pub record Selection : Type 0 where
  pub pair : Pair → Bool
  pub alarm : Name → Bool
  pub shelf : Name → Bool
  pub events : List Event → List Event
  pub matrix : ℕ → Bool
  pub rationale : Name → Bool
  pub change : ℕ → Bool

abbrev pub none : {A : Type 0} → A → Bool
none k = false

abbrev pub every : {A : Type 0} → A → Bool
every k = true

abbrev pub no_events : List Event → List Event
no_events es = []

abbrev pub all_events : List Event → List Event
all_events es = es

abbrev pub nothing : Selection
nothing =
    record {
      pair = none;
      alarm = none;
      shelf = none;
      events = no_events;
      matrix = none;
      rationale = none;
      change = none;
    }

-- the alarm and the shelf of a tag
abbrev pub of_tag : Name → Selection
of_tag a = record nothing { alarm = same_name a; shelf = same_name a }

-- a change with its matrix
abbrev pub change_by_number : ℕ → Selection
change_by_number n = record nothing { matrix = same_number n; change = same_number n }

abbrev pub is_in_force : UnitRows → ℕ → Bool
is_in_force rows = same_number (unit_read rows).matrix_no

-- the alarm and the record of a tag, and the matrix in force
abbrev pub of_content : UnitRows → Name → Selection
of_content rows a = record nothing { alarm = same_name a; rationale = same_name a; matrix = is_in_force rows }

-- the changes that records came from
abbrev pub is_source : UnitRows → (Name → Bool) → ℕ → Bool
is_source rows tags n = list_any (λ r. tags r.tag && same_number n r.change_no) rows.records

-- all records with their changes, and the matrix in force
abbrev pub of_records : UnitRows → Selection
of_records rows = record nothing { rationale = every; matrix = is_in_force rows; change = is_source rows every }

-- what a change changes: a change of a record or of a limit without a tag leaves nothing out
abbrev pub of_topic : UnitRows → Option Name → ChangeTopic → Selection
of_topic rows tag MatrixTopic = of_records rows
of_topic rows (Some a) RecordTopic = of_content rows a
of_topic rows (Some a) LimitTopic = of_content rows a
of_topic rows None RecordTopic = record (of_records rows) { alarm = every }
of_topic rows None LimitTopic = record (of_records rows) { alarm = every }

abbrev pub with_number : ℕ → Selection → Selection
with_number n s = record s { matrix = λ m. s.matrix m || same_number n m; change = λ m. s.change m || same_number n m }

abbrev pub of_approved : UnitRows → ℕ → Option ChangeEntry → Selection
of_approved rows n None = change_by_number n
of_approved rows n (Some c) = with_number n (of_topic rows c.tag c.kind_no)

-- there are at least as many shelves as the quota, so it may be used up
abbrev pub is_crowded : UnitRows → Bool
is_crowded rows = nat_le (unit_read rows).quota (length rows.shelves)

-- one of the shelves is of the tag
abbrev pub has_shelf : List ShelfRow → Name → Bool
has_shelf shelves a = list_any (λ s. same_name a s.tag) shelves

-- for a shelving, the alarm and the shelf of its tag, and all others if the quota may be used up
abbrev pub of_shelving : Bool → Name → Selection
of_shelving crowded a = record nothing { alarm = λ b. crowded || same_name a b; shelf = λ b. crowded || same_name a b }

abbrev pub selection : UnitRows → Scope → Selection
selection rows NothingElse = nothing
selection rows AllGrants = record nothing { pair = every }
selection rows (OneAlarm a) = of_tag a
selection rows (Shelving a) = of_shelving (is_crowded rows) a
selection rows (OneRecord a) =
    record nothing { alarm = same_name a; rationale = same_name a; change = is_source rows (same_name a) }
selection rows (OneChange n) = change_by_number n
selection rows (Approval n) = of_approved rows n (change_found rows n)
selection rows (Content a) = of_content rows a
selection rows AllRecords = of_records rows
selection rows (File es) = record nothing { alarm = every; events = λ kept. needed kept es }
selection rows AllShelves = record nothing { alarm = has_shelf rows.shelves; shelf = every }
selection rows AllAlarms = record nothing { alarm = every; shelf = every; rationale = every }
selection rows AllEvents = record nothing { events = all_events }

abbrev pub selected : UnitRows → Request → Selection
selected rows r = selection rows (scope_of r)

-- how many alarms or events there are, or the number of the last change, for the calls that need it
abbrev pub count_of_kind : Counted → UnitRows → ℕ
count_of_kind Nothing rows = 0
count_of_kind AlarmsCounted rows = length rows.alarms
count_of_kind EventsCounted rows = length rows.events
count_of_kind ChangesCounted rows = last_number rows.changes

abbrev pub counted_for : UnitRows → Request → ℕ
counted_for rows r = count_of_kind (count_of r) rows

abbrev pub rows_selected : Name → Selection → UnitRows → UnitRows
rows_selected p s rows =
    record {
      units = rows.units;
      grants = filter (λ g. same_name p g.person || s.pair (pair_of g)) rows.grants;
      alarms = filter (λ r. s.alarm r.tag) rows.alarms;
      shelves = filter (λ r. s.shelf r.tag) rows.shelves;
      events = s.events rows.events;
      bands = filter (λ r. s.matrix r.matrix_no) rows.bands;
      cells = filter (λ r. s.matrix r.matrix_no) rows.cells;
      records = filter (λ r. s.rationale r.tag) rows.records;
      changes = filter (λ r. s.change r.number) rows.changes;
    }

abbrev pub part_of_holder : Call → UnitRows → UnitPart
part_of_holder c rows =
    record {
      rows = rows_selected c.person (selected rows c.request) rows;
      count = counted_for rows c.request;
      held = true;
    }

-- for a caller who holds no role: the unit's row and the caller's grants, which have ended
abbrev pub part_of_stranger : Call → UnitRows → UnitPart
part_of_stranger c rows =
    record {
      rows = record no_rows { units = rows.units; grants = filter (λ g. same_name c.person g.person) rows.grants };
      count = 0;
      held = false;
    }

abbrev pub part_of : Call → UnitRows → UnitPart
part_of c rows = if holds_by rows.grants c.moment c.person then part_of_holder c rows else part_of_stranger c rows
