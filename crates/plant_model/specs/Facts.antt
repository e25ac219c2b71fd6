-- The facts about a unit at which a verdict looks.
use Rattle.std.specs.Prelude.{Bool, List, Option, Some, count_by, false, is_some, length, not, option_and_then, option_map, unwrap_or, ℕ, ◌&&◌}
use Rattle.plant_model.specs.{Changes.{proposals, record_of, record_revision, matrix, change}, Events.{events}, Grants.{held, stands}}
use Rattle.plant_model.specs.Rows.{records_of, revision_of_limit, alarm_row, alarm_rows, grant_rows, shelf_rows, unit_row}
use Rattle.plant_model.specs.{Shelves.{shelf, state_of_shelf}, declared.{call.Call.{Call}, reply.{ChangeRow.{ChangeRow}, RecordRow.{RecordRow}}}}
use Rattle.plant_model.specs.declared.rows.{AlarmRow.{AlarmRow}, GrantRow.{GrantRow}, ShelfRow.{ShelfRow}, UnitRow.{UnitRow}}
use Rattle.plant_ration.specs.{Grid.{Grid}, declared.cell.Cell.{Cell}}
use Rattle.plant_alarm.specs.{Shelves.{is_unshelved}, declared.{event.Event.{Event}, shelf.ShelfState.{ShelfState}}}
use Rattle.plant_types.specs.{Names.{Name, same_name}, Roles.{Pair, same_role}, declared.role.Role.TheVariants.{Steward}}

pub record Facts : Type 0 where
  -- its last moment, the matrix in force and the quota
  pub unit : UnitRow
  -- whether a grant of a role to a person stands, ended or not; whether the role is held at a moment
  pub stands : Pair → Bool
  pub held : ℕ → Pair → Bool
  -- how many grants stand, and how many of Steward
  pub pairs : ℕ
  pub stewards : ℕ
  -- its alarms, by tag and in the order of their tags
  pub alarm_count : ℕ
  pub alarm : Name → Option AlarmRow
  pub alarms : List AlarmRow
  -- the shelf that the last shelving of an alarm left, even if its time has passed
  pub shelf : Name → Option ShelfRow
  pub shelves : List ShelfRow
  -- all events, ordered by number
  pub events : List Event
  -- the matrix in force, and the priorities of alarms by it
  pub matrix : Grid
  pub priority : Name → Option Cell
  -- how many changes of an alarm's record were approved; the records in force
  pub revision : Name → ℕ
  pub rationale : Name → Option RecordRow
  pub rationales : List RecordRow
  -- how many changes were proposed, and the change with a number
  pub change_count : ℕ
  pub change : ℕ → Option ChangeRow

abbrev pub is_steward_row : GrantRow → Bool
is_steward_row g = same_role g.role_no Steward

-- the facts of a history
abbrev pub facts : List Call → Facts
facts h =
    record {
      unit = unit_row h;
      stands = stands h;
      held = held h;
      pairs = length (grant_rows h);
      stewards = count_by is_steward_row (grant_rows h);
      alarm_count = length (alarm_rows h);
      alarm = alarm_row h;
      alarms = alarm_rows h;
      shelf = shelf h;
      shelves = shelf_rows h;
      events = events h;
      matrix = (matrix h).1;
      priority = λ a. option_map (λ r. r.priority) (record_of h a);
      revision = record_revision h;
      rationale = record_of h;
      rationales = records_of h;
      change_count = proposals h;
      change = change h;
    }

-- the moment of its last change
abbrev pub last_of : Facts → ℕ
last_of f = f.unit.last_s

-- how many of its alarms may be shelved at once
abbrev pub quota_of : Facts → ℕ
quota_of f = f.unit.quota

-- how many matrices were approved
abbrev pub matrix_revision_of : Facts → ℕ
matrix_revision_of f = f.unit.matrix_rev

-- MaxTimeShelved in force
abbrev pub limit_of : Facts → Name → ℕ
limit_of f a = unwrap_or (option_map (λ r. r.max_s) (f.alarm a)) 0

-- how many changes of it were approved
abbrev pub limit_revision_of : Facts → Name → ℕ
limit_revision_of f a = revision_of_limit (f.alarm a)

-- the alarm is out of service
abbrev pub is_out : Facts → Name → Bool
is_out f a = unwrap_or (option_map (λ r. is_some r.out_s) (f.alarm a)) false

-- when the alarm last returned to normal
abbrev pub returned : Facts → Name → Option ℕ
returned f a = option_and_then (λ r. r.return_s) (f.alarm a)

-- the shelved state at a moment
abbrev pub shelf_now : Facts → Name → ℕ → ShelfState
shelf_now f a t = state_of_shelf (f.shelf a) (returned f a) t

-- how many other alarms are shelved at the moment
abbrev pub others_shelved : Facts → Name → ℕ → ℕ
others_shelved f a t =
    count_by (λ s. not (same_name a s.tag)
    && not (is_unshelved (state_of_shelf (Some s) (returned f s.tag) t))) f.shelves
