-- What a call looks at in its unit, by its request.
use Rattle.std.specs.Prelude.{List, ℕ}
use Rattle.plant_alarm.specs.declared.event.Event.{Event}
use Rattle.plant_model.specs.declared.call.Request.{Request}
use Rattle.plant_ration.specs.declared.change.ChangeKind.{ChangeKind, TheVariants.{Limit, Matrix, Rationale}}
use Rattle.plant_types.specs.Names.{Name}
use Rattle.plant_model.specs.declared.call.Request.TheVariants as request
use Rattle.plant_model.specs.Kinds.{rows_of_file}

-- what a call looks at, apart from the unit's own row and the caller's grants
pub data Scope : Type 0 where
  -- nothing else
  NothingElse : Scope
  AllGrants : Scope
  -- an alarm with its shelf
  OneAlarm : Name → Scope
  -- an alarm with its shelf, and all others if the quota may be used up
  Shelving : Name → Scope
  -- an alarm with its record and the change that it came from
  OneRecord : Name → Scope
  -- a change with its matrix
  OneChange : ℕ → Scope
  -- a change with its matrix, and what it changes
  Approval : ℕ → Scope
  -- an alarm with its record, and the matrix in force
  Content : Name → Scope
  -- all records with the changes that they came from, and the matrix in force
  AllRecords : Scope
  -- all alarms, and the events that are needed to import a file's rows
  File : List Event → Scope
  -- all shelves with their alarms
  AllShelves : Scope
  -- all alarms, shelves and records
  AllAlarms : Scope
  AllEvents : Scope

abbrev pub scope_of_proposal : ChangeKind → Scope
scope_of_proposal (Rationale a s) = Content a
scope_of_proposal (Matrix m) = AllRecords
scope_of_proposal (Limit a max) = Content a

abbrev pub scope_of : Request → Scope
scope_of (request.OpenUnit u s m q) = NothingElse
scope_of (request.Grant u p t) = AllGrants
scope_of (request.Withdraw u p r) = AllGrants
scope_of (request.Register u a l m) = OneAlarm a
scope_of (request.Import u file) = File (rows_of_file file)
scope_of (request.TimedShelve u a d w) = Shelving a
scope_of (request.OneShotShelve u a w) = Shelving a
scope_of (request.Unshelve u a) = OneAlarm a
scope_of (request.RemoveFromService u a w) = OneAlarm a
scope_of (request.PlaceInService u a) = OneAlarm a
scope_of (request.Propose u x) = scope_of_proposal x.kind
scope_of (request.WithdrawChange u n) = OneChange n
scope_of (request.Approve u n) = Approval n
scope_of (request.Reject u n) = OneChange n
scope_of (request.Status u a) = OneAlarm a
scope_of (request.RecordOf u a) = OneRecord a
scope_of (request.ChangeOf u n) = OneChange n
scope_of (request.Shelves u) = AllShelves
scope_of (request.Alarms u) = AllAlarms
scope_of (request.Standing u) = AllAlarms
scope_of (request.Floods u begin until) = AllEvents
scope_of request.MyUnits = NothingElse
scope_of request.MyShelves = NothingElse
