-- When a call on a unit is refused, and why: the conditions that several calls share, and the first refusal whose
-- condition holds. Results of shelving are named as in OPC 10000-9.
use Rattle.std.specs.List.{list_any}
use Rattle.std.specs.Prelude.{Bool, Err, List, None, Ok, Option, Result, Some, [], false, if◌then◌else◌, is_none, is_some, length, map, nat_le, nat_lt, not, true, ℕ, ◌+◌, ◌∷◌}
use Rattle.plant_model.specs.{Facts.{Facts, limit_revision_of, matrix_revision_of, others_shelved, quota_of}, Grants.{some_role}, Histories.{same_number}}
use Rattle.plant_model.specs.declared.reply.{ChangeRow.{ChangeRow}, Full.TheVariants.{Events as TooManyEvents}}
use Rattle.plant_model.specs.declared.reply.Refused.{Refused}
use Rattle.plant_model.specs.declared.reply.Refused.TheVariants.{BaseChanged, ChangeUnknown, NotAnAlarm, NotProposed, OutsideMatrix, AlarmUnknown, BadFile as FileRefused, RoleLacking, ShelfQuota, UnitFull}
use Rattle.plant_ration.specs.{Grid.{Grid}, Matrix.{priority_of, row_of}, declared.cell.Cell.{Cell, TheVariants.{N, P1, P2, P3, P4}}}
use Rattle.plant_ration.specs.declared.change.{ChangeKind.{ChangeKind, TheVariants.{Limit, Matrix, Rationale}}, ChangeState.{ChangeState}}
use Rattle.plant_ration.specs.declared.change.ChangeState.TheVariants.{Approved, Proposed, Rejected, Withdrawn}
use Rattle.plant_types.specs.{Limits.{max_events}, Names.{Name}, declared.role.Role.{Role}}
use Rattle.plant_alarm.specs.declared.event.Event.{Event}
use Rattle.plant_import.specs.{Merging.{first_fault}, Numbers.{new_numbers}, declared.bad_file.BadFile.{BadFile}}

-- the unit has no alarm with this tag
abbrev pub unknown : Facts → Name → Bool × Refused
unknown f a = (is_none (f.alarm a), AlarmUnknown)

-- the quota is used up by the other alarms that are shelved now
abbrev pub over_quota : Facts → Name → ℕ → Bool × Refused
over_quota f a t = (nat_le (quota_of f) (others_shelved f a t), ShelfQuota (quota_of f))

-- a file: the fault found in reading it; else no room for its new events, or the first fault found in merging it
abbrev pub tags_of : Facts → List Name
tags_of f = map (λ r. r.tag) f.alarms

abbrev pub fault_entries : Option BadFile → List (Bool × Refused)
fault_entries None = []
fault_entries (Some fault) = (true, FileRefused fault) ∷ []

abbrev pub file_refusals : Facts → ℕ → Result (List Event) BadFile → List (Bool × Refused)
file_refusals f t (Err fault) = (true, FileRefused fault) ∷ []
file_refusals f t (Ok rows) =
    (nat_lt max_events (length f.events + length (new_numbers f.events rows)), UnitFull TooManyEvents)
    ∷ fault_entries (first_fault (tags_of f) t 2 f.events rows)

-- a change of an alarm's record or limit: the unit does not have the alarm
abbrev pub kind_unknown : Facts → ChangeKind → List (Bool × Refused)
kind_unknown f (Rationale a s) = unknown f a ∷ []
kind_unknown f (Matrix m) = []
kind_unknown f (Limit a max) = unknown f a ∷ []

-- its base is not the revision in force
abbrev pub base_changed : ℕ → ℕ → Bool × Refused
base_changed base revision = (not (same_number base revision), BaseChanged revision)

abbrev pub is_not_needed : Option Cell → Bool
is_not_needed None = false
is_not_needed (Some N) = true
is_not_needed (Some P1) = false
is_not_needed (Some P2) = false
is_not_needed (Some P3) = false
is_not_needed (Some P4) = false

abbrev pub has_row : Grid → ℕ → Bool
has_row m severity = is_some (row_of m severity)

-- a record has its severity in the matrix in force, and a priority there; a matrix has the severities of all records in
-- force
abbrev pub kind_refusals : Facts → ℕ → ChangeKind → List (Bool × Refused)
kind_refusals f base (Rationale a s) =
    base_changed base (f.revision a) ∷ (not (has_row f.matrix s.severity), OutsideMatrix)
    ∷ (is_not_needed (priority_of f.matrix s.severity s.response), NotAnAlarm) ∷ []
kind_refusals f base (Matrix m) =
    base_changed base (matrix_revision_of f) ∷ (list_any (λ r. not (has_row m r.severity)) f.rationales, OutsideMatrix)
    ∷ []
kind_refusals f base (Limit a max) = base_changed base (limit_revision_of f a) ∷ []

-- a decision needs a change that exists and is not decided yet
abbrev pub is_open : ChangeState → Bool
is_open Proposed = true
is_open Approved = false
is_open Rejected = false
is_open Withdrawn = false

abbrev pub of_change : Option ChangeRow → (ChangeRow → List (Bool × Refused)) → List (Bool × Refused)
of_change None refusals = (true, ChangeUnknown) ∷ []
of_change (Some c) refusals = (not (is_open c.state), NotProposed c.state) ∷ refusals c

abbrev pub lacks_role : Facts → ℕ → Name → Option Role → List (Bool × Refused)
lacks_role f t p None = []
lacks_role f t p (Some r) = (not (f.held t (p, r)), RoleLacking r) ∷ []

-- the person holds some role at the moment
unfoldable pub holds_some : Facts → ℕ → Name → Bool
holds_some f t p = some_role (λ r. f.held t (p, r))

-- the first refusal whose condition holds
abbrev pub first_refusal : List (Bool × Refused) → Option Refused
first_refusal [] = None
first_refusal ((holds, refused) ∷ rest) = if holds then Some refused else first_refusal rest
