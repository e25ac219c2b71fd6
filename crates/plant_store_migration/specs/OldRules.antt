-- The rules of schema 1, by themselves: no quota limits the shelved alarms, no grant has an end, and a role is held as
-- long as its grant stands. They share the facts of a history with today's rules, and the replies, but no refusal and
-- no limit.
use Rattle.std.specs.List.{AllByRecursion, list_any}
use Rattle.std.specs.Prelude.{Bool, Err, IsTrue, List, None, Ok, Option, Result, Some, [], false, is_none, is_some, length, map, nat_le, nat_lt, not, true, ℕ, ◌%◌, ◌&&◌, ◌+◌, ◌++◌, ◌-◌, ◌==◌, ◌∷◌, ◌≡◌}
use Rattle.plant_alarm.specs.{Shelves.{is_one_shot, is_timed, is_unshelved}, declared.event.Event.{Event}}
use Rattle.plant_import.specs.{Merging.{first_fault}, Numbers.{new_numbers}, declared.bad_file.BadFile.{BadFile}}
use Rattle.plant_model.specs.{Calls.{reply}, Facts.{Facts, facts, is_out, last_of, limit_of, limit_revision_of, matrix_revision_of, shelf_now}}
use Rattle.plant_model.specs.{Histories.{Said, passes, same_number}, Kinds.{Opening, says}, Laws.{is_for_good}, Legality.{IsLegal, has_matrix}}
use Rattle.plant_model.specs.{Refusals.{first_refusal}, Rows.{rows_of}}
use Rattle.plant_model.specs.steps.RowFacts.{alarm_tag}
use Rattle.plant_model.specs.{Verdicts.{changes_history, is_opening, refused_or, verdict}, declared.call.{Call.{Call}, Request.{Request}}}
use Rattle.plant_model.specs.declared.reply.{ChangeRow.{ChangeRow}, Refused.{Refused}, Reply.{Reply}}
use Rattle.plant_model.specs.declared.rows.{GrantRow.{GrantRow}, UnitRow.{UnitRow}, UnitRows.{UnitRows}}
use Rattle.plant_ration.specs.{Matrix.{priority_of, row_of}, declared.cell.Cell.{Cell, TheVariants.{N, P1, P2, P3, P4}}}
use Rattle.plant_ration.specs.declared.change.{ChangeKind.{ChangeKind, TheVariants.{Limit, Matrix, Rationale}}, ChangeState.{ChangeState}}
use Rattle.plant_ration.specs.declared.change.ChangeState.TheVariants.{Approved, Proposed, Rejected, Withdrawn}
use Rattle.plant_types.specs.{Names.{Name, same_name}, Roles.{Pair, all_roles, same_role}, declared.role.Role.{Role}}
use Rattle.plant_types.specs.declared.role.Role.TheVariants.{Approver, Engineer, Maintainer, Operator, Steward}
use Rattle.plant_model.specs.declared.call.Request.TheVariants as request
use Rattle.plant_model.specs.declared.reply.Full.TheVariants as full
use Rattle.plant_model.specs.declared.reply.Refused.TheVariants as refused

-- ---- the limits

abbrev pub old_max_grants : ℕ
old_max_grants = 500

abbrev pub old_max_alarms : ℕ
old_max_alarms = 2000

abbrev pub old_max_changes : ℕ
old_max_changes = 20000

abbrev pub old_max_events : ℕ
old_max_events = 100000

-- the quota that is given to units of schema 1: as many shelves as alarms
abbrev pub old_quota : ℕ
old_quota = 2000

-- ---- the refusals that several requests have

-- the unit has no alarm with this tag
abbrev pub old_unknown : Facts → Name → Bool × Refused
old_unknown f a = (is_none (f.alarm a), refused.AlarmUnknown)

-- a file: the fault found in reading it; else no room for its new events, or the first fault found in merging it
abbrev pub old_fault_entries : Option BadFile → List (Bool × Refused)
old_fault_entries None = []
old_fault_entries (Some fault) = (true, refused.BadFile fault) ∷ []

abbrev pub old_file_refusals : Facts → ℕ → Result (List Event) BadFile → List (Bool × Refused)
old_file_refusals f t (Err fault) = (true, refused.BadFile fault) ∷ []
old_file_refusals f t (Ok rows) =
    (nat_lt old_max_events (length f.events + length (new_numbers f.events rows)), refused.UnitFull full.Events)
    ∷ old_fault_entries (first_fault (map alarm_tag f.alarms) t 2 f.events rows)

-- a change of an alarm's record or limit: the unit does not have the alarm
abbrev pub old_kind_unknown : Facts → ChangeKind → List (Bool × Refused)
old_kind_unknown f (Rationale a s) = old_unknown f a ∷ []
old_kind_unknown f (Matrix m) = []
old_kind_unknown f (Limit a max) = old_unknown f a ∷ []

-- its base is not the revision in force
abbrev pub old_base_changed : ℕ → ℕ → Bool × Refused
old_base_changed base revision = (not (same_number base revision), refused.BaseChanged revision)

abbrev pub was_not_needed : Option Cell → Bool
was_not_needed None = false
was_not_needed (Some N) = true
was_not_needed (Some P1) = false
was_not_needed (Some P2) = false
was_not_needed (Some P3) = false
was_not_needed (Some P4) = false

-- a record has its severity in the matrix in force, and a priority there; a matrix has the severities of all records in
-- force
abbrev pub old_kind_refusals : Facts → ℕ → ChangeKind → List (Bool × Refused)
old_kind_refusals f base (Rationale a s) =
    old_base_changed base (f.revision a) ∷ (not (is_some (row_of f.matrix s.severity)), refused.OutsideMatrix)
    ∷ (was_not_needed (priority_of f.matrix s.severity s.response), refused.NotAnAlarm) ∷ []
old_kind_refusals f base (Matrix m) =
    old_base_changed base (matrix_revision_of f)
    ∷ (list_any (λ r. not (is_some (row_of m r.severity))) f.rationales, refused.OutsideMatrix) ∷ []
old_kind_refusals f base (Limit a max) = old_base_changed base (limit_revision_of f a) ∷ []

-- a decision needs a change that exists and is not decided yet
abbrev pub was_open : ChangeState → Bool
was_open Proposed = true
was_open Approved = false
was_open Rejected = false
was_open Withdrawn = false

abbrev pub old_of_change : Option ChangeRow → (ChangeRow → List (Bool × Refused)) → List (Bool × Refused)
old_of_change None refusals = (true, refused.ChangeUnknown) ∷ []
old_of_change (Some c) refusals = (not (was_open c.state), refused.NotProposed c.state) ∷ refusals c

-- a range of whole periods of ten minutes, from 1 to 1,008 of them
abbrev pub was_aligned : ℕ → ℕ → Bool
was_aligned begin until =
    (begin % 600 == 0) && (until % 600 == 0) && nat_lt begin until && nat_le (until - begin) 604800

-- ---- the refusals of each request; shelving is not refused for a quota, nor a grant for its end
abbrev pub old_own_refusals : Facts → Name → ℕ → Request → List (Bool × Refused)
old_own_refusals f p t (request.OpenUnit u s m q) = []
old_own_refusals f p t (request.Grant u q r) =
    (nat_le old_max_grants f.pairs, refused.UnitFull full.Grants) ∷ (f.stands (q, r.0), refused.AlreadyHeld) ∷ []
old_own_refusals f p t (request.Withdraw u q r) =
    (not (f.stands (q, r)), refused.NotHeld) ∷ (same_role r Steward && nat_le f.stewards 1, refused.LastSteward) ∷ []
old_own_refusals f p t (request.Register u a l m) =
    (nat_le old_max_alarms f.alarm_count, refused.UnitFull full.Alarms) ∷ (is_some (f.alarm a), refused.AlarmTaken) ∷ []
old_own_refusals f p t (request.Import u file) = old_file_refusals f t file
old_own_refusals f p t (request.TimedShelve u a d w) =
    old_unknown f a ∷ (nat_lt (limit_of f a) d, refused.ShelvingTimeOutOfRange (limit_of f a))
    ∷ (is_timed (shelf_now f a t), refused.ConditionAlreadyShelved) ∷ []
old_own_refusals f p t (request.OneShotShelve u a w) =
    old_unknown f a ∷ (is_one_shot (shelf_now f a t), refused.ConditionAlreadyShelved) ∷ []
old_own_refusals f p t (request.Unshelve u a) =
    old_unknown f a ∷ (is_unshelved (shelf_now f a t), refused.ConditionNotShelved) ∷ []
old_own_refusals f p t (request.RemoveFromService u a w) =
    old_unknown f a ∷ (is_out f a, refused.AlreadyOutOfService) ∷ []
old_own_refusals f p t (request.PlaceInService u a) = old_unknown f a ∷ (not (is_out f a), refused.NotOutOfService) ∷ []
old_own_refusals f p t (request.Propose u x) =
    (nat_le old_max_changes f.change_count, refused.UnitFull full.Changes) ∷ old_kind_unknown f x.kind
    ++ old_kind_refusals f x.base x.kind
old_own_refusals f p t (request.WithdrawChange u n) =
    old_of_change (f.change n) (λ c. (not (same_name p c.proposer), refused.NotProposer) ∷ [])
old_own_refusals f p t (request.Approve u n) =
    old_of_change (f.change n) (λ c. (same_name p c.proposer, refused.SamePerson) ∷ old_kind_refusals f c.base c.kind)
old_own_refusals f p t (request.Reject u n) =
    old_of_change (f.change n) (λ c. (same_name p c.proposer, refused.SamePerson) ∷ [])
old_own_refusals f p t (request.Status u a) = old_unknown f a ∷ []
old_own_refusals f p t (request.RecordOf u a) = old_unknown f a ∷ (is_none (f.rationale a), refused.RecordUnknown) ∷ []
old_own_refusals f p t (request.ChangeOf u n) = (is_none (f.change n), refused.ChangeUnknown) ∷ []
old_own_refusals f p t (request.Shelves u) = []
old_own_refusals f p t (request.Alarms u) = []
old_own_refusals f p t (request.Standing u) = []
old_own_refusals f p t (request.Floods u begin until) = (not (was_aligned begin until), refused.RangeNotAligned) ∷ []
old_own_refusals f p t request.MyUnits = []
old_own_refusals f p t request.MyShelves = []

-- the role that a request needs, if it needs one in particular
abbrev pub old_role_needed : Request → Option Role
old_role_needed (request.OpenUnit u s m q) = None
old_role_needed (request.Grant u p t) = Some Steward
old_role_needed (request.Withdraw u p r) = Some Steward
old_role_needed (request.Register u a l m) = Some Engineer
old_role_needed (request.Import u file) = Some Operator
old_role_needed (request.TimedShelve u a d w) = Some Operator
old_role_needed (request.OneShotShelve u a w) = Some Operator
old_role_needed (request.Unshelve u a) = Some Operator
old_role_needed (request.RemoveFromService u a w) = Some Maintainer
old_role_needed (request.PlaceInService u a) = Some Maintainer
old_role_needed (request.Propose u x) = Some Engineer
old_role_needed (request.WithdrawChange u n) = Some Engineer
old_role_needed (request.Approve u n) = Some Approver
old_role_needed (request.Reject u n) = Some Approver
old_role_needed (request.Status u a) = None
old_role_needed (request.RecordOf u a) = None
old_role_needed (request.ChangeOf u n) = None
old_role_needed (request.Shelves u) = None
old_role_needed (request.Alarms u) = None
old_role_needed (request.Standing u) = None
old_role_needed (request.Floods u begin until) = None
old_role_needed request.MyUnits = None
old_role_needed request.MyShelves = None

-- refused if the role that is needed does not stand
abbrev pub old_lacks_role : Facts → Name → Option Role → List (Bool × Refused)
old_lacks_role f p None = []
old_lacks_role f p (Some r) = (not (f.stands (p, r)), refused.RoleLacking r) ∷ []

-- all refusals of a call, in their order
abbrev pub old_refusals : Facts → Call → List (Bool × Refused)
old_refusals f c =
    (not (list_any (λ r. f.stands (c.person, r)) all_roles), refused.NotGranted)
    ∷ old_lacks_role f c.person (old_role_needed c.request)
    ++ (nat_lt c.moment (last_of f), refused.MomentBehind (last_of f)) ∷ old_own_refusals f c.person c.moment c.request

-- what a unit of this history answered to the call
abbrev pub old_verdict : List Call → Call → Result Reply Refused
old_verdict h c = refused_or (first_refusal (old_refusals (facts h) c)) (reply (facts h) c.moment c.request)

-- an entry belongs to schema 1: an opening gives the quota of those units, a grant has no end
abbrev pub was_said : Option Opening → Option (Pair × Said (Option ℕ)) → Bool
was_said (Some o) pair = same_number o.quota old_quota
was_said None pair = passes is_for_good pair

-- a request of this schema that represents one of schema 1
abbrev pub is_of_old : Request → Bool
is_of_old r = was_said (says r).opening (says r).pair

-- the histories of schema 1
abbrev pub WasLegal : List Call → Type 0
WasLegal [] = ⊥
WasLegal (c ∷ []) = IsTrue (is_opening c.request) × IsTrue (has_matrix c.request) × IsTrue (is_of_old c.request)
WasLegal (c ∷ d ∷ before) = IsTrue (not (is_opening c.request) && changes_history (old_verdict (d ∷ before) c) c)
    × IsTrue (has_matrix c.request) × IsTrue (is_of_old c.request) × WasLegal (d ∷ before)

-- each history of schema 1 is a history of this schema
abbrev pub OldHistoriesAreLegal : Type 0
OldHistoriesAreLegal = (h : List Call) → WasLegal h → IsLegal h

-- after a history of schema 1, a call of schema 1 gets the answer that it got then
abbrev pub OldVerdictsStay : Type 0
OldVerdictsStay = (h : List Call) → WasLegal h → (c : Call) → IsTrue (is_of_old c.request)
    → verdict h c ≡ old_verdict h c

-- rows with that quota, and whose grants have no end
pub record AreOldRows (rows : UnitRows) : Type 0 where
  pub quotas : AllByRecursion (λ (r : UnitRow). r.quota ≡ old_quota) rows.units
  pub ends : AllByRecursion (λ (g : GrantRow). g.end_s ≡ None) rows.grants

-- the rows of a history of schema 1 have that quota, and no ends
abbrev pub OldRowsHaveNoEnds : Type 0
OldRowsHaveNoEnds = (h : List Call) → WasLegal h → AreOldRows (rows_of h)
