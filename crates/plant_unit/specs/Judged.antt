-- Verdicts: what the functions that judge a call return.
use Rattle.std.specs.Prelude.{Bool, Err, IsOkAnd, List, None, Ok, Option, Result, Some, [], false, if◌then◌else◌, is_ok, is_some, nat_lt, not, true, ℕ, ◌++◌, ◌∷◌, ◌≡◌}
use Rattle.plant_model.specs.{Calls.{own_refusals, reply}, Changes.{priority_by}, Facts.{Facts, last_of}}
use Rattle.plant_model.specs.steps.CallChanges.{changes_for, own_changes}
use Rattle.plant_model.specs.{Kinds.{role_needed, says}, Legality.{IsLegal}, Refusals.{base_changed, first_refusal, has_row}}
use Rattle.plant_model.specs.steps.Parts.{part_of}
use Rattle.plant_model.specs.Refusals.{holds_some, is_not_needed, kind_refusals, lacks_role, of_change}
use Rattle.plant_model.specs.steps.RowChanges.{changed_by, in_force, kind_row}
use Rattle.plant_model.specs.{Rows.{rows_of}, Verdicts.{after, changes_history}}
use Rattle.plant_model.specs.steps.{RowChanges.{no_rows, puts_unit}, RowFacts.{change_read, facts_in}}
use Rattle.plant_model.specs.{Verdicts.{refused_or, verdict, verdict_of}, Worlds.{opening}, declared.call.{Call.{Call}, Request.{Request}}}
use Rattle.plant_model.specs.declared.reply.{ChangeRow.{ChangeRow}, Refused.{Refused, TheVariants.{MomentBehind, NotAnAlarm, NotGranted}}}
use Rattle.plant_model.specs.declared.reply.{Refused.TheVariants.{NotProposer, OutsideMatrix, SamePerson}, Reply.{Reply, TheVariants.{Done}}}
use Rattle.plant_model.specs.declared.rows.{ChangeEntry.{ChangeEntry}, Row.TheVariants.{Change as ChangePut, Unit as UnitPut}, RowEdit.{RowEdit}}
use Rattle.plant_model.specs.declared.rows.{RowEdit.TheVariants.{Put}, UnitPart.{UnitPart}, UnitRow.{UnitRow}, UnitRows.{UnitRows}, Verdict.{Verdict}}
use Rattle.plant_model.specs.declared.rows.Verdict.TheVariants.{Accepted as IsAccepted, Refused as IsRefused}
use Rattle.plant_ration.specs.{Grid.{Grid}, Matrix.{priority_of}, declared.{cell.Cell.{Cell}, change.ChangeKind.TheVariants.{Rationale}}}
use Rattle.plant_ration.specs.declared.change.{ChangeState.{ChangeState, TheVariants.{Approved}}, Sheet.{Sheet}}
use Rattle.plant_alarm.specs.declared.event.Event.{Event}
use Rattle.plant_types.specs.Names.{Name, same_name}
use Rattle.plant_unit.specs.Additions.{AreEventsFor, decided_or}

abbrev pub is_import : Request → Bool
is_import r = is_some (says r).file

-- the decision on a request by someone who may make it: its first refusal, else the changes that it makes besides that
-- of the unit's row
abbrev pub own_decision : Facts → Name → ℕ → Request → Result (List RowEdit) Refused
own_decision f p t r = decided_or (first_refusal (own_refusals f p t r)) (own_changes f p t r)

-- the same decision, if it makes one change
abbrev pub one_change : Result RowEdit Refused → Result (List RowEdit) Refused
one_change (Err refused) = Err refused
one_change (Ok change) = Ok (change ∷ [])

-- the answer to such a request, by its own refusals
abbrev pub own_answer : Facts → Name → ℕ → Request → Result Reply Refused
own_answer f p t r = refused_or (first_refusal (own_refusals f p t r)) (reply f t r)

-- the first refusal, if any, of a call on the change with this row
abbrev pub IsRefusalOf : ChangeEntry → (ChangeRow → List (Bool × Refused)) → Option Refused → Type 0
IsRefusalOf e refusals refused = (rows : UnitRows)
    → refused ≡ first_refusal (of_change (Some (change_read rows e)) refusals)

-- refused to a person who did not propose the change
abbrev pub if_not_proposer : Name → ChangeRow → List (Bool × Refused)
if_not_proposer p = λ c. (not (same_name p c.proposer), NotProposer) ∷ []

-- refused to the person who proposed the change
abbrev pub if_proposer : Name → ChangeRow → List (Bool × Refused)
if_proposer p = λ c. (same_name p c.proposer, SamePerson) ∷ []

-- refused if the base is not the revision in force
abbrev pub base_refusal : ℕ → ℕ → Option Refused
base_refusal base revision = first_refusal (base_changed base revision ∷ [])

-- the refusals of a sheet by a matrix
abbrev pub sheet_refusals : Grid → ℕ → ℕ → List (Bool × Refused)
sheet_refusals m severity response =
    (not (has_row m severity), OutsideMatrix) ∷ (is_not_needed (priority_of m severity response), NotAnAlarm) ∷ []

-- the priority of a sheet by a matrix, and that of a record with this base by the matrix in force, or the first refusal
abbrev pub sheet_decision : Grid → ℕ → ℕ → Result Cell Refused
sheet_decision m severity response =
    decided_or (first_refusal (sheet_refusals m severity response)) (priority_by m severity response)

abbrev pub record_decision : Facts → ℕ → Name → Sheet → Result Cell Refused
record_decision f base a s =
    decided_or (first_refusal (kind_refusals f base (Rationale a s))) (priority_by f.matrix s.severity s.response)

-- the verdict of a decision, which makes the decided change and that of the unit's row
abbrev pub done_as : UnitRow → Result RowEdit Refused → Verdict
done_as row (Err refused) = IsRefused refused
done_as row (Ok change) = IsAccepted Done (Put (UnitPut row) ∷ change ∷ [])

-- the verdict of a decision, if there was no fault, with the call's moment as the unit's last
abbrev pub IsDone : {E : Type 0} → UnitRow → ℕ → Result (Result RowEdit Refused) E → Verdict → Type 0
IsDone unit t decided = λ v. IsOkAnd decided (λ d. v ≡ done_as (record unit { last_s = t }) d)

abbrev pub answered_as : Result Reply Refused → Verdict
answered_as (Err refused) = IsRefused refused
answered_as (Ok said) = IsAccepted said []

abbrev pub answer_in : Verdict → Result Reply Refused
answer_in (IsRefused r) = Err r
answer_in (IsAccepted reply changes) = Ok reply

abbrev pub changes_in : Verdict → List RowEdit
changes_in (IsRefused r) = []
changes_in (IsAccepted reply changes) = changes

-- the part is what the call looks at among the rows of the history; None for a code that was never opened
abbrev pub IsPartOf : Option UnitPart → List Call → Call → Type 0
IsPartOf None h c = h ≡ []
IsPartOf (Some part) h c = (part ≡ part_of c (rows_of h)) × IsLegal h

-- the part states correctly whether the caller holds a role
abbrev pub SaysHeld : UnitPart → Call → Type 0
SaysHeld part c = part.held ≡ holds_some (facts_in part) c.moment c.person

-- these are all events of the unit, if the caller holds a role and the call sees events
abbrev pub AreEventsSeen : UnitPart → Call → List Event → Type 0
AreEventsSeen part c es = holds_some (facts_in part) c.moment c.person ≡ true → AreEventsFor part c.request es

-- the verdict that the facts of a unit give, with its changes: none for a refusal or a read
pub record IsJudged (f : Facts) (c : Call) (v : Verdict) : Type 0 where
  pub answer : answer_in v ≡ verdict_of f c
  pub changes : changes_in v ≡ (if changes_history (verdict_of f c) c then changes_for f c else [])

-- the verdict that the facts give to one who may make the call: by the request's own refusals
pub record IsJudgedOwn (f : Facts) (c : Call) (v : Verdict) : Type 0 where
  pub answer : answer_in v ≡ own_answer f c.person c.moment c.request
  pub changes : changes_in v
      ≡ (if changes_history (own_answer f c.person c.moment c.request) c then changes_for f c else [])

-- the row of a change that a person decides at a moment
abbrev pub decided_row : ChangeState → Name → ℕ → ChangeEntry → ChangeEntry
decided_row state p t e = record e { state_no = state; decider = Some p; decided_s = Some t }

-- the verdict on a change that may be approved: refused for its base or its content, else it comes into force
pub record IsApproved (f : Facts) (p : Name) (t : ℕ) (c : ChangeRow) (e : ChangeEntry) (v : Verdict) : Type 0 where
  pub answer : answer_in v ≡ refused_or (first_refusal (kind_refusals f c.base c.kind)) Done
  pub changes : changes_in v
      ≡ (if is_ok (answer_in v) then
      Put (UnitPut (kind_row t f.unit c.number c.kind)) ∷ Put (ChangePut (decided_row Approved p t e))
      ∷ in_force f c.number c.kind else [])

-- the refusals of a caller who may not make the call at its moment
abbrev pub holder_refusals : Facts → Call → List (Bool × Refused)
holder_refusals f c =
    (not (holds_some f c.moment c.person), NotGranted)
    ∷ (lacks_role f c.moment c.person (role_needed c.request) ++ (nat_lt c.moment (last_of f), MomentBehind (last_of f))
    ∷ [])

-- the verdict on a call in a unit with this history; the changes turn its rows into those of the history with the call,
-- and put the unit's row
pub record IsVerdictOn (h : List Call) (c : Call) (v : Verdict) : Type 0 where
  pub answer : answer_in v ≡ verdict h c
  pub changes : changed_by (changes_in v) (rows_of h) ≡ rows_of (after h c)
  pub none : changes_history (verdict h c) c ≡ false → changes_in v ≡ []
  pub puts : changes_history (verdict h c) c ≡ true → puts_unit (changes_in v) ≡ true

-- the verdict on an opening; the changes turn empty tables into the rows of the opening
pub record IsOpening (by_admin taken : Bool) (c : Call) (v : Verdict) : Type 0 where
  pub answer : answer_in v ≡ opening by_admin taken
  pub changes : is_ok (opening by_admin taken) ≡ true → changed_by (changes_in v) no_rows ≡ rows_of (c ∷ [])
  pub none : is_ok (opening by_admin taken) ≡ false → changes_in v ≡ []
  pub puts : is_ok (opening by_admin taken) ≡ true → puts_unit (changes_in v) ≡ true

-- the same for the administrator of this name
abbrev pub IsOpeningFor : Name → Bool → Call → Verdict → Type 0
IsOpeningFor administrator taken c = IsOpening (same_name c.person administrator) taken c
