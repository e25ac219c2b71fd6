-- The results of functions, stated by the facts of a part.
use Rattle.std.specs.Prelude.{IfOk, List, OnOk, Option, Result, ℕ, ◌++◌, ◌≡◌}
use Rattle.plant_model.specs.{Calls.{own_refusals}, Facts.{Facts}, Refusals.{first_refusal, kind_refusals}}
use Rattle.plant_model.specs.steps.CallChanges.{own_changes}
use Rattle.plant_model.specs.declared.call.{Call.{Call}, Request.{Request, TheVariants.{Import, Propose}}}
use Rattle.plant_model.specs.steps.RowFacts.{facts_among, facts_in}
use Rattle.plant_model.specs.declared.{reply.{ChangeRow.{ChangeRow}, Refused.{Refused}, Reply.{Reply}}, rows.ChangeEntry.{ChangeEntry}}
use Rattle.plant_model.specs.declared.rows.{RowEdit.{RowEdit}, UnitPart.{UnitPart}, Verdict.{Verdict}}
use Rattle.plant_alarm.specs.declared.event.Event.{Event}
use Rattle.plant_import.specs.declared.bad_file.BadFile.{BadFile}
use Rattle.plant_ration.specs.declared.change.{ChangeKind.{ChangeKind}, Proposal.{Proposal}}
use Rattle.plant_types.specs.{Names.{Name}, Results.{Gives}}
use Rattle.plant_unit.specs.{Additions.{AreEventsFor, AreKept}, Judged.{IsApproved, IsJudgedOwn, own_decision, one_change, own_answer}}

-- from a part of a legal history: if it succeeds, it gives this of the part's facts
abbrev pub GivesFrom : {A E : Type 0} → UnitPart → Result A E → (Facts → A) → Type 0
GivesFrom part said this = AreKept part → IfOk said (λ x. x ≡ this (facts_in part))

-- from a part of a legal history: if it succeeds, it adds these changes by the part's facts
abbrev pub AddsFrom : {A E : Type 0} → UnitPart → Result A E → List RowEdit → List RowEdit → (Facts → List RowEdit)
    → Type 0
AddsFrom part said before after these = AreKept part → OnOk said (after ≡ before ++ these (facts_in part))

-- from a part of a legal history: if it succeeds, it adds the changes of a proposal
abbrev pub AddsProposal : {A E : Type 0} → UnitPart → Call → Proposal → List RowEdit → List RowEdit → Result A E
    → Type 0
AddsProposal part c proposal before after said = AreKept part → (u : Name)
    → OnOk said (after ≡ before ++ own_changes (facts_in part) c.person c.moment (Propose u proposal))

-- the first refusal of a change of a kind with this base, if any
abbrev pub refusal_of_kind : UnitPart → ℕ → ChangeKind → Option Refused
refusal_of_kind part base kind = first_refusal (kind_refusals (facts_in part) base kind)

-- from a part of a legal history: it gives this refusal, if any
abbrev pub RefusesFrom : {E : Type 0} → UnitPart → ℕ → ChangeKind → Result (Option Refused) E → Type 0
RefusesFrom part base kind said = AreKept part → Gives said (refusal_of_kind part base kind)

-- from a part of a legal history: the first refusal of a request on any unit, whoever makes it and when, if any
abbrev pub RefusesAlways : {E : Type 0} → UnitPart → (Name → Request) → Result (Option Refused) E → Type 0
RefusesAlways part request said = AreKept part → (t : ℕ) (p u : Name)
    → Gives said (first_refusal (own_refusals (facts_in part) p t (request u)))

-- the one change that is decided, or its refusal
abbrev pub GivesOne : {E : Type 0} → Result (Result RowEdit Refused) E → Result (List RowEdit) Refused → Type 0
GivesOne said decided = IfOk said (λ d. one_change d ≡ decided)

-- what is decided about a request that a person makes at a moment
abbrev pub DecidesAs : {E : Type 0} → UnitPart → Name → ℕ → Request → Result (Result RowEdit Refused) E → Type 0
DecidesAs part p t r said = GivesOne said (own_decision (facts_in part) p t r)

-- what is decided about a request on any unit, whoever makes it and when
abbrev pub DecidesAlways : {E : Type 0} → UnitPart → (Name → Request) → Result (Result RowEdit Refused) E → Type 0
DecidesAlways part request said = (t : ℕ) (p u : Name) → DecidesAs part p t (request u) said

-- what is decided about a request on any unit, made by the caller at the call's moment
abbrev pub Decides : {E : Type 0} → UnitPart → Call → (Name → Request) → Result (Result RowEdit Refused) E → Type 0
Decides part c request said = (u : Name) → DecidesAs part c.person c.moment (request u) said

-- from a part of a legal history: what is decided about a request on any unit, made by the caller at the call's moment
abbrev pub DecidesFrom : {E : Type 0} → UnitPart → Call → (Name → Request) → Result (Result RowEdit Refused) E → Type 0
DecidesFrom part c request said = AreKept part → Decides part c request said

-- what is answered to a request that a person makes at a moment
abbrev pub Answers : {E : Type 0} → UnitPart → Name → ℕ → Request → Result (Result Reply Refused) E → Type 0
Answers part p t r said = Gives said (own_answer (facts_in part) p t r)

-- what is answered to a request at a moment, whoever makes it
abbrev pub AnswersAnyone : {E : Type 0} → UnitPart → ℕ → Request → Result (Result Reply Refused) E → Type 0
AnswersAnyone part t r said = (p : Name) → Answers part p t r said

-- what is answered to a request on any unit, whoever makes it and when
abbrev pub AnswersAlways : {E : Type 0} → UnitPart → (Name → Request) → Result (Result Reply Refused) E → Type 0
AnswersAlways part request said = (t : ℕ) (p u : Name) → Answers part p t (request u) said

-- from a part of a legal history: the verdict on a change that the caller may approve
abbrev pub ApprovesFrom : {E : Type 0} → UnitPart → Call → ChangeRow → ChangeEntry → Result Verdict E → Type 0
ApprovesFrom part c change entry said = AreKept part
    → IfOk said (IsApproved (facts_in part) c.person c.moment change entry)

-- from a part of a legal history: the verdict on a call that makes this request
abbrev pub JudgesFrom : {E : Type 0} → UnitPart → Call → (Name → Request) → Result Verdict E → Type 0
JudgesFrom part c request said = AreKept part → (u : Name) → c.request ≡ request u
    → IfOk said (IsJudgedOwn (facts_in part) c)

-- from a part of a legal history: the verdict on an import of this file, by all events of the unit
abbrev pub JudgesImport : {E : Type 0} → UnitPart → Call → Result (List Event) BadFile → Result Verdict E → Type 0
JudgesImport part c file said = AreKept part → (u : Name) (es : List Event) → c.request ≡ Import u file
    → AreEventsFor part c.request es → IfOk said (IsJudgedOwn (facts_among part es) c)
