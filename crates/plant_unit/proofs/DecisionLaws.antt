-- Calls on changes: what a decision makes.
use Rattle.std.proofs.Common.{ap, refl, sym, ◌∙◌, Bool, Err, List, None, Ok, Option, Result, Some, [], false, if◌then◌else◌, is_ok, true, ℕ, ◌&&◌, ◌∷◌, ◌≡◌}
use Rattle.plant_model.specs.{Calls.{own_refusals}, Facts.{Facts}, Refusals.{first_refusal, kind_refusals, of_change}}
use Rattle.plant_model.specs.steps.CallChanges.{changes_for}
use Rattle.plant_model.specs.steps.RowChanges.{approval_changes, approved_row, decision_change, for_change, in_force, kind_row}
use Rattle.plant_model.specs.{Rows.{change_entry}, Verdicts.{refused_or}}
use Rattle.plant_model.specs.steps.RowFacts.{change_found, change_read}
use Rattle.plant_model.specs.declared.{call.{Call.{Call}, Request.TheVariants.{Approve}}, reply.{ChangeRow.{ChangeRow}, Refused.{Refused}}}
use Rattle.plant_model.specs.declared.{reply.{Refused.TheVariants.{SamePerson}, Reply.{Reply, TheVariants.{Done}}}, rows.ChangeEntry.{ChangeEntry}}
use Rattle.plant_model.specs.declared.rows.{Row.TheVariants.{Change as ChangePut, Unit as UnitPut}, RowEdit.{RowEdit, TheVariants.{Put}}}
use Rattle.plant_model.{specs.declared.rows.{UnitPart.{UnitPart}, Verdict.{Verdict}}, proofs.public.HistoryLaws.{when_Some}}
use Rattle.plant_ration.specs.declared.change.ChangeState.{ChangeState, TheVariants.{Approved}}
use Rattle.plant_types.specs.Names.{Name, same_name}
use Rattle.plant_unit.specs.{Additions.{AreKept, decided_or}, Judged.{IsApproved, IsJudgedOwn, decided_row, own_answer}}
use Rattle.plant_unit.{specs.Readings.{change_whole, has_kind}, proofs.ProposalLaws.{not_rejected}}

-- in a legal history nothing of a change is missing
pub whole_read : {part : UnitPart} (n : ℕ) (e : ChangeEntry) (c : ChangeRow) → AreKept part → Some e ≡ change_found part.rows n
    → Some c ≡ change_whole part.rows e → c ≡ change_read part.rows e
whole_read {part} n e c kept found is = sym (when_Some (has_kind part.rows e e.kind_no) (change_read part.rows e) c (sym is))

-- a decision on an existing change
pub refused_change : (o : Option ChangeRow) (c : ChangeRow) → Some c ≡ o
    → (k : ChangeRow → List (Bool × Refused)) (made : ChangeRow → List RowEdit) (x : Refused) → Some x ≡ first_refusal (of_change (Some c) k)
    → Err x ≡ decided_or (first_refusal (of_change o k)) (for_change o made)
refused_change o c there k made x is = ap (λ r. decided_or r (made c)) is
    ∙ (λ i. decided_or (first_refusal (of_change (there i) k)) (for_change (there i) made))

pub decided_change : (o : Option ChangeRow) (c : ChangeRow) (e : ChangeEntry) → Some c ≡ o → change_entry c ≡ e
    → (k : ChangeRow → List (Bool × Refused)) (s : ChangeState) (p : Name) (t : ℕ) (put : RowEdit) → put ≡ Put (ChangePut (decided_row s p t e))
    → None ≡ first_refusal (of_change (Some c) k)
    → Ok (put ∷ []) ≡ decided_or (first_refusal (of_change o k)) (for_change o (λ x. decision_change s p t x ∷ []))
decided_change o c e there kept k s p t put is none =
    (λ i. Ok (is i ∷ [])) ∙ (λ i. Ok (Put (ChangePut (decided_row s p t (sym kept i))) ∷ []))
    ∙ ap (λ r. decided_or r (decision_change s p t c ∷ [])) none
    ∙ (λ i. decided_or (first_refusal (of_change (there i) k)) (for_change (there i) (λ x. decision_change s p t x ∷ [])))

pub refused_there : (o : Option ChangeRow) (c : ChangeRow) → Some c ≡ o → (p : Name) (x : Refused)
    → Some x ≡ first_refusal (of_change (Some c) (λ y. (same_name p y.proposer, SamePerson) ∷ []))
    → Some x ≡ first_refusal (of_change o (λ y. (same_name p y.proposer, SamePerson) ∷ []))
refused_there o c there p x is = is ∙ ap (λ z. first_refusal (of_change z (λ y. (same_name p y.proposer, SamePerson) ∷ []))) there

-- an approval
module _ (f : Facts) (p : Name) (t : ℕ) (u : Name) (n : ℕ) (c : ChangeRow) (e : ChangeEntry) (there : Some c ≡ f.change n)
    (kept : change_entry c ≡ e) where
  abbrev call : Call
  call = record { person = p; moment = t; request = Approve u n }

  abbrev answer : Result Reply Refused
  answer = own_answer f p t (Approve u n)

  abbrev begin : ChangeEntry → List RowEdit
  begin row = Put (UnitPut (kind_row t f.unit c.number c.kind)) ∷ Put (ChangePut (decided_row Approved p t row)) ∷ in_force f c.number c.kind

  made : begin e ≡ changes_for f call
  made = (λ i. begin (sym kept i)) ∙ (λ i. Put (UnitPut (approved_row t f.unit (there i))) ∷ for_change (there i) (approval_changes f p t))

  pub approved_here : None ≡ first_refusal (of_change (Some c) (λ x. (same_name p x.proposer, SamePerson) ∷ [])) → (v : Verdict)
      → IsApproved f p t c e v → IsJudgedOwn f call v
  approved_here none v a =
      let own : first_refusal (kind_refusals f c.base c.kind) ≡ first_refusal (own_refusals f p t (Approve u n)) =
      not_rejected (f.change n) (λ x. same_name p x.proposer) (λ x. kind_refusals f x.base x.kind) c
      (none ∙ ap (λ o. first_refusal (of_change o (λ x. (same_name p x.proposer, SamePerson) ∷ []))) there) there in
      let says = a.answer ∙ ap (λ o. refused_or o Done) own in
      record {
        answer = says;
        changes = a.changes ∙ (λ i. if is_ok (says i) then begin e else [])
            ∙ elim (is_ok answer) as (λ b. (if b then begin e else []) ≡ (if b && true then begin e else [])) [ true ↦ refl | false ↦ refl ]
            ∙ (λ i. if is_ok answer && true then made i else []);
      }
