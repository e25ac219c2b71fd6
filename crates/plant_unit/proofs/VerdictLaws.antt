-- Verdicts, from what was decided about a call.
use Rattle.std.proofs.Common.{ap, refl, subst, sym, ◌∙◌, Err, IfOk, IsOkAnd, List, None, Ok, Option, Result, Some, [], false, if◌then◌else◌, is_ok, not, true, ◌&&◌, ◌∷◌, ◌≡◌}
use Rattle.std.proofs.lemmas.Bool.{and_right}
use Rattle.plant_model.specs.{Calls.{own_refusals, reply}, Facts.{Facts}, Refusals.{first_refusal}}
use Rattle.plant_model.specs.steps.CallChanges.{changes_for, own_changes, unit_after}
use Rattle.plant_model.specs.{Verdicts.{changes_history, is_read, refused_or}, declared.call.{Call.{Call}, Request.{Request}}}
use Rattle.plant_model.specs.declared.{reply.{Refused.{Refused}, Reply.{Reply, TheVariants.{Done}}}, rows.Row.TheVariants.{Unit as UnitPut}}
use Rattle.plant_model.specs.declared.rows.{RowEdit.{RowEdit, TheVariants.{Put}}, UnitRow.{UnitRow}, Verdict.{Verdict}}
use Rattle.plant_model.specs.declared.rows.Verdict.TheVariants.{Accepted as IsAccepted, Refused as IsRefused}
use Rattle.plant_unit.specs.{Judged.{IsJudgedOwn, answered_as, own_decision, done_as, one_change, own_answer}, Additions.{decided_or}}

abbrev own : Facts → Call → Option Refused
own f c = first_refusal (own_refusals f c.person c.moment c.request)

abbrev says : Facts → Call → Reply
says f c = reply f c.moment c.request

-- refused by the first of its refusals
pub refused_own : (f : Facts) (c : Call) (x : Refused) → Some x ≡ own f c → IsJudgedOwn f c (IsRefused x)
refused_own f c x is = record {
  answer = ap (λ o. refused_or o (says f c)) is;
  changes = ap (λ o. if changes_history (refused_or o (says f c)) c then changes_for f c else []) is;
}

-- accepted, with its changes
pub made_own : (f : Facts) (c : Call) (said : Reply) (cs : List RowEdit) → None ≡ own f c → said ≡ says f c → is_read c.request ≡ false
    → cs ≡ changes_for f c → IsJudgedOwn f c (IsAccepted said cs)
made_own f c said cs none is changing made = record {
  answer = ap (λ (r : Reply). Ok r) is ∙ ap (λ o. refused_or o (says f c)) none;
  changes = made ∙ sym (ap (λ b. if not b then changes_for f c else []) changing)
      ∙ ap (λ o. if changes_history (refused_or o (says f c)) c then changes_for f c else []) none;
}

-- a read is answered and changes nothing
read_own : (f : Facts) (c : Call) (a : Result Reply Refused) → is_read c.request ≡ true → a ≡ own_answer f c.person c.moment c.request
    → IsJudgedOwn f c (answered_as a)
read_own f c a reads is =
    elim a as (λ a. a ≡ own_answer f c.person c.moment c.request
    → IsJudgedOwn f c (answered_as a)) [
      | Err x ↦ λ is. record { answer = is; changes = none }
      | Ok r ↦ λ is. record {
        answer = is;
        changes = none;
      }
    ] is where
      none : [] ≡ (if changes_history (own_answer f c.person c.moment c.request) c then changes_for f c else [])
      none = sym (ap (λ b. if is_ok (own_answer f c.person c.moment c.request) && not b then changes_for f c else []) reads
          ∙ ap (λ b. if b then changes_for f c else []) (and_right (is_ok (own_answer f c.person c.moment c.request)) false refl))

-- a change that was decided is made together with that of the unit's row
done_own : (f : Facts) (c : Call) (d : Result RowEdit Refused) → says f c ≡ Done → is_read c.request ≡ false
    → unit_after f c.moment c.request ≡ record f.unit { last_s = c.moment } → one_change d ≡ own_decision f c.person c.moment c.request
    → IsJudgedOwn f c (done_as (record f.unit { last_s = c.moment }) d)
done_own f c d is changing row made = by d (own f c) refl made where
  by : (d : Result RowEdit Refused) (o : Option Refused) → own f c ≡ o → one_change d ≡ decided_or o (own_changes f c.person c.moment c.request)
      → IsJudgedOwn f c (done_as (record f.unit { last_s = c.moment }) d)
  by (Err x) (Some y) e same = let it : x ≡ y = cc in refused_own f c x (ap (λ (z : Refused). Some z) it ∙ sym e)
  by (Ok change) None e same =
      let it : change ∷ [] ≡ own_changes f c.person c.moment c.request = cc in
      made_own f c Done (Put (UnitPut (record f.unit { last_s = c.moment })) ∷ change ∷ []) (sym e)
      (sym is) changing (λ i. Put (UnitPut (sym row i)) ∷ it i)
  by _ _ e same = cc

-- a call with its request
pub asked : {f : Facts} {c : Call} {v : Verdict} {q : Request} → c.request ≡ q
    → IsJudgedOwn f (record { person = c.person; moment = c.moment; request = q }) v → IsJudgedOwn f c v
asked {f} {c} {v} is = subst (λ q. IsJudgedOwn f (record { person = c.person; moment = c.moment; request = q }) v) (sym is)

pub done_for : {E : Type 0} (f : Facts) (c : Call) (r : Request) → c.request ≡ r → reply f c.moment r ≡ Done → is_read r ≡ false
    → unit_after f c.moment r ≡ record f.unit { last_s = c.moment } → (unit : UnitRow) → f.unit ≡ unit
    → (decided : Result (Result RowEdit Refused) E) (result : Result Verdict E)
    → IfOk decided (λ d. one_change d ≡ own_decision f c.person c.moment r)
    → IfOk result (λ v. IsOkAnd decided (λ d. v ≡ done_as (record unit { last_s = c.moment }) d))
    → IfOk result (IsJudgedOwn f c)
done_for f c r is says changing row unit its decided (Err e) made v = tt
done_for f c r is says changing row unit its (Err e) (Ok x) made v = absurd v
done_for f c r is says changing row unit its (Ok d) (Ok x) made v =
    subst (IsJudgedOwn f c) (sym (v ∙ ap (λ (u : UnitRow). done_as (record u { last_s = c.moment }) d) (sym its)))
    (asked is (done_own f _ d says changing row made))

pub read_for : {E : Type 0} (f : Facts) (c : Call) (r : Request) → c.request ≡ r → is_read r ≡ true
    → (answer : Result (Result Reply Refused) E) (result : Result Verdict E) → IfOk answer (λ a. a ≡ own_answer f c.person c.moment r)
    → IfOk result (λ v. IsOkAnd answer (λ a. v ≡ answered_as a)) → IfOk result (IsJudgedOwn f c)
read_for f c r is reads answer (Err e) said v = tt
read_for f c r is reads (Err e) (Ok x) said v = absurd v
read_for f c r is reads (Ok a) (Ok x) said v = subst (IsJudgedOwn f c) (sym v) (asked is (read_own f _ a reads said))
