-- From the facts of a part to the history whose rows it is of.
use Rattle.std.{specs.List.{slice_get}, proofs.lemmas.{Bool.{false_from_ne_true}, Result.{IfOk-weaker}}}
use Rattle.std.proofs.Common.{ap, refl, subst, sym, ◌∙◌, Bool, Err, IfOk, List, None, Option, Result, Some, [], false, if◌then◌else◌, true, ℕ, ◌∷◌, ◌≡◌}
use Rattle.plant_model.specs.{Events.{events}, Facts.{facts}, Legality.{IsLegal}}
use Rattle.plant_model.specs.steps.CallChanges.{changes_for}
use Rattle.plant_model.specs.Refusals.{holds_some}
use Rattle.plant_model.specs.steps.Parts.{none, part_of, part_of_holder, part_of_stranger}
use Rattle.plant_model.specs.Rows.{rows_of, unit_row}
use Rattle.plant_model.specs.steps.{RowChanges.{changed_by, no_rows, puts_unit}, RowFacts.{facts_among, facts_in, holds_by}}
use Rattle.plant_model.specs.{Verdicts.{changes_history, is_opening, verdict, verdict_of}, declared.call.{Call.{Call}, Request.{Request}}}
use Rattle.plant_model.specs.declared.{call.Request.TheVariants.{Floods, Import, OpenUnit}, reply.Refused.TheVariants.{NotGranted}}
use Rattle.plant_model.specs.declared.{reply.Reply.TheVariants.{Done}, rows.{RowEdit.{RowEdit}, UnitPart.{UnitPart}, UnitRows.{UnitRows}}}
use Rattle.plant_model.specs.declared.rows.Verdict.{Verdict, TheVariants.{Accepted as IsAccepted, Refused as IsRefused}}
use Rattle.plant_model.proofs.public.{AcceptLaws.{accepted_turns}, ChangeLaws.{opening_turns}, WorldLaws.{not_granted, refused_changes}}
use Rattle.plant_model.proofs.public.{PartLaws.{part_changes, part_held, part_verdict, stranger_verdict}, ReadLaws.{facts-rows}}
use Rattle.plant_types.specs.{Names.{Name}, declared.fault.Fault.{Fault}}
use Rattle.plant_unit.specs.{Additions.{AreEventsFor, AreKept}, Judged.{IsJudged, IsOpening, IsPartOf, IsVerdictOn, SaysHeld, is_import}}
use Rattle.plant_unit.proofs.KeptLaws.{part_events, part_kept_of}
use Rattle.plant_alarm.specs.declared.event.Event.{Event}

changed_if : (h : List Call) (c : Call) (b : Bool) → (b ≡ true → changed_by (changes_for (facts h) c) (rows_of h) ≡ rows_of (c ∷ h))
    → changed_by (if b then changes_for (facts h) c else []) (rows_of h) ≡ rows_of (if b then c ∷ h else h)
changed_if h c true turns = turns refl
changed_if h c false turns = refl

judged : (h : List Call) → IsLegal h → (c : Call) (v : Verdict) → is_opening c.request ≡ false → IsJudged (facts h) c v → IsVerdictOn h c v
judged h legal c v plain j =
    record {
      answer = j.answer;
      changes = ap (λ cs. changed_by cs (rows_of h)) j.changes
          ∙ changed_if h c (changes_history (verdict h c) c) (accepted_turns h c.person c.moment legal c.request plain);
      none = λ e. j.changes ∙ ap (λ b. if b then changes_for (facts h) c else []) e;
      puts = λ e. ap puts_unit j.changes ∙ ap (λ b. puts_unit (if b then changes_for (facts h) c else [])) e;
    }

-- the facts of the part give what the facts of the history give
part_judged : (h : List Call) → IsLegal h → (c : Call) (v : Verdict) → IsJudged (facts_among (part_of c (rows_of h)) (events h)) c v
    → IsJudged (facts h) c v
part_judged h legal c v j = by (holds_by (rows_of h).grants c.moment c.person) refl where
  rows : UnitRows
  rows = rows_of h

  verdicts : verdict_of (facts_among (part_of c rows) (events h)) c ≡ verdict h c
  verdicts = part_verdict rows c.person c.moment c.request ∙ ap (λ f. verdict_of f c) (facts-rows h legal)

  by : (b : Bool) → holds_by rows.grants c.moment c.person ≡ b → IsJudged (facts h) c v
  by true some =
      let changes : changes_for (facts_among (part_of c rows) (events h)) c ≡ changes_for (facts h) c =
      part_changes rows c.person c.moment c.request some ∙ ap (λ f. changes_for f c) (facts-rows h legal) in
      record {
        answer = j.answer ∙ verdicts;
        changes = j.changes ∙ (λ i. if changes_history (verdicts i) c then changes i else []);
      }
  by false none =
      let refused : verdict h c ≡ Err NotGranted = sym (ap (λ f. verdict_of f c) (facts-rows h legal))
      ∙ stranger_verdict rows c.person c.moment c.request none in
      let unchanged : changes_history (verdict h c) c ≡ false = false_from_ne_true _ (refused_changes (verdict h c) c NotGranted refused) in
      record {
        answer = j.answer ∙ verdicts;
        changes = j.changes
            ∙ ap (λ b. if b then changes_for (facts_among (part_of c rows) (events h)) c else []) (ap (λ x. changes_history x c) verdicts ∙ unchanged)
            ∙ sym (ap (λ b. if b then changes_for (facts h) c else []) unchanged);
      }

-- a code that was never opened
judged_unopened : (c : Call) → IsVerdictOn [] c (IsRefused NotGranted)
judged_unopened c =
    let answer : verdict [] c ≡ Err NotGranted = not_granted [] c refl in
    let unchanged : changes_history (verdict [] c) c ≡ false = false_from_ne_true _ (refused_changes (verdict [] c) c NotGranted answer) in
    record {
      answer = sym answer;
      changes = sym (ap (λ b. rows_of (if b then c ∷ [] else [])) unchanged);
      none = λ _. refl;
      puts = λ e. cc;
    }

pub judged_none : (h : List Call) (c : Call) (o : Option UnitPart) → o ≡ None → IsPartOf o h c → IsVerdictOn h c (IsRefused NotGranted)
judged_none h c o none left = subst (λ k. IsVerdictOn k c (IsRefused NotGranted)) (sym (subst (λ x. IsPartOf x h c) none left)) (judged_unopened c)

pub judged_some : (h : List Call) (part : UnitPart) (c : Call) (o : Option UnitPart) (r : Result Verdict Fault) → is_opening c.request ≡ false
    → o ≡ Some part → IsPartOf o h c → IfOk r (IsJudged (facts_among part (events h)) c) → IfOk r (IsVerdictOn h c)
judged_some h part c o r plain some left =
    let known : IsPartOf (Some part) h c = subst (λ x. IsPartOf x h c) some left in
    IfOk-weaker r (IsJudged (facts_among part (events h)) c) (IsVerdictOn h c)
    (λ v j. judged h known.1 c v plain (part_judged h known.1 c v (subst (λ x. IsJudged (facts_among x (events h)) c v) known.0 j)))

-- what a legal history keeps is in its parts
pub part_kept : (h : List Call) (part : UnitPart) (c : Call) (o : Option UnitPart) → o ≡ Some part → IsPartOf o h c → AreKept part
part_kept h part c o some left =
    let known : IsPartOf (Some part) h c = subst (λ x. IsPartOf x h c) some left in
    subst (λ (x : UnitPart). AreKept x) (sym known.0) (part_kept_of h known.1 c.person c.moment c.request)

-- a part of a history states whether the caller holds a role
pub says_held : (h : List Call) (part : UnitPart) (c : Call) (o : Option UnitPart) → o ≡ Some part → IsPartOf o h c → SaysHeld part c
unfolding holds_some
says_held h part c o some left =
    let known : IsPartOf (Some part) h c = subst (λ x. IsPartOf x h c) some left in
    subst (λ (x : UnitPart). x.held ≡ holds_by x.rows.grants c.moment c.person) (sym known.0) (part_held (rows_of h) c.person c.moment c.request)

-- the events that a holder's call sees are those of the history
pub part_seen : (h : List Call) (part : UnitPart) (c : Call) (o : Option UnitPart) → o ≡ Some part → IsPartOf o h c
    → holds_some (facts_in part) c.moment c.person ≡ true → AreEventsFor part c.request (events h)
unfolding holds_some
part_seen h part c o some left =
    let known : IsPartOf (Some part) h c = subst (λ x. IsPartOf x h c) some left in
    subst (λ (x : UnitPart). holds_by x.rows.grants c.moment c.person ≡ true → AreEventsFor x c.request (events h)) (sym known.0)
    (part_events h known.1 c)

-- a call that is not an import is judged alike whatever the unit's events are, unless it lists floods
judged_at : (part : UnitPart) (es : List Event) (p : Name) (t : ℕ) (q : Request) (v : Verdict) → is_import q ≡ false → AreEventsFor part q es
    → IsJudged (facts_in part) (record { person = p; moment = t; request = q }) v
    → IsJudged (facts_among part es) (record { person = p; moment = t; request = q }) v
unfolding holds_some
judged_at part es p t (Import u file) v plain seen j = cc
judged_at part es p t (Floods u begin until) v plain seen j =
    subst (λ l. IsJudged (facts_among part l) (record { person = p; moment = t; request = Floods u begin until }) v) seen j
judged_at part es p t _ v plain seen j = record { answer = j.answer; changes = j.changes }

pub judged_among : {E : Type 0} (part : UnitPart) (es : List Event) (c : Call) (r : Result Verdict E) → is_import c.request ≡ false
    → AreEventsFor part c.request es → IfOk r (IsJudged (facts_in part) c) → IfOk r (IsJudged (facts_among part es) c)
judged_among part es c r plain seen =
    IfOk-weaker r (IsJudged (facts_in part) c) (IsJudged (facts_among part es) c) (λ v. judged_at part es c.person c.moment c.request v plain seen)

part_units : (c : Call) (rows : UnitRows) → (part_of c rows).rows.units ≡ rows.units
part_units c rows =
    elim (holds_by rows.grants c.moment c.person) as (λ b. (if b then part_of_holder c rows else part_of_stranger c rows).rows.units
    ≡ rows.units) [ true ↦ refl | false ↦ refl ]

-- a part of a history's rows has the unit's row
pub has_unit : (h : List Call) (part : UnitPart) (c : Call) (o : Option UnitPart) → o ≡ Some part → IsPartOf o h c
    → slice_get part.rows.units 0 ≡ None → ⊥
has_unit h part c o some left none =
    let is : part ≡ part_of c (rows_of h) = (subst (λ x. IsPartOf x h c) some left).0 in
    let no : None ≡ Some (unit_row h) = sym none ∙ ap (λ x. slice_get x.rows.units 0) is ∙ ap (λ us. slice_get us 0) (part_units c (rows_of h)) in
    cc

-- an opening
opened_rows : (p : Name) (t : ℕ) (q : Request) → is_opening q ≡ true
    → changed_by (changes_for (facts []) (record { person = p; moment = t; request = q })) no_rows
    ≡ rows_of (record { person = p; moment = t; request = q } ∷ [])
opened_rows p t (OpenUnit u s m k) e = opening_turns p t u s m k
opened_rows p t _ e = cc

pub opened_verdict : (admin taken : Bool) (c : Call) (cs : List RowEdit) → admin ≡ true → taken ≡ false → is_opening c.request ≡ true
    → cs ≡ changes_for (facts []) c → IsOpening admin taken c (IsAccepted Done cs)
opened_verdict true false c cs a t e is =
    record {
      answer = refl;
      changes = λ _. ap (λ cs. changed_by cs no_rows) is ∙ opened_rows c.person c.moment c.request e;
      none = λ no. cc;
      puts = λ _. ap puts_unit is;
    }
opened_verdict _ _ c cs a t e is = cc
