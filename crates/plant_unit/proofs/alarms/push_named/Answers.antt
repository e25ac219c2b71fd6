use Rattle.std.proofs.Common.{ap, refl, sym, ◌∙◌, ◌≡◌, List, Option, Bool, [], filter, if◌then◌else◌, map, option_to_list, take, ◌+◌, ◌++◌, ◌∷◌, append-nil}
use Rattle.plant_model.specs.declared.rows.{AlarmRow.{AlarmRow}, RowEdit.{RowEdit}}
use Rattle.plant_model.specs.steps.RowChanges.{state_put}
use Rattle.plant_unit.{specs.{Summaries.{has_event_of}, declared.alarms.Brought.{Brought}}, proofs.{AlarmLists.{marked, summarized}, alarms.push_named.Goals.{in-Some+in_ok-push, in_default}}}
use Rattle.plant_unit.proofs.public.Loops.{grown, passing_next}
use Rattle.plant_unit.proofs.alarms.push_named.Goals as goal

pub loop-i-preserved : goal.loop-i-preserved
loop-i-preserved c es fresh told =
    let r = c.index-alarms-i.result in
    let told_so =
    summarized es c.args.alarms.now c.as_slice-summaries.result.now c.loop-i.i r r c.index-summaries-i.result c.index-summaries-i.result
    (c.as_slice-summaries.ensures ∙ ap (λ (b : Brought). b.summaries) told) c.loop-i-test.true c.index-alarms-i.is c.index-summaries-i.is in
    let made : List RowEdit = map (state_put es) (filter (has_event_of fresh) (take c.loop-i.i c.args.alarms.now)) in
    let next = passing_next (has_event_of fresh) (state_put es) c.args.alarms.now c.loop-i.i r c.loop-i-test.true
    ∙ ap (λ (x : AlarmRow). made ++ (if has_event_of fresh x then state_put es x ∷ [] else [])) (sym c.index-alarms-i.is)
    ∙ ap (λ (b : Bool). made ++ (if b then state_put es r ∷ [] else []))
    (sym (marked fresh c.args.alarms.now c.as_slice-named.result.now c.loop-i.i r r _ _ (c.as_slice-named.ensures ∙ ap (λ (b : Brought). b.named) told)
    c.loop-i-test.true c.index-alarms-i.is refl))
    ∙ ap (λ (l : List RowEdit). made ++ l) (sym (c.in_ok-change.ensures.value es told_so)) in
    let grows : (new : List RowEdit) → new ≡ c.loop-i.changes ++ option_to_list c.in_ok-change.field-0
    → new ≡ c.args.changes.now ++ map (state_put es) (filter (has_event_of fresh) (take (c.loop-i.i + 1) c.args.alarms.now)) =
    λ new pushed. grown c.args.changes.now c.loop-i.changes new made _ _ pushed (c.loop-i.invariant es fresh told) next in
    elim c.match-branch-2.branch [
      | in-Some+in_ok-push w ↦ grows c.match-branch-2.changes (w.changes-is ∙ w.in_ok-push.ensures.ok
          ∙ ap (λ (o : Option RowEdit). c.loop-i.changes ++ option_to_list o) (sym w.in-Some.is))
      | in_default w ↦ grows c.match-branch-2.changes (w.changes-is ∙ sym (append-nil c.loop-i.changes)
          ∙ ap (λ (o : Option RowEdit). c.loop-i.changes ++ option_to_list o) (sym w.in_default.is))
    ]
