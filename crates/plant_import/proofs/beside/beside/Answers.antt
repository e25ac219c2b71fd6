use Rattle.std.proofs.Common.{List, ap, arith, filter, subst, sym, take, ◌++◌, ◌∙◌, ◌∷◌, ◌≡◌, []}
use Rattle.std.proofs.lemmas.List.{take_all, Elements.{filter_more}}
use Rattle.plant_alarm.specs.declared.event.Event.{Event}
use Rattle.plant_import.{specs.{Needed.{is_beside}, Numbers.{AreNumbered}}, proofs.public.AroundLaws.{order_kept}}
use Rattle.plant_import.proofs.beside.beside.Goals as goal

pub loop-event-preserved : goal.loop-event-preserved
loop-event-preserved c =
    let kept = c.args.kept.now in
    let rows = c.args.rows.now in
    let events = c.as_slice-events.result.now in
    let i = c.loop-event.event-index in
    let e = c.event-item.result in
    c.in_ok-push_beside.ensures.value kept rows c.in_ok-tags.ensures.value c.in_ok-found.ensures.value
    ∙ ap (λ l. l ++ filter (is_beside kept rows) (e ∷ [])) c.loop-event.invariant
    ∙ ap (λ x. filter (is_beside kept rows) (take i events) ++ filter (is_beside kept rows) (x ∷ [])) c.event-item.is
    ∙ sym (filter_more (is_beside kept rows) events i e c.loop-event-test.true)

pub of-requires : goal.of-requires
of-requires c =
    let kept = c.args.kept.now in
    let rows = c.args.rows.now in
    let events = c.as_slice-events.result.now in
    subst (λ (l : List Event). AreNumbered l)
    (sym (c.loop-event.invariant
    ∙ ap (filter (is_beside kept rows)) (take_all c.loop-event.event-index events (omega (arith, c.loop-event-test.false)) ∙ c.as_slice-events.ensures.value)))
    (order_kept (is_beside kept rows) kept c.as_slice-events.ensures.order)

pub returns-clause-value : goal.returns-clause-value
returns-clause-value c =
    let kept = c.args.kept.now in
    let rows = c.args.rows.now in
    c.of.ensures ∙ c.loop-event.invariant
    ∙ ap (filter (is_beside kept rows))
    (take_all c.loop-event.event-index c.as_slice-events.result.now (omega (arith, c.loop-event-test.false)) ∙ c.as_slice-events.ensures.value)
