use Rattle.std.proofs.{Common.{List, ap, arith, rules, subst, sym, ◌++◌, ◌∙◌, ◌∷◌, ◌≡◌, []}, lemmas.List.{drop_all}}
use Rattle.plant_alarm.specs.declared.event.Event.{Event}
use Rattle.plant_import.specs.Numbers.{AreNumbered, event_number, with_events}
use Rattle.plant_import.proofs.public.{Counted.{order_puts}, Placed.{Rises, in_order_of, puts_next, rises_left, rises_of}}
use Rattle.plant_import.proofs.event_numbers.joined.Goals as goal

pub loop-event-init : goal.loop-event-init
loop-event-init c = (
  rw c.new-all.ensures (λ i. with_events (c.as_slice-rest.ensures.value i) (c.as_slice-events.ensures.value i)),
  subst (λ (l : List Event). Rises event_number l) (sym c.as_slice-rest.ensures.value) (rises_of event_number c.args.kept.now c.as_slice-rest.ensures.order),
)

pub loop-event-preserved : goal.loop-event-preserved
loop-event-preserved c =
    let so = c.loop-event.invariant in
    let rest = c.loop-event.rest.now in
    let below = c.split_at.result.0.now in
    let above = c.split_at.result.1.now in
    let events = c.as_slice-events.result.now in
    let e = c.event-item.result in
    let goes : Rises event_number events =
    subst (λ (l : List Event). Rises event_number l) (sym c.as_slice-events.ensures.value) (rises_of event_number c.args.more.now c.as_slice-events.ensures.order) in
    let pushed : c.push.new.self ≡ (c.loop-event.all ++ below) ++ e ∷ [] = search rules in
    let next =
    puts_next event_number c.loop-event.all rest events below above (with_events c.args.kept.now c.args.more.now) c.place_of.result
    c.loop-event.event-index e so.0 so.1 goes c.loop-event-test.true c.event-item.is
    (c.place_of.ensures.place (in_order_of event_number rest so.1)) c.place_of.ensures.bound c.split_at.ensures.front c.split_at.ensures.back in (
      rw (pushed, c.without_first-rest.ensures) next,
      rises_left event_number e.seq rest above c.without_first-rest.result.now c.place_of.result so.1
          c.split_at.ensures.back c.without_first-rest.ensures,
    )

pub of-requires : goal.of-requires
of-requires c =
    let i = c.loop-event.event-index in
    let events = c.as_slice-events.result.now in
    let all : c.push_all-2.new.all ≡ with_events c.args.kept.now c.args.more.now =
    c.in_ok-push_all-2.ensures.value
    ∙ ap (λ l. c.loop-event.all ++ with_events c.loop-event.rest.now l) (sym (drop_all i events (omega (arith, c.loop-event-test.false))))
    ∙ c.loop-event.invariant.0 in
    subst (λ (l : List Event). AreNumbered l) (sym all) (order_puts c.args.more.now c.args.kept.now c.as_slice-rest.ensures.order)

pub returns-clause-value : goal.returns-clause-value
returns-clause-value c =
    c.of.ensures ∙ c.in_ok-push_all-2.ensures.value
    ∙ ap (λ l. c.loop-event.all ++ with_events c.loop-event.rest.now l)
    (sym (drop_all c.loop-event.event-index c.as_slice-events.result.now (omega (arith, c.loop-event-test.false)))) ∙ c.loop-event.invariant.0
