use Rattle.std.proofs.Common.{List, ap, append_assoc, arith, sym, take, ◌++◌, ◌+◌, ◌∙◌, ◌∷◌, ◌≡◌, []}
use Rattle.std.proofs.lemmas.List.{take_all, take_more}
use Rattle.plant_alarm.specs.declared.event.Event.{Event}
use Rattle.plant_unit.specs.Alarms.{brought}
use Rattle.plant_unit.proofs.alarms.add_events.Goals as goal

pub loop-event-preserved : goal.loop-event-preserved
loop-event-preserved c =
    let events = c.args.events.now in
    let i = c.loop-event.event-index in
    let e = c.event-item.result in
    let more : (xs : List Event) → (xs ++ take i events) ++ e ∷ [] ≡ xs ++ take (i + 1) events =
    λ xs. append_assoc xs (take i events) (e ∷ [])
    ∙ ap (λ l. xs ++ l) (sym (take_more events i e (omega arith) ∙ ap (λ x. take i events ++ x ∷ []) (sym c.event-item.is))) in
    record {
      summaries_long = c.add_event.ensures.summaries ∙ c.loop-event.invariant.summaries_long;
      named_long = c.add_event.ensures.named ∙ c.loop-event.invariant.named_long;
      so = λ es fresh before. c.add_event.ensures.value (es ++ take i events) (fresh ++ take i events) (c.loop-event.invariant.so es fresh before)
          ∙ (λ j. brought c.args.alarms.now (more es j) (more fresh j));
    }

pub returns-clause-value : goal.returns-clause-value
returns-clause-value c es fresh before =
    let events = c.args.events.now in
    let all : take c.loop-event.event-index events ≡ events = take_all c.loop-event.event-index events (omega arith) in
    c.loop-event.invariant.so es fresh before ∙ (λ j. brought c.args.alarms.now (es ++ all j) (fresh ++ all j))
