use Rattle.std.proofs.{Common.{List, ap, append-nil, append_assoc, arith, subst, sym, take, ◌+◌, ◌++◌, ◌∙◌, ◌∷◌, ◌≡◌, []}, lemmas.List.{take_all, take_more}}
use Rattle.plant_alarm.specs.declared.event.Event.{Event}
use Rattle.plant_import.specs.Reached.{HaveNumbers}
use Rattle.plant_import.proofs.beside.Neighbours.put_all.Goals as goal

pub loop-event-preserved : goal.loop-event-preserved
loop-event-preserved c es have =
    let events = c.args.events.now in
    let i = c.loop-event.event-index in
    let e = c.event-item.result in
    let more : (es ++ take i events) ++ e ∷ [] ≡ es ++ take (i + 1) events =
    append_assoc es (take i events) (e ∷ [])
    ∙ ap (λ l. es ++ l) (sym (take_more events i e c.loop-event-test.true ∙ ap (λ x. take i events ++ x ∷ []) (sym c.event-item.is))) in
    subst (λ (l : List Event). HaveNumbers c.put.new.self l) more (c.in_ok-put.ensures.value (es ++ take i events) (c.loop-event.invariant es have))

pub returns-clause-value : goal.returns-clause-value
returns-clause-value c es have =
    let events = c.args.events.now in
    subst (λ (l : List Event). HaveNumbers c.loop-event.self (es ++ l))
    (take_all c.loop-event.event-index events (omega (arith, c.loop-event-test.false))) (c.loop-event.invariant es have)
