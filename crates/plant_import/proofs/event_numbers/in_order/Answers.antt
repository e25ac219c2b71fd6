use Rattle.std.proofs.{Common.{[], ap, map, subst, sym, ◌++◌, ◌∙◌, ◌≡◌}, lemmas.List.{append-nil}}
use Rattle.plant_import.{specs.Numbers.{AreNumbered, with_events}, proofs.{ByNumber.{values_are}, public.Counted.{order_puts}}}
use Rattle.plant_import.proofs.event_numbers.in_order.Goals as goal

pub of-requires : goal.of-requires
of-requires c =
    let all : c.loop-event.rising ≡ with_events [] c.args.events =
    sym (append-nil c.loop-event.rising) ∙ ap (λ l. c.loop-event.rising ++ l) (sym c.in-None.ensures.steps.0) ∙ c.loop-event.invariant
    ∙ c.into_iter-event-iterator.ensures.into_iter_gives ∙ c.into_values-event-items.ensures.rest
    ∙ ap (map (λ e. e.1)) c.in_ok-by_number.ensures.value ∙ values_are (with_events [] c.args.events) in
    subst (λ l. AreNumbered l) (sym all) (order_puts c.args.events [] tt)

pub returns-clause-value : goal.returns-clause-value
returns-clause-value c =
    c.of.ensures ∙ sym (append-nil c.loop-event.rising) ∙ ap (λ l. c.loop-event.rising ++ l) (sym c.in-None.ensures.steps.0)
    ∙ c.loop-event.invariant ∙ c.into_iter-event-iterator.ensures.into_iter_gives ∙ c.into_values-event-items.ensures.rest
    ∙ ap (map (λ e. e.1)) c.in_ok-by_number.ensures.value ∙ values_are (with_events [] c.args.events)
