use Rattle.std.proofs.Common.{[], ap, filter, length, refl, ◌∙◌}
use Rattle.plant_import.specs.Numbers.{is_other, with_events}
use Rattle.plant_import.proofs.public.Counted.{counted_rising, order_puts, same_count}
use Rattle.plant_import.proofs.event_numbers.count_new.Goals as goal

pub returns-then-rise-clause-value : goal.returns-then-rise-clause-value
returns-then-rise-clause-value c = c.count_others.ensures ∙ counted_rising c.args.kept.now c.args.file.now (c.if-rise.ensures.0 refl)

pub returns-clause-value : goal.returns-clause-value
returns-clause-value c =
    let is = c.as_slice.ensures.value ∙ c.in_ok-rising.ensures.value ∙ ap (with_events []) c.in_ok-copy_all.ensures.value in
    c.count_others-2.ensures ∙ ap (λ l. length (filter (is_other c.args.kept.now) l)) is
    ∙ counted_rising c.args.kept.now (with_events [] c.args.file.now) (order_puts c.args.file.now [] tt)
    ∙ same_count c.args.kept.now c.args.file.now
