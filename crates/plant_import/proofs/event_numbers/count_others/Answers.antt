use Rattle.std.proofs.{Common.{ap, arith, filter, length, ◌∙◌}, lemmas.List.{take_all}}
use Rattle.plant_import.specs.Numbers.{is_other}
use Rattle.plant_import.proofs.event_numbers.count_others.Goals as goal

pub returns : goal.returns
returns c =
    c.loop-event.invariant.new
    ∙ ap (λ l. length (filter (is_other c.args.kept.now) l)) (take_all c.loop-event.event-index c.args.rows.now (omega (arith, c.loop-event-test.false)))
