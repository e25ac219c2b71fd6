use Rattle.std.proofs.{Common.{rules, nat_lt}, lemmas.List.Sorted.{answers_always}}
use Rattle.plant_import.{specs.Numbers.{event_number}, proofs.public.Placed.{rise_is_told}}
use Rattle.plant_import.proofs.event_numbers.rise.Goals as goal

pub returns : goal.returns
returns c =
    rise_is_told event_number c.args.events.now c.is_sorted_by.result
    (c.is_sorted_by.ensures.cases (λ x y. nat_lt x.seq y.seq) (answers_always _ _ _ (λ f a r f' k. search rules)))
