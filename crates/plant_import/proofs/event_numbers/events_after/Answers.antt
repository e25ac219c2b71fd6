use Rattle.std.proofs.Common.{[], IfOk, ap, subst, ◌∙◌, ◌≡◌}
use Rattle.plant_import.{specs.Numbers.{with_events}, proofs.public.Counted.{put_twice}}
use Rattle.plant_import.proofs.event_numbers.events_after.Goals as goal

pub returns-clause-value : goal.returns-clause-value
returns-clause-value c =
    let kept = c.args.kept.now in
    let is = c.in_ok-rising.ensures.value ∙ ap (with_events []) c.in_ok-copy_all.ensures.value in
    subst (λ l. IfOk c.joined.result (λ all. all ≡ l)) (ap (with_events kept) is ∙ put_twice kept c.args.more.now c.as_slice.ensures.order)
    c.joined.ensures.value
