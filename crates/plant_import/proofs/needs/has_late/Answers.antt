use Rattle.std.proofs.{Common.{ap, arith, sym, ◌∙◌}, lemmas.List.{take_all, Folds.{list_any_at, list_any_more}}}
use Rattle.std.specs.List.{list_any}
use Rattle.plant_import.{specs.Reached.{is_passed}, proofs.public.NeededLaws.{late_told, none_late}}
use Rattle.plant_import.proofs.needs.has_late.Goals as goal

pub returns-then-count_before-len-clause-value : goal.returns-then-count_before-len-clause-value
returns-then-count_before-len-clause-value c =
    sym (none_late c.args.kept.now c.args.rows.now (sym c.count_before.ensures.value ∙ c.if-count_before-len.true ∙ c.len.ensures))

pub returns-then-is_overtaking-clause-value : goal.returns-then-is_overtaking-clause-value
returns-then-is_overtaking-clause-value c =
    let kept = c.args.kept.now in
    let rows = c.args.rows.now in
    let near = c.from_last_before-near.result.now in
    grind (
      arith,
      late_told kept rows near c.as_slice-events.ensures.order c.from_last_before-near.ensures.value,
      c.is_overtaking.ensures kept rows c.in_ok-firsts.ensures.value,
      list_any_at (λ k. is_passed kept rows k.tag k.seq) near c.loop-event.event-index c.event-item.result,
    )

pub loop-event-preserved : goal.loop-event-preserved
loop-event-preserved c =
    let kept = c.args.kept.now in
    let rows = c.args.rows.now in
    let near = c.from_last_before-near.result.now in
    grind (
      arith,
      c.loop-event.invariant,
      c.is_overtaking.ensures kept rows c.in_ok-firsts.ensures.value,
      list_any_more (λ k. is_passed kept rows k.tag k.seq) near c.loop-event.event-index c.event-item.result,
    )

pub returns-clause-value : goal.returns-clause-value
returns-clause-value c =
    let kept = c.args.kept.now in
    let rows = c.args.rows.now in
    let near = c.from_last_before-near.result.now in
    sym c.loop-event.invariant
    ∙ ap (list_any (λ k. is_passed kept rows k.tag k.seq)) (take_all c.loop-event.event-index near (omega (arith, c.loop-event-test.false)))
    ∙ late_told kept rows near c.as_slice-events.ensures.order c.from_last_before-near.ensures.value
