use Rattle.std.proofs.Common.{ap, option_copied, slice_get, sym, ◌∙◌}
use Rattle.plant_unit.proofs.JudgedLaws.{has_unit, judged_some, judged_none, part_kept, part_seen, says_held}
use Rattle.plant_model.specs.Events.{events}
use Rattle.plant_unit.proofs.judgement.judge_taking.Goals as goal

pub returns-in_default-given-clause-value : goal.returns-in_default-given-clause-value
returns-in_default-given-clause-value c = λ h left. judged_none h c.args.call.now c.args.given.now c.in_default-given.is left

pub returns-clause-value : goal.returns-clause-value
returns-clause-value c = λ h left.
    let part = c.in-Some.from in
    let call = c.args.call.now in
    let given = c.args.given.now in
    judged_some h part call given c.judge_shelves.result c.requires c.in-Some.is left
    (c.judge_shelves.ensures.value (says_held h part call given c.in-Some.is left) (part_kept h part call given c.in-Some.is left) (events h)
    (part_seen h part call given c.in-Some.is left))

pub returns-in_default-first-clause-value : goal.returns-in_default-first-clause-value
returns-in_default-first-clause-value c = λ h left.
    absurd (has_unit h c.in-Some.from c.args.call.now c.args.given.now c.in-Some.is left
    (ap (λ us. slice_get us 0) (sym c.as_slice.ensures) ∙ sym c.first.ensures.value ∙ ap option_copied c.in_default-first.is))
