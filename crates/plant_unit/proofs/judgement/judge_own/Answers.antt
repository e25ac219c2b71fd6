use Rattle.std.proofs.Common.{refl, sym, ◌∙◌}
use Rattle.plant_model.specs.steps.RowFacts.{facts_in}
use Rattle.plant_unit.proofs.VerdictLaws.{read_for}
use Rattle.plant_unit.proofs.judgement.judge_own.Goals as goal

pub returns-then-is_read-clause-value : goal.returns-then-is_read-clause-value
returns-then-is_read-clause-value c kept =
    read_for (facts_in c.args.part.now) c.args.call.now c.args.call.now.request refl (sym c.is_read.ensures ∙ c.if-is_read.true)
    c.answer_to.result c.answer.result (c.answer_to.ensures.value kept) c.answer.ensures.value
