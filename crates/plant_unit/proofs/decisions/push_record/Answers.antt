use Rattle.std.{specs.Result.{result_err}, proofs.{Common.{ap, arith, sym, ◌∙◌}, lemmas.Grind.{common_steps}}}
use Rattle.plant_model.specs.steps.RowFacts.{facts_in}
use Rattle.plant_unit.proofs.ProposalLaws.{record_made, refusal_told}
use Rattle.plant_unit.proofs.decisions.push_record.Goals as goal

pub returns-in-Err-clause-refused : goal.returns-in-Err-clause-refused
returns-in-Err-clause-refused c kept = ap result_err (sym c.in-Err.is ∙ c.in_ok-refused.ensures.value kept) ∙ refusal_told _ _

pub returns-clause-added : goal.returns-clause-added
returns-clause-added c kept none =
    let f = facts_in c.args.part.now in
    let made =
    record_made f c.args.change.now.base c.args.proposed.tag.now c.args.proposed.sheet.now c.in-Ok.cell (sym c.in-Ok.is ∙ c.in_ok-refused.ensures.value kept) in
    let fits = kept.record_fits c.args.proposed.tag.now in
    grind (arith, common_steps)
