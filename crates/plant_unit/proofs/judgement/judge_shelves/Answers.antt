use Rattle.std.proofs.Common.{None, ap, false, refl, rules, sym, ◌∙◌, ◌≡◌}
use Rattle.plant_model.specs.Refusals.{holds_some}
use Rattle.plant_model.specs.declared.call.Request.TheVariants.{Shelves as ShelvesCall}
use Rattle.plant_model.specs.steps.RowFacts.{facts_among, facts_in}
use Rattle.plant_unit.{specs.Judged.{is_import}, proofs.{ImportsJudged.{holder_holds, own_result, refused_judged}, JudgedLaws.{judged_among}, VerdictLaws.{read_for}}}
use Rattle.plant_unit.proofs.judgement.judge_shelves.Goals as goal

pub returns-in-Some-clause-value : goal.returns-in-Some-clause-value
unfolding holds_some
returns-in-Some-clause-value c held kept es seen =
    refused_judged (facts_among c.args.part.now es) c.args.call.now c.in-Some.refused (sym (c.holder_refusal.ensures held) ∙ c.in-Some.is)

pub returns-in-None-clause-value : goal.returns-in-None-clause-value
unfolding holds_some
returns-in-None-clause-value c held kept es seen =
    let part = c.args.part.now in
    let call = c.args.call.now in
    let none : c.holder_refusal.result ≡ None = search rules in
    let plain : is_import call.request ≡ false = ap is_import c.requires.asked in
    judged_among part es call c.answer.result plain (seen (holder_holds (facts_in part) call c.holder_refusal.result (c.holder_refusal.ensures held) none))
    (own_result (facts_in part) call c.answer.result c.holder_refusal.result (c.holder_refusal.ensures held) none
    (read_for (facts_in part) call (ShelvesCall c.args.code.now) c.requires.asked refl c.take_shelves.result c.answer.result
    (c.take_shelves.ensures.value call.person) c.answer.ensures.value))
