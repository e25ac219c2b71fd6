use Rattle.std.proofs.Common.{None, false, rules, sym, ◌∙◌, ◌≡◌}
use Rattle.plant_model.specs.Refusals.{holds_some}
use Rattle.plant_model.specs.steps.RowFacts.{facts_among, facts_in}
use Rattle.plant_unit.{specs.Judged.{is_import}, proofs.{ImportsJudged.{holder_holds, own_result, refused_judged}, JudgedLaws.{judged_among}}}
use Rattle.plant_unit.proofs.judgement.judge_part.Goals as goal

pub returns-in-Some-clause-value : goal.returns-in-Some-clause-value
unfolding holds_some
returns-in-Some-clause-value c held kept es seen =
    refused_judged (facts_among c.args.part.now es) c.args.call.now c.in-Some.refused (sym (c.holder_refusal.ensures held) ∙ c.in-Some.is)

pub returns-in-Import-clause-value : goal.returns-in-Import-clause-value
unfolding holds_some
returns-in-Import-clause-value c held kept es seen =
    let none : c.holder_refusal.result ≡ None = search rules in
    own_result (facts_among c.args.part.now es) c.args.call.now c.judge_import.result c.holder_refusal.result (c.holder_refusal.ensures held) none
    (c.judge_import.ensures.value kept c.in-Import.unit es c.in-Import.is
    (seen (holder_holds (facts_in c.args.part.now) c.args.call.now c.holder_refusal.result (c.holder_refusal.ensures held) none)))

pub returns-in_default-request : goal.returns-in_default-request
returns-in_default-request c =
    record {
      value = λ held kept es seen.
          let none : c.holder_refusal.result ≡ None = search rules in
          let plain : is_import c.args.call.now.request ≡ false = search rules in
          judged_among c.args.part.now es c.args.call.now c.judge_own.result plain
          (seen (holder_holds (facts_in c.args.part.now) c.args.call.now c.holder_refusal.result (c.holder_refusal.ensures held) none))
          (own_result (facts_in c.args.part.now) c.args.call.now c.judge_own.result c.holder_refusal.result (c.holder_refusal.ensures held) none
          (c.judge_own.ensures.value kept));
      err = c.judge_own.ensures.err;
    }
