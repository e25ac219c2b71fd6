use Rattle.std.proofs.{lemmas.Result.{IfOk-weaker}, Common.{◌∙◌, ◌-◌, ap, ◌/◌}}
use Rattle.plant_floods.proofs.Active.{counts_at, few_moments}
use Rattle.plant_floods.proofs.periods.period_counts.Goals as goal

pub returns-clause-value : goal.returns-clause-value
returns-clause-value c few =
    let es = c.args.events.now in
    let told = c.as_slice.ensures ∙ c.in_ok-moments.ensures.value in
    let long = ap (λ n. n / 600) (c.saturating_sub-periods.ensures ∙ (λ i. c.seconds.ensures.value i - c.seconds-start.ensures.value i)) in
    IfOk-weaker c.counts_from.result _ _
    (λ counts h. counts_at es c.as_slice.result.now counts.items c.args.begin c.args.until c.seconds-start.result _ told c.seconds-start.ensures.value
    long h)
    (c.counts_from.ensures.value (few_moments es c.as_slice.result.now told few))
