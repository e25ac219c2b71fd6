use Rattle.std.proofs.Common.{[], ap, ◌∙◌}
use Rattle.plant_import.specs.Numbers.{with_events}
use Rattle.plant_unit.specs.Alarms.{brought}
use Rattle.plant_unit.specs.declared.alarms.Brought.{Brought}
use Rattle.plant_unit.proofs.alarms.from_events.Goals as goal

pub returns-clause-value : goal.returns-clause-value
returns-clause-value c =
    let all = c.add_events.ensures.value [] [] (c.in_ok-all.ensures.value ∙ ap (λ l. brought l [] []) c.as_slice-2.ensures.value) in
    let new = c.add_events-2.ensures.value [] [] (c.in_ok-new.ensures.value ∙ ap (λ l. brought l [] []) c.as_slice-4.ensures.value) in
    let events = c.as_slice-3.ensures.value ∙ c.in_ok-all_events.ensures.value ∙ ap (with_events c.args.kept.now) c.as_slice.ensures.value in
    λ i. record {
      summaries = (ap (λ (b : Brought). b.summaries) all ∙ ap (λ es. (brought c.args.alarms.now es []).summaries) events) i;
      named = (ap (λ (b : Brought). b.named) new ∙ ap (λ es. (brought c.args.alarms.now [] es).named) c.as_slice-5.ensures.value) i;
    }
