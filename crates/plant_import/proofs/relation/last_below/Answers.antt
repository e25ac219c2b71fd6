use Rattle.std.{specs.{BTreeMap.Range.{entries_between}, declared.ops.Bound.TheVariants.{Excluded, Unbounded}}, proofs.Common.{ap, sym, ◌∙◌, nat_cmp}}
use Rattle.plant_import.proofs.ByNumber.{entries_below, last_value, no_last}
use Rattle.plant_import.specs.Relation as relation
use Rattle.plant_import.proofs.relation.last_below.Goals as goal

pub returns-in-Some : goal.returns-in-Some
returns-in-Some c es holds =
    last_value c.in-Some.field-0-0.now c.in-Some.event.now c.next_back.new.self (relation.below c.args.seq es)
    (sym c.in-Some.ensures.steps ∙ c.range.ensures.between tt ∙ ap (entries_between nat_cmp Unbounded (Excluded c.args.seq)) holds
    ∙ entries_below c.args.seq es)

pub returns-in-None : goal.returns-in-None
returns-in-None c es holds =
    no_last (relation.below c.args.seq es)
    (sym c.in-None.ensures.steps.0 ∙ c.range.ensures.between tt ∙ ap (entries_between nat_cmp Unbounded (Excluded c.args.seq)) holds
    ∙ entries_below c.args.seq es)
