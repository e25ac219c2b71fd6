use Rattle.std.{specs.{BTreeMap.Range.{entries_between}, declared.ops.Bound.TheVariants.{Included, Unbounded}}, proofs.Common.{ap, sym, ◌∙◌, nat_cmp}}
use Rattle.plant_import.proofs.ByNumber.{entries_from, first_value, no_first}
use Rattle.plant_import.specs.Relation as relation
use Rattle.plant_import.proofs.relation.first_from.Goals as goal

pub returns-in-Some : goal.returns-in-Some
returns-in-Some c es holds =
    first_value c.in-Some.field-0-0.now c.in-Some.event.now c.next.new.self (relation.from c.args.seq es)
    (sym c.in-Some.ensures.steps ∙ c.range.ensures.between tt ∙ ap (entries_between nat_cmp (Included c.args.seq) Unbounded) holds
    ∙ entries_from c.args.seq es)

pub returns-in-None : goal.returns-in-None
returns-in-None c es holds =
    no_first (relation.from c.args.seq es)
    (sym c.in-None.ensures.steps.0 ∙ c.range.ensures.between tt ∙ ap (entries_between nat_cmp (Included c.args.seq) Unbounded) holds
    ∙ entries_from c.args.seq es)
