use Rattle.plant_unit.proofs.ReadingLaws.{rationale_read}
use Rattle.plant_unit.proofs.reading.rationale_of.Goals as goal

pub returns-clause-value : goal.returns-clause-value
returns-clause-value c kept =
    rationale_read c.args.part.now c.args.tag.now c.in-Some.row.now c.in-Some-source_of.entry.now c.rationale_from.result kept c.in-Some.ensures
    c.in-Some-source_of.ensures c.rationale_from.ensures.value
