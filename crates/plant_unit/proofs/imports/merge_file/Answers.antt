use Rattle.std.proofs.Common.{map, rules, Err, Ok}
use Rattle.plant_model.specs.steps.RowFacts.{alarm_tag, facts_among}
use Rattle.plant_unit.proofs.ImportsJudged.{merged_at}
use Rattle.plant_unit.proofs.imports.merge_file.Goals as goal

pub returns-in-Ok-clause-value : goal.returns-in-Ok-clause-value
returns-in-Ok-clause-value c es of =
    merged_at (facts_among c.args.part.now es) c.args.now c.args.rows.now c.args.part.now.rows.events (map alarm_tag c.args.part.now.rows.alarms)
    c.in_ok-has_too_many.field-0 c.in_ok-merged.field-0 (Ok c.in-Ok.merged) of.rise of.needed_are (c.in_ok-has_too_many.ensures.value es of) (search rules)
    (search rules) c.in_ok-merged.ensures.value c.in-Ok.is

pub returns-in-Err-clause-value : goal.returns-in-Err-clause-value
returns-in-Err-clause-value c es of =
    merged_at (facts_among c.args.part.now es) c.args.now c.args.rows.now c.args.part.now.rows.events (map alarm_tag c.args.part.now.rows.alarms)
    c.in_ok-has_too_many.field-0 c.in_ok-merged.field-0 (Err c.in-Err.fault) of.rise of.needed_are (c.in_ok-has_too_many.ensures.value es of)
    (search rules) (search rules) c.in_ok-merged.ensures.value c.in-Err.is
