use Rattle.std.proofs.Common.{◌∙◌, sym, rules}
use Rattle.plant_import.proofs.public.FirstLaws.{first_known, first_put, first_reached}
use Rattle.plant_import.proofs.needs.put_first.Goals as goal

pub returns-then-has_number-clause-value : goal.returns-then-has_number-clause-value
returns-then-has_number-clause-value c rows =
    first_known c.args.firsts.now c.args.kept.now rows c.args.row.now (sym c.has_number.ensures ∙ c.if-has_number.true)

pub returns-then-is_reached-clause-value : goal.returns-then-is_reached-clause-value
returns-then-is_reached-clause-value c rows =
    first_reached c.args.firsts.now c.args.kept.now rows c.args.row.now (sym c.is_reached.ensures ∙ c.if-is_reached.true)

pub returns-clause-value : goal.returns-clause-value
returns-clause-value c rows =
    first_put c.args.firsts.now c.insert.new.self c.args.kept.now rows c.args.row.now c.in_ok-copy.field-0 c.in_ok-copy.ensures.value
    (sym c.has_number.ensures ∙ c.if-has_number.false) (sym c.is_reached.ensures ∙ c.if-is_reached.false) c.in_ok-insert.ensures.updates
