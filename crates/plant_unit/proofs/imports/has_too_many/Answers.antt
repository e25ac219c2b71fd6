use Rattle.std.proofs.Common.{rules}
use Rattle.plant_unit.proofs.ImportsJudged.{counted_at, room_for_all}
use Rattle.plant_unit.proofs.imports.has_too_many.Goals as goal

pub returns-then-not-is_full-clause-value : goal.returns-then-not-is_full-clause-value
returns-then-not-is_full-clause-value c es of =
    room_for_all es c.args.rows.now c.args.part.now.count c.is_full.result of.count_is (search rules) (search rules)

pub returns-clause-value : goal.returns-clause-value
returns-clause-value c es of =
    counted_at es c.args.rows.now c.args.part.now.rows.events c.args.part.now.count c.in_ok-new.new c.is_full-2.result of.rise of.needed_are of.count_is
    c.in_ok-new.ensures.value c.is_full-2.ensures
