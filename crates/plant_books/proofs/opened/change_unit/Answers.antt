use Rattle.std.proofs.Common.{List}
use Rattle.plant_books.proofs.{ListedLaws.{put_countable}, MadeLaws.{made_or_not}}
use Rattle.plant_books.specs.{Listed.{AreCountable}, declared.opened.OpenedUnit.{OpenedUnit}}
use Rattle.plant_books.proofs.opened.change_unit.Goals as goal

pub returns-clause-countable : goal.returns-clause-countable
returns-clause-countable c all =
    let opened : OpenedUnit = record { unit = c.in_ok-copy.field-0; rows = c.in_ok-if_countable.field-0 } in
    made_or_not (λ (os : List OpenedUnit). AreCountable os) c.put.result c.args.units.now c.put.new.self _ c.put.ensures.ok c.put.ensures.err all
    (put_countable opened c.args.units.now c.in_ok-if_countable.ensures.countable all)
