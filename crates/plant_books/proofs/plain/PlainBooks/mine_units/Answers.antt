use Rattle.plant_books.{specs.Contents.{mine_unit}, proofs.ListedLaws.{told_listed}}
use Rattle.plant_books.proofs.plain.PlainBooks.mine_units.Goals as goal

pub returns-clause-found : goal.returns-clause-found
returns-clause-found c =
    λ m h _. rw (← told_listed (mine_unit c.args.now c.args.person.now) c.args.self.now.administrator c.args.self.now.units m h)
    c.units_held.ensures.value
