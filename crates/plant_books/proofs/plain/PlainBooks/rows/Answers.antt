use Rattle.plant_books.proofs.ListedLaws.{rows_listed}
use Rattle.plant_books.proofs.plain.PlainBooks.rows.Goals as goal

pub returns-clause-found : goal.returns-clause-found
returns-clause-found c = λ m h _.
    rw (← rows_listed c.args.self.now.administrator c.args.unit.now c.args.self.now.units m h) c.copy_of.ensures.value
