use Rattle.plant_books.proofs.ListedLaws.{part_listed}
use Rattle.plant_books.proofs.plain.PlainBooks.part.Goals as goal

pub returns-clause-found : goal.returns-clause-found
returns-clause-found c = λ m h _ u named.
    rw (← part_listed c.args.self.now.administrator u c.in-Some.unit.now c.args.self.now.units m c.args.call.now h c.in-Some.ensures named)
    c.part_at.ensures.value
