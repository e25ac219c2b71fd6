use Rattle.std.proofs.Common.{◌∙◌, ap, is_some}
use Rattle.plant_books.proofs.ListedLaws.{rows_listed}
use Rattle.plant_books.proofs.plain.PlainBooks.taken.Goals as goal

pub returns-clause-found : goal.returns-clause-found
returns-clause-found c = λ m h _.
    c.is_opened.ensures ∙ ap is_some (rows_listed c.args.self.now.administrator c.args.unit.now c.args.self.now.units m h)
