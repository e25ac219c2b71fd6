use Rattle.std.proofs.Common.{subst, ◌≡◌, IfOk, option_map}
use Rattle.plant_books.{specs.Contents.{without_history}, proofs.ListedLaws.{rows_listed}}
use Rattle.plant_books.proofs.plain.PlainBooks.rows_but_history.Goals as goal

pub returns-clause-found : goal.returns-clause-found
returns-clause-found c = λ m h _.
    subst (λ o. IfOk c.copy_but_history.result (λ rows. rows ≡ option_map without_history o))
    (rows_listed c.args.self.now.administrator c.args.unit.now c.args.self.now.units m h) c.copy_but_history.ensures.value
