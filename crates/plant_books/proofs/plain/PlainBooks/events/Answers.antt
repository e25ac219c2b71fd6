use Rattle.std.proofs.Common.{subst, ◌≡◌, IfOk, unwrap_or}
use Rattle.plant_books.proofs.ListedLaws.{rows_listed}
use Rattle.plant_model.specs.steps.RowChanges.{no_rows}
use Rattle.plant_books.proofs.plain.PlainBooks.events.Goals as goal

pub returns-clause-found : goal.returns-clause-found
returns-clause-found c = λ m h _.
    subst (λ o. IfOk c.events_of.result (λ events. events ≡ (unwrap_or o no_rows).events))
    (rows_listed c.args.self.now.administrator c.args.unit.now c.args.self.now.units m h) c.events_of.ensures.value
