use Rattle.plant_books.{specs.Contents.{is_held_in}, proofs.ListedLaws.{told_listed}}
use Rattle.plant_types.specs.Options.{when}
use Rattle.plant_books.proofs.plain.PlainBooks.held.Goals as goal

pub returns-clause-found : goal.returns-clause-found
returns-clause-found c =
    λ m h _. rw (← told_listed (λ u rows. when (is_held_in c.args.now c.args.person.now rows) u) c.args.self.now.administrator c.args.self.now.units m
    h) c.codes_held.ensures.value
