use Rattle.plant_books.{specs.Contents.{shelves_mine}, proofs.ListedLaws.{all_listed}}
use Rattle.plant_books.proofs.plain.PlainBooks.mine_shelves.Goals as goal

pub returns-clause-found : goal.returns-clause-found
returns-clause-found c =
    λ m h _. rw (← all_listed (shelves_mine c.args.now c.args.person.now) c.args.self.now.administrator c.args.self.now.units m h)
    c.shelves_held.ensures.value
