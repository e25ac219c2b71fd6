use Rattle.plant_books.proofs.ListedLaws.{none_listed}
use Rattle.plant_books.proofs.plain.Plain.new.Goals as goal

pub returns-clause-represents : goal.returns-clause-represents
returns-clause-represents c = none_listed c.args.administrator c.new.result c.new.ensures
