use Rattle.plant_books.specs.Contents.{no_units}
use Rattle.plant_server.proofs.files.make_over.Goals as goal

pub returns-in-Ok-clause-whole : goal.returns-in-Ok-clause-whole
returns-in-Ok-clause-whole g c = c.close_new.ensures.whole (no_units c.args.admin) c.in-Ok.ensures.new
