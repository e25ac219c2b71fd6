use Rattle.std.proofs.Common.{refl}
use Rattle.plant_server.proofs.commands.run.Goals as goal

pub returns-in-None : goal.returns-in-None
returns-in-None g c = rw (c.in-Serve.is, c.in-None.is) c.serve_memory.ensures

pub returns-in-Some : goal.returns-in-Some
returns-in-Some g c = rw (c.in-Serve.is, c.in-Some.is) (rw c.as_str.ensures.value at c.serve_file.ensures)

pub returns-in-Migrate : goal.returns-in-Migrate
returns-in-Migrate g c = rw c.in-Migrate.is (refl, refl, c.migrate_and_say.ensures)
