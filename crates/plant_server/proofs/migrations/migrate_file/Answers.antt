use Rattle.plant_server.proofs.FilesLeft.{placed_of}
use Rattle.plant_server.proofs.migrations.migrate_file.Goals as goal

pub returns-in-Ok-open_and_make-clause-taken : goal.returns-in-Ok-open_and_make-clause-taken
returns-in-Ok-open_and_make-clause-taken g c here m is held =
    placed_of _ c.in-Ok-open_and_make.files c.place.result c.place.ensures (c.in-Ok-open_and_make.ensures.taken here m is held)
