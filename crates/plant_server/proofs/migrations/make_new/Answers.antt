use Rattle.plant_server.proofs.FilesLeft.{closed_of}
use Rattle.plant_server.proofs.migrations.make_new.Goals as goal

pub returns-clause-taken : goal.returns-clause-taken
returns-clause-taken g c m is =
    closed_of _ _ _ _ c.copy_to_file-old.result.1 c.finish.result (c.copy_to_file-old.ensures.taken m is)
    (c.finish.ensures.whole m) c.finish.ensures.unmade
