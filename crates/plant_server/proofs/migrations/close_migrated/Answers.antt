use Rattle.plant_server.proofs.migrations.close_migrated.Goals as goal

pub returns-in-Ok-clause-whole : goal.returns-in-Ok-clause-whole
returns-in-Ok-clause-whole c m = rw c.in-Ok.is (c.close_new.ensures.whole m)
