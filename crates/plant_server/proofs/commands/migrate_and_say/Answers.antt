use Rattle.plant_server.proofs.commands.migrate_and_say.Goals as goal

pub returns : goal.returns
returns g c = record {
  status = c.report_migration-status.ensures.status;
  printed = c.report_migration-status.ensures.printed;
  said = c.report_migration-status.ensures.said;
  taken = rw c.as_str.ensures.value at c.migrate_file-old.ensures.taken;
  still = rw c.as_str.ensures.value at c.migrate_file-old.ensures.read;
}
