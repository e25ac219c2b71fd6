use Rattle.plant_store_columns.specs.declared.tables.TableKind.TheVariants.{Records}
use Rattle.plant_store_migration.proofs.OldQueries.{old_read}
use Rattle.plant_store_migration.proofs.old_rows.RecordEntryUnchanged.same_select.Goals as goal

pub returns : goal.returns
returns c u = rw c.select.ensures.text (old_read Records u)
