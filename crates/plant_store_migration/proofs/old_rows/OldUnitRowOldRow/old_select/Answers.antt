use Rattle.plant_store_columns.specs.declared.tables.TableKind.TheVariants.{Units}
use Rattle.plant_store_migration.proofs.OldQueries.{old_read}
use Rattle.plant_store_migration.proofs.old_rows.OldUnitRowOldRow.old_select.Goals as goal

pub returns : goal.returns
returns c = old_read Units
