use Rattle.plant_store_columns.specs.declared.tables.TableKind.TheVariants.{Changes}
use Rattle.plant_store_statements.proofs.public.Queries.{all_read}
use Rattle.plant_store_statements.proofs.stored.ChangeEntryStored.select.Goals as goal

pub returns-clause-reads : goal.returns-clause-reads
returns-clause-reads c = all_read Changes
