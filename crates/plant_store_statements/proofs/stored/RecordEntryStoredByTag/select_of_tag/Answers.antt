use Rattle.plant_store_statements.proofs.public.Queries.{record_read}
use Rattle.plant_store_statements.proofs.stored.RecordEntryStoredByTag.select_of_tag.Goals as goal

pub returns : goal.returns
returns c = record_read
