use Rattle.plant_store_statements.proofs.public.Queries.{shelf_read}
use Rattle.plant_store_statements.proofs.stored.ShelfRowStoredByTag.select_of_tag.Goals as goal

pub returns : goal.returns
returns c = shelf_read
