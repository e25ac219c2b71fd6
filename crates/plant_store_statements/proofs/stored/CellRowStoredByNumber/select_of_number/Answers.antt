use Rattle.plant_store_statements.proofs.public.Queries.{cells_at_read}
use Rattle.plant_store_statements.proofs.stored.CellRowStoredByNumber.select_of_number.Goals as goal

pub returns : goal.returns
returns c = cells_at_read
