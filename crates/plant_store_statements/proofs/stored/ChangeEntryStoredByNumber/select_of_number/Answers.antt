use Rattle.plant_store_statements.proofs.public.Queries.{change_read}
use Rattle.plant_store_statements.proofs.stored.ChangeEntryStoredByNumber.select_of_number.Goals as goal

pub returns : goal.returns
returns c = change_read
