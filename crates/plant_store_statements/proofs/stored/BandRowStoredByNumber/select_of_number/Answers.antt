use Rattle.plant_store_statements.proofs.public.Queries.{bands_at_read}
use Rattle.plant_store_statements.proofs.stored.BandRowStoredByNumber.select_of_number.Goals as goal

pub returns : goal.returns
returns c = bands_at_read
