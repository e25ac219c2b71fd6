use Rattle.plant_store_statements.proofs.public.Queries.{alarm_read}
use Rattle.plant_store_statements.proofs.stored.AlarmRowStoredByTag.select_of_tag.Goals as goal

pub returns : goal.returns
returns c = alarm_read
