use Rattle.plant_server_starts.proofs.Named.{is_a_start}
use Rattle.plant_server_starts.proofs.served_files_are_a_start.Goals as goal

pub returns : goal.returns
returns g c = is_a_start _ _ _ _
