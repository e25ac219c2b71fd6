use Rattle.plant_server_starts.proofs.Joined.{starts_are_one_run}
use Rattle.plant_server_starts.proofs.starts_are_one_run.Goals as goal

pub returns : goal.returns
returns g c = starts_are_one_run _ g.D.Disk g.N.Disk
