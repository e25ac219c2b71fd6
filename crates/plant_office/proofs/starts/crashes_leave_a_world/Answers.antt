use Rattle.plant_office.proofs.Lives.{crashes_leave_a_world as some_world}
use Rattle.plant_office.proofs.starts.crashes_leave_a_world.Goals as goal

pub returns : goal.returns
returns c = some_world
