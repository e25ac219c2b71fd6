use Rattle.std.proofs.Common.{refl, length, ◌+◌}
use Rattle.plant_server_clients.proofs.Waits.{waits_one}
use Rattle.plant_server_clients.proofs.connections.wanted_next.Goals as goal

pub returns-clause-below : goal.returns-clause-below
returns-clause-below c = waits_one c.args.unread.now (length c.args.unread.now + 1) refl c.requires.waiting
