use Rattle.std.proofs.Common.{◌≡◌}
use Rattle.plant_server_sockets.specs.Clients.{numbers}
use Rattle.plant_server_sockets.proofs.sockets.Sockets.tick.Given as goal

abbrev pub invariant-clients : goal.invariant-clients
invariant-clients l = numbers l.clients ≡ numbers l.fn.clients
