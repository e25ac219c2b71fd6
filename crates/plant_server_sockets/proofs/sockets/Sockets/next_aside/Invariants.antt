use Rattle.std.proofs.Common.{◌≡◌}
use Rattle.plant_server_sockets.specs.Clients.{numbers}
use Rattle.plant_server_sockets.proofs.sockets.Sockets.next_aside.Given as goal

abbrev pub invariant-turns : goal.invariant-turns
invariant-turns l = numbers l.clients ≡ numbers l.fn.clients
