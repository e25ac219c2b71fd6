use Rattle.std.proofs.Common.{◌≡◌}
use Rattle.plant_server_sockets.specs.Clients.{numbers}
use Rattle.plant_server_sockets.proofs.sockets.Sockets.note_events.Given as goal

abbrev pub invariant-events : goal.invariant-events
invariant-events l = numbers l.clients ≡ numbers l.fn.clients
