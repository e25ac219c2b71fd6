use Rattle.std.proofs.Common.{◌≡◌}
use Rattle.plant_server_clients.proofs.serving.give_back.Given as goal

abbrev pub invariant-clients : goal.invariant-clients
invariant-clients g l = g.P.Ports.seen l.ports ≡ g.P.Ports.seen l.fn.ports
