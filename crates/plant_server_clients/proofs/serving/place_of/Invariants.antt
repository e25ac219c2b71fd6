use Rattle.std.proofs.Common.{take}
use Rattle.plant_server_clients.specs.Stages.{IsNoneNumbered}
use Rattle.plant_server_clients.proofs.serving.place_of.Given as goal

abbrev pub invariant-connections : goal.invariant-connections
invariant-connections l = IsNoneNumbered l.fn.number (take l.at l.connections)
