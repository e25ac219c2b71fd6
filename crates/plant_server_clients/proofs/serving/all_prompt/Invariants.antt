use Rattle.std.proofs.Common.{take}
use Rattle.plant_server_clients.specs.Prompt.{ArePrompt}
use Rattle.plant_server_clients.proofs.serving.all_prompt.Given as goal

abbrev pub invariant-connections : goal.invariant-connections
invariant-connections l = ArePrompt (take l.at l.connections)
