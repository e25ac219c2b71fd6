use Rattle.std.proofs.Common.{◌≡◌, ◌++◌, take}
use Rattle.plant_wire_answer.specs.Json.{after_commas}
use Rattle.plant_wire_answer.proofs.json.push_after_commas.Given as goal

abbrev pub invariant-loop-value : goal.invariant-loop-value
invariant-loop-value g l = l.out.items ≡ l.initial.out.items ++ after_commas g.T.Json.json (take l.value-index l.values)
