use Rattle.std.{specs.Str.Parse.{digits_value}, proofs.Common.{◌≡◌, ◌+◌, take, min}}
use Rattle.plant_types.specs.Limits.{max_body}
use Rattle.plant_wire_call.proofs.lengths.capped_value.Given as goal

abbrev pub invariant-loop-b : goal.invariant-loop-b
invariant-loop-b l = l.value ≡ min (digits_value 10 (take l.b-index l.text)) (max_body + 1)
