use Rattle.plant_wire_call.proofs.Slashes.{IsBeforeSlash}
use Rattle.plant_wire_call.proofs.path.split_at_slash.Given as goal

abbrev pub invariant-loop-i : goal.invariant-loop-i
invariant-loop-i l = IsBeforeSlash l.path l.i
