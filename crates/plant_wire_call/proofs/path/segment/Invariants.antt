use Rattle.std.proofs.Common.{◌≡◌}
use Rattle.plant_wire_call.specs.Path.{after_slashes}
use Rattle.plant_wire_call.proofs.path.segment.Given as goal

abbrev pub invariant-loop-slash : goal.invariant-loop-slash
invariant-loop-slash l = l.rest ≡ after_slashes l._slash l.path
