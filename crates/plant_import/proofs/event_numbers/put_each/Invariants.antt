use Rattle.std.proofs.Common.{◌≡◌}
use Rattle.plant_import.specs.Numbers.{with_events}
use Rattle.plant_import.proofs.event_numbers.put_each.Given as goal

abbrev pub invariant-loop-event : goal.invariant-loop-event
invariant-loop-event l = l.kept ≡ with_events l.initial.kept l.yielded
