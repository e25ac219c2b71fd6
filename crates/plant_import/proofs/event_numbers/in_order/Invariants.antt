use Rattle.std.proofs.Common.{◌++◌, ◌≡◌}
use Rattle.plant_import.proofs.event_numbers.in_order.Given as goal

abbrev pub invariant-loop-event : goal.invariant-loop-event
invariant-loop-event l = l.rising ++ l.event-iterator ≡ l.initial.event-iterator
