use Rattle.std.proofs.Common.{take, ◌++◌, ◌≡◌}
use Rattle.plant_import.proofs.event_numbers.push_all.Given as goal

abbrev pub invariant-loop-event : goal.invariant-loop-event
invariant-loop-event l = l.all ≡ l.initial.all ++ take l.event-index l.events
