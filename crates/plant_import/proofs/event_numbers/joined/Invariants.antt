use Rattle.std.proofs.Common.{drop, ◌++◌, ◌≡◌}
use Rattle.plant_import.{specs.Numbers.{event_number, with_events}, proofs.public.Placed.{Rises}}
use Rattle.plant_import.proofs.event_numbers.joined.Given as goal

abbrev pub invariant-loop-event : goal.invariant-loop-event
invariant-loop-event l = (l.all ++ with_events l.rest (drop l.event-index l.events) ≡ with_events l.kept l.more) × Rises event_number l.rest
