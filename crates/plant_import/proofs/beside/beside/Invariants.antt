use Rattle.std.proofs.Common.{filter, take, ◌≡◌}
use Rattle.plant_import.specs.Needed.{is_beside}
use Rattle.plant_import.proofs.beside.beside.Given as goal

abbrev pub invariant-loop-event : goal.invariant-loop-event
invariant-loop-event l = l.some ≡ filter (is_beside l.kept l.rows) (take l.event-index l.events)
