use Rattle.std.proofs.Common.{List, take, ◌++◌}
use Rattle.plant_alarm.specs.declared.event.Event.{Event}
use Rattle.plant_import.specs.Reached.{HaveNumbers}
use Rattle.plant_import.proofs.beside.Neighbours.put_all.Given as goal

abbrev pub invariant-loop-event : goal.invariant-loop-event
invariant-loop-event l = (es : List Event) → HaveNumbers l.initial.self es → HaveNumbers l.self (es ++ take l.event-index l.events)
