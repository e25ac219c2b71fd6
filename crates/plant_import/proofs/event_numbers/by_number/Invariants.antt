use Rattle.std.proofs.Common.{[]}
use Rattle.plant_import.specs.Numbers.{AreByNumber, with_events}
use Rattle.plant_import.proofs.event_numbers.by_number.Given as goal

abbrev pub invariant-loop-event : goal.invariant-loop-event
invariant-loop-event l = AreByNumber l.rising (with_events [] l.yielded)
