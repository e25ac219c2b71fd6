use Rattle.std.proofs.Common.{filter, length, take, ◌≡◌, ◌≤◌}
use Rattle.plant_import.specs.Numbers.{is_other}
use Rattle.plant_import.proofs.event_numbers.count_others.Given as goal

abbrev pub invariant-loop-event : goal.invariant-loop-event
invariant-loop-event l =
    record {
      new : l.count ≡ length (filter (is_other l.kept) (take l.event-index l.rows));
      few : l.count ≤ l.event-index;
    }
