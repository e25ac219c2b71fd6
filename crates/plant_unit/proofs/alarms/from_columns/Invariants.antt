use Rattle.std.proofs.Common.{[], map, take, ◌≡◌}
use Rattle.plant_unit.specs.Summaries as states
use Rattle.plant_unit.proofs.alarms.from_columns.Given as goal

abbrev pub invariant-loop-alarm : goal.invariant-loop-alarm
invariant-loop-alarm l =
    record {
      summaries_are : l.summaries ≡ map states.summary_in (take l.alarm-index l.alarms);
      named_are : l.named ≡ map (states.has_event_of []) (take l.alarm-index l.alarms);
    }
