use Rattle.std.proofs.Common.{List, length, take, ◌++◌, ◌≡◌}
use Rattle.plant_alarm.specs.declared.event.Event.{Event}
use Rattle.plant_unit.specs.Alarms.{brought}
use Rattle.plant_unit.proofs.alarms.add_events.Given as goal

abbrev pub invariant-loop-event : goal.invariant-loop-event
invariant-loop-event l =
    record {
      summaries_long : length l.all.summaries ≡ length l.initial.all.summaries;
      named_long : length l.all.named ≡ length l.initial.all.named;
      so : (es fresh : List Event) → l.initial.all ≡ brought l.alarms es fresh
          → l.all ≡ brought l.alarms (es ++ take l.event-index l.events) (fresh ++ take l.event-index l.events);
    }
