use Rattle.std.proofs.Common.{take, ◌++◌, ◌≡◌, List, filter, map}
use Rattle.plant_alarm.specs.declared.event.Event.{Event}
use Rattle.plant_model.specs.steps.RowChanges.{state_put}
use Rattle.plant_unit.specs.{Alarms.{brought}, Summaries.{has_event_of}}
use Rattle.plant_unit.proofs.alarms.push_named.Given as goal

abbrev pub invariant-loop-i : goal.invariant-loop-i
invariant-loop-i l = (es fresh : List Event) → l.all ≡ brought l.alarms es fresh
    → l.changes ≡ l.initial.changes ++ map (state_put es) (filter (has_event_of fresh) (take l.i l.alarms))
