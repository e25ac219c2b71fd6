use Rattle.std.proofs.Common.{◌≡◌, map, take}
use Rattle.plant_floods.specs.Activations.{AreActive, activations_of_all}
use Rattle.plant_floods.proofs.periods.activations.Given as goal

-- the moments of the activations so far, and the tags that are active after these events
abbrev pub invariant-loop-event : goal.invariant-loop-event
invariant-loop-event l = record {
  moments : l.moments ≡ map (λ e. e.moment) (activations_of_all (take l.event-index l.events));
  active : AreActive l.active (take l.event-index l.events);
}
