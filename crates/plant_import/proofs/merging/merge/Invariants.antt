use Rattle.std.proofs.Common.{List, ◌≡◌, ◌+◌, drop, length, map, take}
use Rattle.plant_alarm.specs.declared.event.Event.{Event}
use Rattle.plant_import.{specs.Merging.{IsRising}, proofs.{BelowAll.{StandSo}, Merges.{MergedSo}}}
use Rattle.plant_import.proofs.merging.merge.Given as goal

abbrev pub invariant-loop-i : goal.invariant-loop-i
invariant-loop-i g l =
    record {
      count : l.repeated + length l.fresh ≡ l.i;
      so : IsRising l.kept
          → (seen : List Event) × StandSo l.rising l.fresh (drop l.i l.file) seen
          × MergedSo (map g.T.Keyed.key l.alarms) l.now l.kept (take l.i l.file) l.fresh seen l.repeated;
    }
