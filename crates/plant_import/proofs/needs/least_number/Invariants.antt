use Rattle.std.proofs.Common.{take, ◌≡◌, nat_lt, option_map, true, unwrap_or}
use Rattle.plant_alarm.specs.declared.event.Event.{Event}
use Rattle.plant_import.specs.Needed.{is_before_all}
use Rattle.plant_import.proofs.needs.least_number.Given as goal

abbrev pub invariant-loop-row : goal.invariant-loop-row
invariant-loop-row l = (k : Event) → is_before_all (take l.row-index l.rows) k ≡ unwrap_or (option_map (λ least. nat_lt k.seq least) l.least) true
