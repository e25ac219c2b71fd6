use Rattle.std.proofs.Common.{◌≡◌, take, fold, map, max}
use Rattle.plant_office.proofs.office.latest.Given as goal

abbrev pub invariant-loop-unit : goal.invariant-loop-unit
invariant-loop-unit l = l.latest ≡ fold max l.fn.now (map (λ unit. unit.last) (take l.unit-index l.units))
