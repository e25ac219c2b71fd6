use Rattle.std.proofs.Common.{◌≡◌, ◌≤◌, take}
use Rattle.plant_types.specs.Moment.{decimal_value}
use Rattle.plant_types.proofs.civil.number.Given as goal

abbrev pub invariant-loop-digit : goal.invariant-loop-digit
invariant-loop-digit l =
    record {
      value : l.value ≡ decimal_value (take l.digit-index l.digits);
      none : l.digit-index ≤ 0 → l.value ≤ 0;
      one : l.digit-index ≤ 1 → l.value ≤ 207;
      two : l.digit-index ≤ 2 → l.value ≤ 2277;
      three : l.digit-index ≤ 3 → l.value ≤ 22977;
      four : l.digit-index ≤ 4 → l.value ≤ 229977;
    }
