use Rattle.std.proofs.Common.{◌≡◌, ◌<◌, ◌^◌, take}
use Rattle.plant_types.specs.Moment.{decimal_value}
use Rattle.plant_import.proofs.fields.value_of.Given as goal

abbrev pub invariant-loop-digit : goal.invariant-loop-digit
invariant-loop-digit l =
    record {
      value : l.value ≡ decimal_value (take l.digit-index l.digits);
      bound : l.value < 10 ^ l.digit-index;
      positive : 0 < l.digit-index → 0 < l.value;
    }
