use Rattle.std.proofs.{Common.{◌≤◌, length, sym, arith}, lemmas.List.{take_all}}
use Rattle.plant_types.specs.Limits.{max_head}
use Rattle.plant_wire_head.proofs.heading.front_of.Goals as goal

pub returns-then-bytes-lt-MAX_HEAD-clause-value : goal.returns-then-bytes-lt-MAX_HEAD-clause-value
returns-then-bytes-lt-MAX_HEAD-clause-value c =
    let short : length c.args.bytes.now ≤ max_head = omega arith in
    sym (take_all max_head c.args.bytes.now short)
