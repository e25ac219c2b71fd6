use Rattle.std.proofs.Common.{◌≤◌, ◌*◌, take, IfSome}
use Rattle.plant_floods.proofs.Passes.{Passed}
use Rattle.plant_floods.proofs.pass.floods.Given as goal

abbrev pub invariant-loop-i : goal.invariant-loop-i
invariant-loop-i l =
    record {
      passed : Passed (take l.i l.counts) l.runs.items l.current;
      room : IfSome l.current (λ r. r.total ≤ 4294967295 * l.i);
    }
