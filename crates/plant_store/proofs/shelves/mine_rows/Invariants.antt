use Rattle.std.proofs.Common.{◌≡◌, map}
use Rattle.plant_store.specs.Mine.{as_mine}
use Rattle.plant_store.proofs.shelves.mine_rows.Given as goal

abbrev pub invariant-loop-line : goal.invariant-loop-line
invariant-loop-line l = l.mine ≡ map as_mine l.yielded
