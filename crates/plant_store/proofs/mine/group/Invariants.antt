use Rattle.std.proofs.Common.{◌≡◌, ◌++◌, drop}
use Rattle.plant_store.specs.Mine.{runs_after, runs_of, standing_units}
use Rattle.plant_store.proofs.mine.group.Given as goal

-- what is grouped, and then what is left, is the whole
abbrev pub invariant-loop-line : goal.invariant-loop-line
invariant-loop-line l = l.units ++ runs_after l.current (standing_units l.now (drop l.line-index l.lines)) ≡ runs_of (standing_units l.now l.lines)
