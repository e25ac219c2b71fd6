use Rattle.std.proofs.Common.{take, ◌≡◌, ◌*◌, ◌+◌, ◌≤◌, ℕ, All, IsTrue, map}
use Rattle.plant_floods.specs.declared.run.Run.{Run}
use Rattle.plant_model.specs.Events.{flood_line}
use Rattle.plant_types.specs.Moment.{is_moment}
use Rattle.plant_unit.proofs.flood_list.lines_of.Given as goal

abbrev pub invariant-loop-run : goal.invariant-loop-run
invariant-loop-run l = (until : ℕ) → IsTrue (is_moment until) → All (λ (r : Run). (r.first ≤ r.last) × (l.begin + 600 * r.last + 600 ≤ until)) l.runs
    → l.lines ≡ map (flood_line l.begin) (take l.run-index l.runs)
