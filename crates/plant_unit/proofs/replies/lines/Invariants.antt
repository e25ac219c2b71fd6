use Rattle.std.proofs.Common.{◌≡◌, filter_map}
use Rattle.plant_model.specs.steps.RowFacts.{last_return_in}
use Rattle.plant_unit.specs.Shelving.{line_at}
use Rattle.plant_unit.proofs.replies.lines.Given as goal

abbrev pub invariant-loop-row : goal.invariant-loop-row
invariant-loop-row l = l.lines ≡ filter_map (λ s. line_at s (last_return_in l.alarms s.tag) l.now) l.yielded
