use Rattle.std.proofs.Common.{◌≡◌}
use Rattle.plant_model.specs.steps.RowChanges.{changed_by}
use Rattle.plant_books.proofs.changes.after_changes.Given as goal

abbrev pub invariant-loop-change : goal.invariant-loop-change
invariant-loop-change l = l.after ≡ changed_by l.yielded l.fn.rows
