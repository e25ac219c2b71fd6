use Rattle.std.proofs.Common.{ap, sym, ◌∙◌}
use Rattle.plant_model.specs.steps.RowChanges.{changed}
use Rattle.plant_books.proofs.ChangedLaws.{changed_next}
use Rattle.plant_books.proofs.changes.after_changes.Goals as goal

pub loop-change-preserved : goal.loop-change-preserved
loop-change-preserved c =
    c.in_ok-make_change.ensures.value ∙ ap (changed c.in-Some.change) c.loop-change.invariant
    ∙ sym (changed_next c.loop-change.yielded c.in-Some.change c.args.rows)
