use Rattle.std.proofs.Common.{ap, ◌∙◌}
use Rattle.std.specs.List.{list_any}
use Rattle.plant_model.specs.steps.RowFacts.{is_held_row}
use Rattle.plant_model.proofs.public.HeldLaws.{holds_of_rows}
use Rattle.plant_model.proofs.held.holds_some_by.Goals as goal

pub returns : goal.returns
returns c =
    c.has_held_row.ensures ∙ ap (list_any (is_held_row c.args.now c.args.person.now)) c.as_slice.ensures.value
    ∙ holds_of_rows c.args.now c.args.person.now c.args.grants.now c.as_slice.ensures.order
