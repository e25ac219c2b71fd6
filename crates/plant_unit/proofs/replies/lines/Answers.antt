use Rattle.std.proofs.Common.{ap, sym, ◌∙◌, Option}
use Rattle.plant_model.specs.declared.{reply.ShelfLine.{ShelfLine}, rows.ShelfRow.{ShelfRow}}
use Rattle.plant_model.specs.steps.RowFacts.{last_return_in}
use Rattle.plant_unit.{specs.Shelving.{line_at}, proofs.public.Loops.{filter_map_none, filter_map_some}}
use Rattle.plant_unit.proofs.replies.lines.Goals as goal

pub loop-row-preserved-in-Continue-1 : goal.loop-row-preserved-in-Continue-1
loop-row-preserved-in-Continue-1 c =
    let f : ShelfRow → Option ShelfLine = λ s. line_at s (last_return_in c.args.alarms.now s.tag) c.args.now in
    c.in_ok-push.ensures.ok
    ∙ filter_map_some f c.loop-row.yielded c.in-Some.row c.in-Some-shelf_line.line c.loop-row.lines
    (ap (λ r. line_at c.in-Some.row r c.args.now) (sym c.returned_next-returned.ensures) ∙ sym c.shelf_line.ensures ∙ c.in-Some-shelf_line.is)
    c.loop-row.invariant

pub loop-row-preserved : goal.loop-row-preserved
loop-row-preserved c =
    let f : ShelfRow → Option ShelfLine = λ s. line_at s (last_return_in c.args.alarms.now s.tag) c.args.now in
    filter_map_none f c.loop-row.yielded c.in-Some.row c.loop-row.lines
    (ap (λ r. line_at c.in-Some.row r c.args.now) (sym c.returned_next-returned.ensures) ∙ sym c.shelf_line.ensures ∙ c.in_default.is)
    c.loop-row.invariant
