use Rattle.std.proofs.Common.{sym, ◌∙◌}
use Rattle.plant_office.specs.Lines.{line_of_shelf}
use Rattle.plant_unit.proofs.public.Loops.{filter_map_none, filter_map_some}
use Rattle.plant_office.proofs.office.shelf_lines.Goals as goal

pub loop-mine-preserved-in-Continue-1 : goal.loop-mine-preserved-in-Continue-1
loop-mine-preserved-in-Continue-1 c =
    c.in_ok-push.ensures.ok
    ∙ filter_map_some (line_of_shelf c.args.now) c.loop-mine.yielded c.in-Some.mine c.in-Some-mine_line.line c.loop-mine.lines
    (sym c.mine_line.ensures ∙ c.in-Some-mine_line.is) c.loop-mine.invariant

pub loop-mine-preserved : goal.loop-mine-preserved
loop-mine-preserved c =
    filter_map_none (line_of_shelf c.args.now) c.loop-mine.yielded c.in-Some.mine c.loop-mine.lines (sym c.mine_line.ensures ∙ c.in_default.is)
    c.loop-mine.invariant
