use Rattle.std.proofs.Common.{rules}
use Rattle.plant_unit.proofs.FloodLines.{line_more}
use Rattle.plant_unit.proofs.flood_list.lines_of.Goals as goal

pub loop-run-preserved : goal.loop-run-preserved
loop-run-preserved c until moment ends =
    line_more c.args.begin until c.loop-run.run-index c.args.runs.now _ c.loop-run.lines c.push.new.self c.flood_line.result moment ends
    c.loop-run-test.true (search rules) (c.loop-run.invariant until moment ends) c.in_ok-push.ensures.ok c.flood_line.ensures
