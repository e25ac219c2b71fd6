use Rattle.std.proofs.Common.{◌≡◌, take, map}
use Rattle.plant_model.specs.Replies.{alarm_line}
use Rattle.plant_model.specs.steps.RowFacts.{facts_in}
use Rattle.plant_unit.specs.Additions.{AreKept}
use Rattle.plant_unit.proofs.replies.alarm_lines.Given as goal

abbrev pub invariant-loop-alarm : goal.invariant-loop-alarm
invariant-loop-alarm l = AreKept l.part → l.lines ≡ map (alarm_line (facts_in l.part) l.now) (take l.alarm-index l.alarms)
