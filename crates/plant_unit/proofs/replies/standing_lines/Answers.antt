use Rattle.std.proofs.{Common.{◌≡◌, arith, sym, ap, ◌∙◌, get_or, Option}, lemmas.Grind.{common_steps}}
use Rattle.plant_model.specs.{Replies.{standing_line}, declared.{reply.StandingLine.{StandingLine}, rows.AlarmRow.{AlarmRow}}}
use Rattle.plant_model.specs.steps.RowFacts.{facts_in}
use Rattle.plant_unit.proofs.{public.Loops.{filter_map_more}, replies.standing_lines.Goals.{in-Some+in_ok-push, in_default}}
use Rattle.plant_unit.proofs.replies.standing_lines.Goals as goal

pub loop-alarm-preserved : goal.loop-alarm-preserved
loop-alarm-preserved c kept =
    let line : AlarmRow → Option StandingLine = standing_line (facts_in c.args.part.now) c.args.now in
    let at : line (get_or c.as_slice-alarms.result.now c.loop-alarm.alarm-index c.alarm-item.result) ≡ c.in_ok-found.field-0 =
    ap line (sym c.alarm-item.is) ∙ sym (c.in_ok-found.ensures.value kept) in
    let more =
    filter_map_more line c.as_slice-alarms.result.now c.loop-alarm.alarm-index c.alarm-item.result c.in_ok-found.field-0
    c.loop-alarm-test.true at in
    elim c.match-branch-2.branch [
      | in-Some+in_ok-push w ↦ grind (arith, common_steps, more, w.in_ok-push.ensures.ok, w.in-Some.is, c.loop-alarm.invariant kept, w.lines-is)
      | in_default w ↦ grind (arith, common_steps, more, w.in_default.is, w.in_default.not-Some, c.loop-alarm.invariant kept, w.lines-is)
    ]
