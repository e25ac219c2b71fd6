use Rattle.plant_wire_call.proofs.public.Waiting.{waits_read}
use Rattle.plant_wire_call.proofs.cut.look_with.Goals as goal

pub returns-in-Whole-clause-wanted : goal.returns-in-Whole-clause-wanted
returns-in-Whole-clause-wanted c =
    let head = c.in-Whole.ensures.0 in
    waits_read c.args.bytes.now _ c.in-Whole.spans head.0 c.look_at.result.wanted head.1
    (c.look_at.ensures.wants head.0 (rw (c.front_of.ensures.value, c.as_slice.ensures.value) head.1))
