use Rattle.plant_wire.{specs.Over.{RanWith}, proofs.Serving.{answer_put}}
use Rattle.plant_wire.proofs.public.With.{with_one}
use Rattle.plant_wire.proofs.step.answer_call.Goals as goal

pub returns-clause-does : goal.returns-clause-does
returns-clause-does g c =
    let ran =
    with_one g.B.Books c.args.office.now c.serve-answer.new.self
    c.args.call.now c.serve-answer.result c.serve-answer.ensures.served c.serve-answer.ensures.fault c.serve-answer.ensures.count
    c.serve-answer.ensures.endures c.serve-answer.ensures.faults in
    answer_put (g.O.Outlet.written c.args.outlet.now) (g.O.Outlet.written c.put_answer_or_fault-put.new.outlet)
    (RanWith g.B.Books c.args.office.now c.serve-answer.new.self)
    c.args.call.now c.serve-answer.result c.put_answer_or_fault-put.result c.put_answer_or_fault-put.ensures.does (c.put_answer_or_fault-put.ensures.why c.args.call.now) ran
