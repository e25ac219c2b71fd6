use Rattle.std.proofs.Common.{sym, subst}
use Rattle.plant_wire_answer.specs.Answers.{answer_bytes}
use Rattle.plant_wire.{specs.{Marks.{said, begun}, Step.{IsPut}}, proofs.Serving.{said_unless, stops_faultless, stops_writing}}
use Rattle.plant_wire.proofs.step.put_answer_or_fault.Goals as goal

pub returns-in-Fault-clause-does : goal.returns-in-Fault-clause-does
returns-in-Fault-clause-does g c =
    subst (λ a. IsPut (g.O.Outlet.written c.args.outlet.now) (g.O.Outlet.written c.put_fault.new.outlet) (answer_bytes a) c.put_fault.result)
    (sym c.in-Fault.is) c.put_fault.ensures.does

pub returns-in-Fault-clause-why : goal.returns-in-Fault-clause-why
returns-in-Fault-clause-why g c = λ call. stops_writing (begun (said call c.args.answer.now)) c.put_fault.result c.put_fault.ensures.only

pub returns-in_default-clause-why : goal.returns-in_default-clause-why
returns-in_default-clause-why g c =
    λ call. stops_faultless (begun (said call c.args.answer.now)) c.put_answer.result (said_unless c.args.answer.now c.in_default.not-Fault)
