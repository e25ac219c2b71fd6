use Rattle.plant_wire.proofs.step.answer_next.Goals as goal

pub returns-clause-does : goal.returns-clause-does
returns-clause-does g c = c.answer_cut-step.ensures.does c.args.bytes.now c.look_with-cut.ensures.cut c.look_with-cut.ensures.wanted
