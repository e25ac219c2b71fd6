use Rattle.plant_unit.proofs.reading.kind_of.Goals as goal

pub returns-in-Record-clause-value : goal.returns-in-Record-clause-value
returns-in-Record-clause-value c = rw c.in-Record.is (c.record_kind.ensures.value c.args.rows.now)

pub returns-in-Limit-clause-value : goal.returns-in-Limit-clause-value
returns-in-Limit-clause-value c = rw c.in-Limit.is (c.limit_kind.ensures.value c.args.rows.now)
