use Rattle.std.proofs.Common.{ap, length, ◌∙◌}
use Rattle.sqlite.specs.Held.{state}
use Rattle.plant_store_statements.proofs.public.{Queries.{alarms_counted, if_ok}, ReadsOnly.{reads_plain}}
use Rattle.plant_store_reads.proofs.queries.count_of_alarms.Goals as goal

pub returns-clause-rows : goal.returns-clause-rows
returns-clause-rows g c clean books =
    let shown = rw c.single.ensures at (rw c.select.ensures.text at (c.in_ok-alarms.ensures.rows clean)) in
    if_ok c.count_of.result (λ n is. is ∙ ap length c.as_slice.ensures.value
    ∙ alarms_counted c.args.unit.now (state g.S.Store c.args.conn.now)
    (state g.S.Store c.ask.new.conn) books c.in_ok-alarms.alarms.items shown) c.count_of.ensures

pub returns-in_err-alarms-clause-reads : goal.returns-in_err-alarms-clause-reads
returns-in_err-alarms-clause-reads g c =
    reads_plain _ (c.select.ensures.reads c.args.unit.now).plain c.ask.ensures.same c.ask.ensures.honest _ c.ask.ensures.shows

pub returns-clause-reads : goal.returns-clause-reads
returns-clause-reads g c = reads_plain _ (c.select.ensures.reads c.args.unit.now).plain c.ask.ensures.same c.ask.ensures.honest _ c.ask.ensures.shows
