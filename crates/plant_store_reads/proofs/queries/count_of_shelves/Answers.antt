use Rattle.std.proofs.Common.{ap, ◌∙◌, length}
use Rattle.sqlite.specs.Held.{state}
use Rattle.plant_store_statements.proofs.public.Queries.{shelves_counted}
use Rattle.plant_store_statements.proofs.public.ReadsOnly.{reads_plain}
use Rattle.plant_store_statements.proofs.public.Meanings.{shelf_tags}
use Rattle.plant_store_reads.proofs.queries.count_of_shelves.Goals as goal

pub returns-clause-rows : goal.returns-clause-rows
returns-clause-rows g c clean books =
    let shown = rw c.single.ensures at (c.in_ok-tags.ensures.rows clean) in
    ap length c.as_slice.ensures.value
    ∙ shelves_counted c.args.unit.now (state g.S.Store c.args.conn.now) (state g.S.Store c.ask.new.conn) books c.in_ok-tags.tags.items shown

pub returns-in_err-tags-clause-reads : goal.returns-in_err-tags-clause-reads
returns-in_err-tags-clause-reads g c = reads_plain _ shelf_tags.plain c.ask.ensures.same c.ask.ensures.honest _ c.ask.ensures.shows

pub returns-clause-reads : goal.returns-clause-reads
returns-clause-reads g c = reads_plain _ shelf_tags.plain c.ask.ensures.same c.ask.ensures.honest _ c.ask.ensures.shows
