use Rattle.sqlite.specs.Held.{state}
use Rattle.plant_store_migration.proofs.{OldMeanings.{asks_codes}, OldQueries.{old_codes_read, reads_plain_old}}
use Rattle.plant_store_statements.proofs.public.Queries.{if_ok}
use Rattle.plant_store_migration.proofs.old_rows.old_codes_of.Goals as goal

pub returns-clause-rows : goal.returns-clause-rows
returns-clause-rows g c clean books =
    let old = state g.S.Store c.args.conn.now in
    let new = state g.S.Store c.read_rows.new.conn in
    if_ok c.read_rows.result (λ lines it. old_codes_read old new books it.0 it.1.0 lines it.1.1) (c.read_rows.ensures.rows clean)

pub returns-clause-reads : goal.returns-clause-reads
returns-clause-reads g c = reads_plain_old _ asks_codes.plain c.read_rows.ensures.same c.read_rows.ensures.honest _ c.read_rows.ensures.shows
