use Rattle.plant_store_statements.proofs.public.Reading.{loads}
use Rattle.plant_store_migration.proofs.OldQueries.{reads_plain_old}
use Rattle.plant_store_migration.proofs.old_rows.old_rows_of.Goals as goal

pub returns-clause-rows : goal.returns-clause-rows
returns-clause-rows g c clean books =
    loads (c.old_select.ensures c.args.unit.now) _ _ _ _ c.single.ensures (c.read_rows.ensures.rows clean) books.same_schema books

pub returns-clause-reads : goal.returns-clause-reads
returns-clause-reads g c =
    reads_plain_old _ (c.old_select.ensures c.args.unit.now).plain c.read_rows.ensures.same c.read_rows.ensures.honest _ c.read_rows.ensures.shows
