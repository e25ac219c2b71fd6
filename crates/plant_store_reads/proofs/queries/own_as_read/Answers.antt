use Rattle.plant_store_statements.proofs.public.{Queries.{own_grants_read}, Reading.{loads}}
use Rattle.plant_store_statements.proofs.public.ReadsOnly.{reads_plain}
use Rattle.plant_store_statements.proofs.public.Meanings.{lists_own_grants}
use Rattle.plant_store_reads.proofs.queries.own_as_read.Goals as goal

pub returns-clause-rows : goal.returns-clause-rows
returns-clause-rows g c clean books =
    loads (own_grants_read c.args.unit.now c.args.person.now) _ _ _ _ c.pair.ensures (c.read_rows.ensures.rows clean) books.same_schema books

pub returns-clause-reads : goal.returns-clause-reads
returns-clause-reads g c = reads_plain _ lists_own_grants.plain c.read_rows.ensures.same c.read_rows.ensures.honest _ c.read_rows.ensures.shows
