use Rattle.plant_store_statements.proofs.public.{Reading.{loads}, ReadsOnly.{reads_plain}}
use Rattle.plant_store_statements.proofs.read.as_read_of_tag.Goals as goal

pub returns-clause-rows : goal.returns-clause-rows
returns-clause-rows g c clean books =
    loads (c.select_of_tag.ensures c.args.unit.now c.args.tag.now) _ _ _ _ c.pair.ensures (c.read_rows.ensures.rows clean) books.same_schema books

pub returns-clause-reads : goal.returns-clause-reads
returns-clause-reads g c =
    reads_plain _ (c.select_of_tag.ensures c.args.unit.now c.args.tag.now).plain c.read_rows.ensures.same c.read_rows.ensures.honest _
    c.read_rows.ensures.shows
