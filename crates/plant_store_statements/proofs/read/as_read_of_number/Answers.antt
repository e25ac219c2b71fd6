use Rattle.plant_store_statements.proofs.public.{Reading.{loads}, ReadsOnly.{reads_plain}}
use Rattle.plant_store_statements.proofs.read.as_read_of_number.Goals as goal

pub returns-clause-rows : goal.returns-clause-rows
returns-clause-rows g c clean books =
    loads (c.select_of_number.ensures c.args.unit.now c.args.number) _ _ _ _ c.numbered.ensures (c.read_rows.ensures.rows clean) books.same_schema
    books

pub returns-clause-reads : goal.returns-clause-reads
returns-clause-reads g c =
    reads_plain _ (c.select_of_number.ensures c.args.unit.now c.args.number).plain c.read_rows.ensures.same c.read_rows.ensures.honest _
    c.read_rows.ensures.shows
