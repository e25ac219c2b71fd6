use Rattle.plant_store_statements.proofs.public.Queries.{if_ok}
use Rattle.plant_store_statements.proofs.read.read_rows.Goals as goal

pub returns-clause-rows : goal.returns-clause-rows
returns-clause-rows g c clean =
    if_ok c.read_all.result (λ read decoded. (c.in_ok-rows.rows.items, (c.in_ok-rows.ensures.rows clean, decoded)))
    (rw c.as_slice.ensures.value at c.read_all.ensures)
