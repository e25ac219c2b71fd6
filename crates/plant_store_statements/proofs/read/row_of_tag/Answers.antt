use Rattle.std.proofs.Common.{◌∙◌}
use Rattle.plant_store_statements.proofs.public.Queries.{if_ok}
use Rattle.plant_store_statements.proofs.read.row_of_tag.Goals as goal

pub returns-clause-rows : goal.returns-clause-rows
returns-clause-rows g c clean books =
    if_ok c.in_order.result (λ sorted h. h ∙ c.in_ok-rows.ensures.rows clean books) c.in_order.ensures.value
