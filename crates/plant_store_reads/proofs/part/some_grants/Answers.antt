use Rattle.std.proofs.Common.{◌∙◌}
use Rattle.plant_store_statements.proofs.public.Queries.{every_one, if_ok}
use Rattle.plant_store_reads.proofs.part.some_grants.Goals as goal

pub returns-then-all-clause-rows : goal.returns-then-all-clause-rows
returns-then-all-clause-rows g c clean books =
    if_ok c.sorted_rows.result (λ rows h p is. h ∙ every_one c.args.all c.if-all.true _ _) (c.sorted_rows.ensures.rows clean books)
