use Rattle.std.proofs.Common.{◌∙◌, filter, subst, IfOk}
use Rattle.sqlite.specs.Held.{state}
use Rattle.plant_books.specs.Asking.{HasNumbers}
use Rattle.plant_model.specs.steps.Scopes.{selection_by}
use Rattle.plant_store_statements.proofs.public.Queries.{if_ok}
use Rattle.plant_store_reads.proofs.scope_rows.matrix_rows.Goals as goal

pub returns-clause-rows : goal.returns-clause-rows
returns-clause-rows g c honest books rise rows same =
    let all = g.T.Stored.seen c.args.unit.now (state g.S.Store c.args.conn.now).now.trees in
    let are : HasNumbers c.in-Ok.numbers (selection_by rows c.args.scope).matrix =
    subst (λ said. IfOk said (λ numbers. HasNumbers numbers (selection_by rows c.args.scope).matrix)) c.in-Ok.is
    (c.matrix_numbers.ensures.value rows same) in
    if_ok c.rows_of_numbers.result (λ found h. h ∙ (λ i. filter (λ r. are (g.T.Numbered.number r) i) all))
    (c.rows_of_numbers.ensures.rows honest books rise)
