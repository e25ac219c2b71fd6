use Rattle.std.proofs.Common.{◌∙◌, ap, filter, subst, sym, IfOk}
use Rattle.sqlite.specs.Held.{state}
use Rattle.sqlite_keyed.proofs.ListLemmas.{filter-filter}
use Rattle.plant_books.specs.Asking.{HasNumbers}
use Rattle.plant_store_columns.specs.{Tables.{rows_seen}, declared.tables.TableKind.TheVariants.{Changes}}
use Rattle.plant_model.specs.declared.rows.RecordEntry.{RecordEntry}
use Rattle.plant_model.specs.steps.Scopes.{selection_by}
use Rattle.plant_store_reads.proofs.NumberLaws.{changes_climb}
use Rattle.plant_store_statements.proofs.public.Queries.{if_ok}
use Rattle.plant_store_reads.proofs.scope_rows.some_changes.Goals as goal

pub returns-clause-rows : goal.returns-clause-rows
returns-clause-rows g c honest books rows same =
    let u = c.args.unit.now in
    let db = (state g.S.Store c.args.conn.now).now in
    let taken = λ (r : RecordEntry). (selection_by rows c.args.scope).rationale r.tag in
    let all = sym (filter-filter taken taken (λ x h. h) rows.records) ∙ ap (filter taken) (sym same ∙ sym c.as_slice.ensures.value) in
    let are : HasNumbers c.in-Ok.numbers (selection_by rows c.args.scope).change =
    subst (λ said. IfOk said (λ numbers. HasNumbers numbers (selection_by rows c.args.scope).change)) c.in-Ok.is
    (c.change_numbers.ensures.value rows all) in
    if_ok c.rows_of_numbers.result (λ found h. h ∙ (λ i. filter (λ r. are r.number i) (rows_seen u db.trees Changes)))
    (c.rows_of_numbers.ensures.rows honest books (changes_climb u db books))
