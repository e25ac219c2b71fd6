use Rattle.std.proofs.Common.{◌≡◌, ap, filter, ◌∙◌}
use Rattle.sqlite.specs.{Effect.{Database}, Held.{state}}
use Rattle.plant_books.specs.Contents.{rows_in}
use Rattle.plant_model.specs.declared.rows.{ChangeEntry.{ChangeEntry}, RecordEntry.{RecordEntry}}
use Rattle.plant_model.specs.steps.Scopes.{selection_by}
use Rattle.plant_store_columns.specs.{Tables.{rows_seen}, declared.tables.TableKind.TheVariants.{Changes}}
use Rattle.plant_store_statements.proofs.public.ReadsOnly.{begins, goes_on, reads_then}
use Rattle.plant_store_reads.proofs.Selected.{records_asked}
use Rattle.plant_store_reads.proofs.part.records_and_changes.Goals as goal

pub returns-clause-found : goal.returns-clause-found
returns-clause-found g c honest m k =
    let u = c.args.unit.now in
    let old = state g.S.Store c.args.conn.now in
    let all = rows_in m u in
    let chosen = selection_by all c.args.scope in
    let t1 = c.some_changes.ensures.reads.honest honest in
    let r1 = goes_on c.rows_wanted.ensures.reads t1 (begins k.books) in
    let records : c.in_ok-records.records ≡ filter (λ (r : RecordEntry). chosen.rationale r.tag) all.records =
    records_asked old m u k chosen c.wanted_records-recorded.result (c.wanted_records-recorded.ensures all) c.in_ok-records.records
    (c.in_ok-records.ensures.rows t1.0 k.books) in
    let changes : c.in_ok-changes.changes ≡ filter (λ (r : ChangeEntry). chosen.change r.number) all.changes =
    c.in_ok-changes.ensures.rows honest r1.books all records
    ∙ ap (λ (d : Database). filter (λ (r : ChangeEntry). chosen.change r.number) (rows_seen u d.trees Changes)) r1.now
    ∙ ap (filter (λ (r : ChangeEntry). chosen.change r.number)) (k.seen u Changes) in
    λ i. (records i, changes i)

pub returns-clause-reads : goal.returns-clause-reads
returns-clause-reads g c = reads_then c.rows_wanted.ensures.reads c.some_changes.ensures.reads
