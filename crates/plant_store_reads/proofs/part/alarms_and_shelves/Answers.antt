use Rattle.std.proofs.Common.{◌≡◌, ap, filter, ◌∙◌}
use Rattle.sqlite.specs.{Effect.{Database}, Held.{state}}
use Rattle.plant_books.specs.Contents.{rows_in}
use Rattle.plant_model.specs.declared.rows.{AlarmRow.{AlarmRow}, ShelfRow.{ShelfRow}}
use Rattle.plant_model.specs.steps.{RowFacts.{shelf_tag}, Scopes.{selection_by}}
use Rattle.plant_store_columns.specs.{Tables.{rows_seen}, declared.tables.TableKind.TheVariants.{Alarms, Shelves}}
use Rattle.plant_store_reads.specs.Wanted.{alarms_left, alarms_with, rows_with}
use Rattle.plant_store_statements.proofs.public.ReadsOnly.{begins, goes_on, reads_then}
use Rattle.plant_store_reads.proofs.Selected.{alarms_are, rows_are}
use Rattle.plant_store_reads.proofs.part.alarms_and_shelves.Goals as goal

pub returns-clause-found : goal.returns-clause-found
returns-clause-found g c honest m k =
    let u = c.args.unit.now in
    let old = state g.S.Store c.args.conn.now in
    let all = rows_in m u in
    let chosen = selection_by all c.args.scope in
    let tags = c.wanted_alarms-tags.result in
    let t1 = c.rows_wanted.ensures.reads.honest honest in
    let r1 = goes_on c.some_alarms.ensures.reads t1 (begins k.books) in
    let read : c.in_ok-read.read ≡ alarms_with tags (rows_seen u old.now.trees Alarms) = c.in_ok-read.ensures.rows t1.0 k.books in
    let shelves : c.in_ok-shelves.shelves ≡ filter (λ (r : ShelfRow). chosen.shelf r.tag) all.shelves =
    c.in_ok-shelves.ensures.rows honest.0 r1.books
    ∙ ap (λ (d : Database). rows_with shelf_tag c.wanted_shelves-shelved.result (rows_seen u d.trees Shelves)) r1.now
    ∙ rows_are shelf_tag chosen.shelf c.wanted_shelves-shelved.result (c.wanted_shelves-shelved.ensures all) (rows_seen u old.now.trees Shelves)
    ∙ ap (filter (λ (r : ShelfRow). chosen.shelf r.tag)) (k.seen u Shelves) in
    let alarms : c.in_ok-alarms.alarms ≡ filter (λ (r : AlarmRow). chosen.alarm r.tag) all.alarms =
    c.in_ok-alarms.ensures ∙ ap (alarms_left tags c.in_ok-shelves.shelves) read
    ∙ alarms_are chosen all.shelves c.in_ok-shelves.shelves tags (c.wanted_alarms-tags.ensures.alarms all)
    (c.wanted_alarms-tags.ensures.shelves all) shelves (rows_seen u old.now.trees Alarms)
    ∙ ap (filter (λ (r : AlarmRow). chosen.alarm r.tag)) (k.seen u Alarms) in
    λ i. (alarms i, shelves i)

pub returns-clause-reads : goal.returns-clause-reads
returns-clause-reads g c = reads_then c.some_alarms.ensures.reads c.rows_wanted.ensures.reads
