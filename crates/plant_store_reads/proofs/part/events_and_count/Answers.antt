use Rattle.std.proofs.Common.{◌≡◌, ap, sym, ◌∙◌}
use Rattle.sqlite.specs.{Effect.{Database}, Held.{state}}
use Rattle.plant_books.specs.Contents.{rows_in}
use Rattle.plant_model.specs.steps.{Parts.{Selection, counted_for, selected}, Scopes.{selection_by}}
use Rattle.plant_store_columns.specs.{Tables.{rows_seen}, declared.tables.TableKind.TheVariants.{Alarms, Changes, Events}}
use Rattle.plant_store_reads.specs.Wanted.{events_with}
use Rattle.plant_store_statements.proofs.public.ReadsOnly.{begins, goes_on, reads_then}
use Rattle.plant_store_reads.proofs.Selected.{events_are}
use Rattle.plant_store_reads.proofs.part.events_and_count.Goals as goal

pub returns-clause-found : goal.returns-clause-found
returns-clause-found g c honest m k is =
    let u = c.args.unit.now in
    let q = c.args.request.now in
    let old = state g.S.Store c.args.conn.now in
    let all = rows_in m u in
    let chosen = selection_by all c.args.scope in
    let seen = rows_seen u old.now.trees Events in
    let t1 = c.count_for.ensures.reads.honest honest in
    let r1 = goes_on c.some_events.ensures.reads t1 (begins k.books) in
    let looks = c.looks_at_events-looks.result in
    let read : c.in_ok-all.all ≡ events_with looks seen = c.in_ok-all.ensures.rows t1.0 k.books in
    let events : c.in_ok-events.events ≡ (selected all q).events all.events =
    c.in_ok-events.ensures all ∙ ap chosen.events read ∙ ap (λ (x : Selection). x.events (events_with looks seen)) is
    ∙ events_are all q looks c.looks_at_events-looks.ensures seen ∙ ap (selected all q).events (k.seen u Events) in
    let count : c.in_ok-count.count ≡ counted_for all q =
    c.in_ok-count.ensures.rows honest.0 r1.books all (sym (k.seen u Alarms) ∙ ap (λ (d : Database). rows_seen u d.trees Alarms) (sym r1.now))
    (sym (k.seen u Changes) ∙ ap (λ (d : Database). rows_seen u d.trees Changes) (sym r1.now))
    (λ so. sym (read ∙ ap (λ b. events_with b seen) (c.looks_at_events-looks.ensures ∙ so) ∙ k.seen u Events)) in
    λ i. (events i, count i)

pub returns-clause-reads : goal.returns-clause-reads
returns-clause-reads g c = reads_then c.some_events.ensures.reads c.count_for.ensures.reads
