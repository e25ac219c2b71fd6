use Rattle.std.{proofs.Common.{◌≡◌, ap, ◌∙◌}}
use Rattle.sqlite.specs.{Effect.{Database}, Held.{state}}
use Rattle.plant_store_columns.specs.declared.tables.TableKind.TheVariants.{Alarms, Grants, Records, Shelves}
use Rattle.plant_store_columns.specs.Tables.{rows_seen}
use Rattle.plant_store_statements.proofs.public.ReadsOnly.{begins, goes_on}
use Rattle.plant_store_reads.proofs.unit.read_standing.Goals as goal

pub returns-clause-found : goal.returns-clause-found
returns-clause-found g c honest m k =
    let u = c.args.unit.now in
    let t3 = c.sorted_rows-4.ensures.reads.honest honest in
    let t2 = c.sorted_rows-3.ensures.reads.honest t3 in
    let t1 = c.sorted_rows-2.ensures.reads.honest t2 in
    let r1 = goes_on c.sorted_rows.ensures.reads t1 (begins k.books) in
    let r2 = goes_on c.sorted_rows-2.ensures.reads t2 r1 in
    let r3 = goes_on c.sorted_rows-3.ensures.reads t3 r2 in
    λ i. record c.args.rows.now {
      grants = (c.in_ok-rows.ensures.rows t1.0 k.books ∙ k.seen u Grants) i;
      alarms = (c.in_ok-rows-2.ensures.rows t2.0 r1.books ∙ ap (λ (d : Database). rows_seen u d.trees Alarms) r1.now ∙ k.seen u Alarms) i;
      shelves = (c.in_ok-rows-3.ensures.rows t3.0 r2.books ∙ ap (λ (d : Database). rows_seen u d.trees Shelves) r2.now ∙ k.seen u Shelves) i;
      records = (c.in_ok-rows-4.ensures.rows honest.0 r3.books ∙ ap (λ (d : Database). rows_seen u d.trees Records) r3.now ∙ k.seen u Records) i;
    }
