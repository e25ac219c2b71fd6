use Rattle.std.proofs.Common.{ap, filter, ◌∙◌}
use Rattle.sqlite.specs.Held.{state}
use Rattle.plant_books.specs.Contents.{rows_in}
use Rattle.plant_model.specs.declared.rows.{AlarmRow.{AlarmRow}, BandRow.{BandRow}, CellRow.{CellRow}, ChangeEntry.{ChangeEntry}}
use Rattle.plant_model.specs.declared.rows.{RecordEntry.{RecordEntry}, ShelfRow.{ShelfRow}}
use Rattle.plant_model.specs.steps.Parts.{Selection}
use Rattle.plant_store_statements.proofs.public.{Contents.{keeps_same}, ReadsOnly.{begins, goes_on, reads_then}}
use Rattle.plant_store_reads.proofs.part.read_in_scope.Goals as goal

pub returns-clause-found : goal.returns-clause-found
returns-clause-found g c honest m k is units =
    let u = c.args.unit.now in
    let old = state g.S.Store c.args.conn.now in
    let all = rows_in m u in
    let t3 = c.matrices.ensures.reads.honest honest in
    let t2 = c.records_and_changes.ensures.reads.honest t3 in
    let t1 = c.events_and_count.ensures.reads.honest t2 in
    let r1 = goes_on c.alarms_and_shelves.ensures.reads t1 (begins k.books) in
    let r2 = goes_on c.events_and_count.ensures.reads t2 r1 in
    let r3 = goes_on c.records_and_changes.ensures.reads t3 r2 in
    let k1 = keeps_same old (state g.S.Store c.alarms_and_shelves.new.conn) m k r1.now in
    let k2 = keeps_same old (state g.S.Store c.events_and_count.new.conn) m k r2.now in
    let k3 = keeps_same old (state g.S.Store c.records_and_changes.new.conn) m k r3.now in
    let standing = c.in_ok-rows.ensures.found t1 m k
    ∙ ap (λ (s : Selection). (filter (λ (r : AlarmRow). s.alarm r.tag) all.alarms, filter (λ (r : ShelfRow). s.shelf r.tag) all.shelves)) is in
    let looked = c.in_ok-events.ensures.found t2 m k1 is in
    let decided = c.in_ok-rows-2.ensures.found t3 m k2
    ∙ ap (λ (s : Selection). (filter (λ (r : RecordEntry). s.rationale r.tag) all.records, filter (λ (r : ChangeEntry). s.change r.number) all.changes)) is in
    let tables = c.in_ok-rows-3.ensures.found honest m k3 units
    ∙ ap (λ (s : Selection). (filter (λ (r : BandRow). s.matrix r.matrix_no) all.bands, filter (λ (r : CellRow). s.matrix r.matrix_no) all.cells)) is in (
      λ i. (looked i).1,
      λ i. record {
        units = c.args.rows.now.units;
        grants = c.args.rows.now.grants;
        alarms = (standing i).0;
        shelves = (standing i).1;
        events = (looked i).0;
        bands = (tables i).0;
        cells = (tables i).1;
        records = (decided i).0;
        changes = (decided i).1;
      },
    )

pub returns-clause-reads : goal.returns-clause-reads
returns-clause-reads g c =
    reads_then (reads_then (reads_then c.alarms_and_shelves.ensures.reads c.events_and_count.ensures.reads) c.records_and_changes.ensures.reads)
    c.matrices.ensures.reads
