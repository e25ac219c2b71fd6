use Rattle.std.proofs.Common.{◌≡◌, ap, filter, sym, ◌∙◌}
use Rattle.sqlite.specs.{Effect.{Database}, Held.{state}}
use Rattle.plant_books.specs.Contents.{rows_in}
use Rattle.plant_model.specs.declared.rows.{BandRow.{BandRow}, CellRow.{CellRow}}
use Rattle.plant_model.specs.steps.Scopes.{selection_by}
use Rattle.plant_store_columns.specs.{Tables.{rows_seen}, declared.tables.TableKind.TheVariants.{Bands, Cells}}
use Rattle.plant_store_statements.proofs.public.ReadsOnly.{begins, goes_on, reads_then}
use Rattle.plant_store_reads.proofs.NumberLaws.{bands_climb, cells_climb}
use Rattle.plant_store_reads.proofs.part.matrices.Goals as goal

pub returns-clause-found : goal.returns-clause-found
returns-clause-found g c honest m k units =
    let u = c.args.unit.now in
    let all = rows_in m u in
    let chosen = selection_by all c.args.scope in
    let t1 = c.matrix_rows-2.ensures.reads.honest honest in
    let r1 = goes_on c.matrix_rows.ensures.reads t1 (begins k.books) in
    let bands : c.in_ok-bands.bands ≡ filter (λ (r : BandRow). chosen.matrix r.matrix_no) all.bands =
    c.in_ok-bands.ensures.rows t1 k.books (bands_climb u _ k.books) all (sym units)
    ∙ ap (filter (λ (r : BandRow). chosen.matrix r.matrix_no)) (k.seen u Bands) in
    let cells : c.in_ok-cells.cells ≡ filter (λ (r : CellRow). chosen.matrix r.matrix_no) all.cells =
    c.in_ok-cells.ensures.rows honest r1.books (cells_climb u _ r1.books) all (sym units)
    ∙ ap (λ (d : Database). filter (λ (r : CellRow). chosen.matrix r.matrix_no) (rows_seen u d.trees Cells)) r1.now
    ∙ ap (filter (λ (r : CellRow). chosen.matrix r.matrix_no)) (k.seen u Cells) in
    λ i. (bands i, cells i)

pub returns-clause-reads : goal.returns-clause-reads
returns-clause-reads g c = reads_then c.matrix_rows.ensures.reads c.matrix_rows-2.ensures.reads
