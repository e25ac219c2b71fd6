-- The numbers of the tables' rows do not fall.
use Rattle.std.{specs.Cmp.{eq_by_cmp_equiv}, proofs.{Common.{◌≡◌, ℕ}, lemmas.Cmp.{nat_cmp_total}}}
use Rattle.sqlite.specs.Effect.{Database}
use Rattle.plant_books.specs.Numbered.{NumbersRise}
use Rattle.plant_model.proofs.public.NumberOrders.{bands_rise, cells_rise, changes_rise}
use Rattle.plant_store_columns.specs.Tables.{AreBooks, band_shape, cell_shape, change_shape, rows_seen}
use Rattle.plant_store_columns.{proofs.public.{ShapeLaws.{good}, Shapes.{rises}}, specs.declared.tables.TableKind.TheVariants.{Bands, Cells, Changes}}
use Rattle.plant_model.specs.{Histories.{same_number}, declared.rows.{BandRow.{BandRow}, CellRow.{CellRow}}}
use Rattle.plant_model.specs.steps.RowFacts.{change_number}
use Rattle.plant_types.specs.Names.{Name}

pub other_way : (m n : ℕ) → same_number m n ≡ same_number n m
other_way m n = (eq_by_cmp_equiv nat_cmp_total).symm m n

pub bands_climb : (u : Name) (db : Database) → AreBooks db → NumbersRise (λ (r : BandRow). r.matrix_no) (rows_seen u db.trees Bands)
bands_climb u db books = bands_rise _ (rises band_shape (good Bands) u (db.trees 9) (books.tidy Bands))

pub cells_climb : (u : Name) (db : Database) → AreBooks db → NumbersRise (λ (r : CellRow). r.matrix_no) (rows_seen u db.trees Cells)
cells_climb u db books = cells_rise _ (rises cell_shape (good Cells) u (db.trees 11) (books.tidy Cells))

pub changes_climb : (u : Name) (db : Database) → AreBooks db → NumbersRise change_number (rows_seen u db.trees Changes)
changes_climb u db books = changes_rise _ (rises change_shape (good Changes) u (db.trees 17) (books.tidy Changes))
