-- The rows of a matrix, in the order of its limits and cells.
use Rattle.std.specs.{List.{enumerate_from, range_with_len}, Prelude.{List, Vec, filter, flat_map, map, ℕ}}
use Rattle.plant_model.specs.{Histories.{same_number}, declared.rows.{BandRow.{BandRow}, CellRow.{CellRow}}}
use Rattle.plant_model.specs.steps.RowFacts.{cells_at, has_cells}
use Rattle.plant_model.specs.declared.rows.{Row.TheVariants.{Band as BandPut, Cell as CellPut}, RowEdit.{RowEdit, TheVariants.{Put}}}
use Rattle.plant_ration.specs.declared.cell.Cell.{Cell}

abbrev pub band_row_of : ℕ → ℕ × ℕ → BandRow
band_row_of n e = record { matrix_no = n; band_no = e.0; limit_s = e.1 }

abbrev pub cell_row_of : ℕ → ℕ → ℕ × Cell → CellRow
cell_row_of n s e = record { matrix_no = n; severity = s; band_no = e.0; cell_no = e.1 }

abbrev pub row_of_cells : ℕ → ℕ × List Cell → List CellRow
row_of_cells n e = map (cell_row_of n e.0) (enumerate_from 1 e.1)

-- the limits of the matrix with a number
abbrev pub limits_at : List BandRow → ℕ → List ℕ
limits_at bands n = map (λ b. b.limit_s) (filter (λ b. same_number n b.matrix_no) bands)

-- the cells of the matrix with a number, by severity, without the severities that have none
abbrev pub cell_lists : List CellRow → ℕ → List (List Cell)
cell_lists cells n = filter has_cells (map (cells_at cells n) (range_with_len 1 5))

-- the items of each vector
abbrev pub items_of : {X Z : Type 0} → List (Vec X Z) → List (List X)
items_of rows = map (λ row. row.items) rows

-- the changes that put the limits of a matrix
abbrev pub band_puts : ℕ → List ℕ → List RowEdit
band_puts n limits = map (λ r. Put (BandPut r)) (map (band_row_of n) (enumerate_from 1 limits))

-- the changes that put the cells of one severity
abbrev pub row_puts : ℕ → ℕ × List Cell → List RowEdit
row_puts n e = map (λ r. Put (CellPut r)) (row_of_cells n e)

-- the changes that put the cells of all severities
abbrev pub cell_puts : {Z : Type 0} → ℕ → List (Vec Cell Z) → List RowEdit
cell_puts n rows = map (λ r. Put (CellPut r)) (flat_map (row_of_cells n) (enumerate_from 1 (items_of rows)))
