-- The priority matrices of a unit (ISA-18.2: rationalisation), by number, and the places of their bands and cells.
use Rattle.std.specs.{List.{enumerate_from, range_with_len, slice_get}, Ordering.{nat_cmp, ordering_then}, declared.cmp.Ordering.{Ordering}}
use Rattle.std.specs.Prelude.{◌+◌, List, None, Option, Some, [], flat_map, length, map, option_and_then, option_map, suc, zero, ℕ}
use Rattle.plant_model.specs.{Changes.{matrix_in, proposals}, Histories.{latest, of_key, same_number}, Kinds.{Opening, says}, declared.call.Call.{Call}}
use Rattle.plant_model.specs.declared.{call.Request.{Request}, rows.{BandRow.{BandRow}, CellRow.{CellRow}}}
use Rattle.plant_ration.specs.{Grid.{Grid}, declared.{cell.Cell.{Cell}, change.Proposal.{Proposal}}}

abbrev pub numbered_by : List Call → Option Opening → Option Proposal → Option (ℕ × Grid)
numbered_by before (Some o) x = Some (0, o.matrix)
numbered_by before None None = None
numbered_by before None (Some x) = matrix_in (proposals before + 1) (Some x.kind)

-- the matrix of an entry, with its number: that of the opening has number 0, a proposed one that of its change
abbrev pub numbered_matrix : List Call → Request → Option (ℕ × Grid)
numbered_matrix before r = numbered_by before (says r).opening (says r).proposal

-- the matrix of a number
abbrev pub matrix_numbered : List Call → ℕ → Option Grid
matrix_numbered h n = latest (λ c before. of_key same_number n (numbered_matrix before c.request)) h

-- the place of a finite limit: its matrix and its band; the place of a cell: its matrix, severity and band; each from 1
abbrev pub BandKey : Type 0
BandKey = ℕ × ℕ

abbrev pub CellKey : Type 0
CellKey = ℕ × ℕ × ℕ

abbrev pub band_cmp : BandKey → BandKey → Ordering
band_cmp a b = ordering_then (nat_cmp a.0 b.0) (nat_cmp a.1 b.1)

abbrev pub cell_cmp : CellKey → CellKey → Ordering
cell_cmp a b = ordering_then (nat_cmp a.0 b.0) (ordering_then (nat_cmp a.1 b.1) (nat_cmp a.2 b.2))

abbrev pub band_places : ℕ → Grid → List BandKey
band_places n m = map (λ b. (n, b)) (range_with_len 1 (length m.limits))

abbrev pub cells_of_row : ℕ → ℕ × List Cell → List CellKey
cells_of_row n e = map (λ b. (n, e.0, b)) (range_with_len 1 (length e.1))

abbrev pub cell_places : ℕ → Grid → List CellKey
cell_places n m = flat_map (cells_of_row n) (enumerate_from 1 m.cells)

abbrev pub places_in : {K : Type 0} → (ℕ → Grid → List K) → Option (ℕ × Grid) → List K
places_in places None = []
places_in places (Some e) = places e.0 e.1

-- the element at a place from 1
abbrev pub at_place : {A : Type 0} → List A → ℕ → Option A
at_place xs zero = None
at_place xs (suc n) = slice_get xs n

abbrev pub band_at : BandKey → Grid → Option BandRow
band_at k m = option_map (λ l. record { matrix_no = k.0; band_no = k.1; limit_s = l }) (at_place m.limits k.1)

abbrev pub cell_of : CellKey → Grid → Option CellRow
cell_of k m =
    option_map (λ c. record { matrix_no = k.0; severity = k.1; band_no = k.2; cell_no = c })
    (option_and_then (λ row. at_place row k.2) (at_place m.cells k.1))
