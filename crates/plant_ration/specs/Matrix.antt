-- Rationalisation, after ISA-18.2 and IEC 62682: the priority comes from the severity of the consequence and the time
-- to respond. Which tables are such matrices is this office's own rule.
use Rattle.std.specs.List.{list_all}
use Rattle.std.specs.Prelude.{ℕ, ◌+◌, ◌-◌, ◌≤◌, ◌≡◌, Bool, true, ◌&&◌, not, nat_lt, nat_le, ◌==◌, if◌then◌else◌, List, [], ◌∷◌, length, Option, Some, None, Result, Ok, Err, option_and_then, unwrap_or, slice_get, position, zip}
use Rattle.plant_types.specs.Numbers.{is_seconds}
use Rattle.plant_ration.specs.{Grid.{Grid}, declared.cell.{Cell.{Cell, TheVariants.{P1, P2, P3, P4, N}}, MatrixFault.{MatrixFault}}}
use Rattle.plant_ration.specs.declared.cell.MatrixFault.TheVariants.{Shape, BandsNotRising, NotOrdered}

-- the rank of a cell, from 1 for the highest priority to 5, which means that no alarm is needed
abbrev pub rank : Cell → ℕ
rank P1 = 1
rank P2 = 2
rank P3 = 3
rank P4 = 4
rank N = 5

-- the first cell is no lower than the second
abbrev pub no_lower : Cell → Cell → Bool
no_lower a b = nat_le (rank a) (rank b)

-- each element passes together with the next one
abbrev pub neighbours : {A : Type 0} → (A → A → Bool) → List A → Bool
neighbours ok [] = true
neighbours ok (x ∷ []) = true
neighbours ok (x ∷ y ∷ rest) = ok x y && neighbours ok (y ∷ rest)

-- one to five rows, at most four limits, a cell for each band, each limit a length of time
abbrev pub has_shape : List ℕ → List (List Cell) → Bool
has_shape limits rows =
    nat_le 1 (length rows) && nat_le (length rows) 5 && nat_le (length limits) 4
    && list_all (λ row. length row == length limits + 1) rows && list_all is_seconds limits

-- each limit is above the one before
abbrev pub is_rising : List ℕ → Bool
is_rising limits = neighbours nat_lt limits

-- no cell of the more severe row is lower than the cell in the same band of the other row
abbrev pub is_no_lower_row : List Cell → List Cell → Bool
is_no_lower_row less more = list_all (λ e. no_lower e.1 e.0) (zip less more)

-- no cell is lower than its neighbour in the next longer band or in the next less severe row
abbrev pub is_ordered : List (List Cell) → Bool
is_ordered rows = list_all (neighbours no_lower) rows && neighbours is_no_lower_row rows

-- the first fault, if any
abbrev pub fault_of : List ℕ → List (List Cell) → Option MatrixFault
fault_of limits rows =
    if not (has_shape limits rows) then Some Shape
    else if not (is_rising limits) then Some BandsNotRising
    else if not (is_ordered rows) then Some NotOrdered
    else None

-- no fault holds
abbrev pub is_matrix : List ℕ → List (List Cell) → Bool
is_matrix limits rows = has_shape limits rows && is_rising limits && is_ordered rows

-- the fault if any, else the matrix
abbrev pub made_or : Option MatrixFault → List ℕ → List (List Cell) → Result Grid MatrixFault
made_or None limits rows = Ok (record { limits = limits; cells = rows })
made_or (Some fault) limits rows = Err fault

-- the matrix with these limits and rows, or the first fault
abbrev pub matrix_of : List ℕ → List (List Cell) → Result Grid MatrixFault
matrix_of limits rows = made_or (fault_of limits rows) limits rows

-- the first band whose limit is above the response time, else the last
abbrev pub band : List ℕ → ℕ → ℕ
band limits response = unwrap_or (position (nat_lt response) limits) (length limits)

-- whether the matrix has a row for the severity; severities count from 1
abbrev pub is_row : Grid → ℕ → Bool
is_row t severity = nat_le 1 severity && nat_le severity (length t.cells)

-- the row of a severity
abbrev pub row_of : Grid → ℕ → Option (List Cell)
row_of t severity = if severity == 0 then None else slice_get t.cells (severity - 1)

-- the priority: the cell of the severity's row in the band of the response time
abbrev pub priority_of : Grid → ℕ → ℕ → Option Cell
priority_of t severity response = option_and_then (λ row. slice_get row (band t.limits response)) (row_of t severity)

-- the cell of a row and a band
abbrev pub cell_at : List (List Cell) → ℕ → ℕ → Option Cell
cell_at rows i j = option_and_then (λ row. slice_get row j) (slice_get rows i)

-- the order of a matrix, cell by cell: no cell is lower than its neighbour in the next longer band, or in the next less
-- severe row
pub record IsOrdered (rows : List (List Cell)) : Type 0 where
  pub bands : (i j : ℕ) (shorter longer : Cell) → cell_at rows i j ≡ Some shorter → cell_at rows i (j + 1) ≡ Some longer
      → rank shorter ≤ rank longer
  pub severities : (i j : ℕ) (less more : Cell) → cell_at rows i j ≡ Some less → cell_at rows (i + 1) j ≡ Some more
      → rank more ≤ rank less
