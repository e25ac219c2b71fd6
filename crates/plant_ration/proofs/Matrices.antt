-- What the tests of a matrix say of its rows, limits and cells.
use Rattle.std.specs.List.{list_all, Sorted.{IsStrictlyIncreasing}}
use Rattle.std.proofs.{lemmas.{Bool.{leb-true, eqb-true, Decides.{nat_tests}}, Option.{slice_get_past}}, Math.Numerals.{add-one}}
use Rattle.std.proofs.Common.{◌≡◌, ℕ, zero, suc, ◌+◌, ◌-◌, ◌<◌, ◌≤◌, refl, sym, ap, ◌∙◌, List, [], ◌∷◌, length, Bool, true, ◌&&◌, arith, Some, None, Option, is_some, nat_lt, ◌==◌, slice_get, slice_index, option_and_then}
use Rattle.plant_types.proofs.public.Halves.{left, right}
use Rattle.plant_ration.specs.{declared.cell.Cell.{Cell}, Grid.{Grid}}
use Rattle.plant_ration.specs.Matrix.{rank, no_lower, neighbours, is_no_lower_row, is_rising, is_ordered, has_shape, is_matrix, band, is_row}
use Rattle.plant_ration.specs.Matrix.{priority_of, cell_at, IsOrdered}

-- neighbours at a place
neighbours_at : {A : Type 0} (ok : A → A → Bool) (xs : List A) (k : ℕ) (a b : A) → neighbours ok xs ≡ true → slice_get xs k ≡ Some a
    → slice_get xs (suc k) ≡ Some b → ok a b ≡ true
neighbours_at ok [] k a b h p q = cc
neighbours_at ok (x ∷ []) zero a b h p q = cc
neighbours_at ok (x ∷ []) (suc k) a b h p q = cc
neighbours_at ok (x ∷ y ∷ rest) zero a b h p q = grind arith
neighbours_at ok (x ∷ y ∷ rest) (suc k) a b h p q = grind (arith, neighbours_at ok (y ∷ rest) k a b)

all_at : {A : Type 0} (ok : A → Bool) (xs : List A) (k : ℕ) (a : A) → list_all ok xs ≡ true → slice_get xs k ≡ Some a → ok a ≡ true
all_at ok [] k a h p = cc
all_at ok (x ∷ xs) zero a h p = grind arith
all_at ok (x ∷ xs) (suc k) a h p = grind (arith, all_at ok xs k a)

beside_at : (less more : List Cell) (j : ℕ) (a b : Cell) → is_no_lower_row less more ≡ true → slice_get less j ≡ Some a → slice_get more j ≡ Some b
    → no_lower b a ≡ true
beside_at [] more j a b h p q = cc
beside_at (x ∷ less) [] j a b h p q = cc
beside_at (x ∷ less) (y ∷ more) zero a b h p q = grind arith
beside_at (x ∷ less) (y ∷ more) (suc j) a b h p q = grind (arith, beside_at less more j a b)

-- the row of a cell
record RowAt (rows : List (List Cell)) (i j : ℕ) (cell : Cell) : Type 0 where
  row : List Cell
  row_is : slice_get rows i ≡ Some row
  cell_is : slice_get row j ≡ Some cell

row_at : (rows : List (List Cell)) (i j : ℕ) (cell : Cell) → cell_at rows i j ≡ Some cell → RowAt rows i j cell
row_at rows i j cell e =
    elim (slice_get rows i) as (λ o. slice_get rows i ≡ o → option_and_then (λ row. slice_get row j) o ≡ Some cell → RowAt rows i j cell) [
      | None ↦ λ is at. cc
      | Some row ↦ λ is at. record { row = row; row_is = is; cell_is = at }
    ] refl e

same_row : (rows : List (List Cell)) (i j : ℕ) (a b : List Cell) (cell : Cell) → slice_get rows i ≡ Some a → slice_get rows i ≡ Some b
    → slice_get a j ≡ Some cell → slice_get b j ≡ Some cell
same_row rows i j a b cell p q r = let same : a ≡ b = cc in cc

bands : (rows : List (List Cell)) → list_all (neighbours no_lower) rows ≡ true → (i j : ℕ) (shorter longer : Cell) → cell_at rows i j ≡ Some shorter
    → cell_at rows i (suc j) ≡ Some longer → rank shorter ≤ rank longer
bands rows h i j shorter longer p q =
    let one = row_at rows i j shorter p in
    let two = row_at rows i (suc j) longer q in
    let next : slice_get one.row (suc j) ≡ Some longer = same_row rows i (suc j) two.row one.row longer two.row_is one.row_is two.cell_is in
    leb-true _ _ (neighbours_at no_lower one.row j shorter longer (all_at (neighbours no_lower) rows i one.row h one.row_is) one.cell_is next)

severities : (rows : List (List Cell)) → neighbours is_no_lower_row rows ≡ true → (i j : ℕ) (less more : Cell) → cell_at rows i j ≡ Some less
    → cell_at rows (suc i) j ≡ Some more → rank more ≤ rank less
severities rows h i j less more p q =
    let one = row_at rows i j less p in
    let two = row_at rows (suc i) j more q in
    leb-true _ _
    (beside_at one.row two.row j less more (neighbours_at is_no_lower_row rows i one.row two.row h one.row_is two.row_is) one.cell_is two.cell_is)

-- no cell is lower than its neighbours allow
pub ordered : (limits : List ℕ) (rows : List (List Cell)) → is_matrix limits rows ≡ true → IsOrdered rows
ordered limits rows h =
    let test : is_ordered rows ≡ true = right (has_shape limits rows && is_rising limits) (is_ordered rows) h in
    record {
      bands = λ i j shorter longer p q. bands rows (left (list_all (neighbours no_lower) rows) (neighbours is_no_lower_row rows) test) i j shorter
          longer p (rw (← add-one j) q);
      severities =
          λ i j less more p q. severities rows (right (list_all (neighbours no_lower) rows) (neighbours is_no_lower_row rows) test) i j less more p
          (rw (← add-one i) q);
    }

rising : (limits : List ℕ) → neighbours nat_lt limits ≡ true → (k : ℕ) → suc k < length limits → slice_index limits k < slice_index limits (suc k)
rising [] h k lt = absurd (omega arith)
rising (x ∷ []) h k lt = absurd (omega arith)
rising (x ∷ y ∷ rest) h zero lt = grind (arith, nat_tests)
rising (x ∷ y ∷ rest) h (suc k) lt = grind (arith, rising (y ∷ rest))

pub limits_rise : (limits : List ℕ) (rows : List (List Cell)) → is_matrix limits rows ≡ true → IsStrictlyIncreasing limits
limits_rise limits rows h k lt =
    let test : is_rising limits ≡ true =
    right (has_shape limits rows) (is_rising limits) (left (has_shape limits rows && is_rising limits) (is_ordered rows) h) in
    rw (add-one k) (rising limits test k (omega arith))

-- each row has a cell for each band
band_within : (limits : List ℕ) (response : ℕ) → band limits response < length limits + 1
band_within limits response = grind (arith, nat_tests)

there : {A : Type 0} (xs : List A) (k : ℕ) → k < length xs → is_some (slice_get xs k) ≡ true
there [] k lt = absurd (omega arith)
there (x ∷ xs) zero lt = refl
there (x ∷ xs) (suc k) lt = there xs k (omega arith)

wide_rows : (limits : List ℕ) (rows : List (List Cell)) → is_matrix limits rows ≡ true → list_all (λ row. length row == length limits + 1) rows ≡ true
wide_rows limits rows h = grind arith

-- if there is a row, it has the cell
cell_in_row : (t : Grid) (row : Option (List Cell)) (k response : ℕ) → is_matrix t.limits t.cells ≡ true → slice_get t.cells k ≡ row
    → is_some (option_and_then (λ r. slice_get r (band t.limits response)) row) ≡ is_some row
cell_in_row t None k response h e = refl
cell_in_row t (Some r) k response h e =
    let wide : length r ≡ length t.limits + 1 =
    eqb-true (length r) (length t.limits + 1) (all_at (λ x. length x == length t.limits + 1) t.cells k r (wide_rows t.limits t.cells h) e) in
    there r (band t.limits response) (rw wide (band_within t.limits response))

row_there : (rows : List (List Cell)) (k : ℕ) → is_some (slice_get rows k) ≡ nat_lt k (length rows)
row_there rows k = grind (arith, nat_tests, there rows k, slice_get_past rows k)

row_test : (t : Grid) (severity : ℕ) → 1 ≤ severity → nat_lt (severity - 1) (length t.cells) ≡ is_row t severity
row_test t severity one = grind (arith, nat_tests)

priority_there : (t : Grid) (severity response : ℕ) → is_matrix t.limits t.cells ≡ true
    → is_some (priority_of t severity response) ≡ is_row t severity
priority_there t severity response h =
    grind (
      arith,
      nat_tests,
      cell_in_row t (slice_get t.cells (severity - 1)) (severity - 1) response h refl,
      row_there t.cells
          (severity - 1),
      row_test t severity,
    )

pub only_rows : (t : Grid) (severity response : ℕ) (cell : Option Cell) → is_matrix t.limits t.cells ≡ true → cell ≡ priority_of t severity response
    → (is_some cell ≡ true → is_row t severity ≡ true) × (is_row t severity ≡ true → is_some cell ≡ true)
only_rows t severity response cell h e =
    let same : is_some cell ≡ is_row t severity = ap is_some e ∙ priority_there t severity response h in
    (λ p. sym same ∙ p, λ p. same ∙ p)
