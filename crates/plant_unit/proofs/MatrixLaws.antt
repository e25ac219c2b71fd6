-- The rows of a matrix, one after another as its limits and cells stand.
use Rattle.std.{specs.List.{enumerate_from, list_all, range_with_len}, proofs.lemmas.{Bool.{and_parts, leb-true}, List.Elements.{filter_map-append}}}
use Rattle.std.proofs.Common.{eqb→eq, ap, append_assoc, arith, get_or, length-append, refl, subst, sym, ◌∙◌, Err, List, Ok, OnOk, Result, Some, T, [], filter_map, flat_map, length, map, option_and_then, option_map, suc, true, zero, ℕ, ◌++◌, ◌+◌, ◌<◌, ◌==◌, ◌∷◌, ◌≡◌, ◌≤◌}
use Rattle.plant_model.specs.Matrices.{at_place, band_at, cell_of, cells_of_row}
use Rattle.plant_model.specs.steps.RowChanges.{bands_of, cells_of, matrix_changes}
use Rattle.plant_model.specs.declared.rows.{Row.TheVariants.{Band as BandPut, Cell as CellPut}, RowEdit.{RowEdit, TheVariants.{Put}}}
use Rattle.plant_model.proofs.public.ReadLaws.{filter_map-map, listed, place-after}
use Rattle.plant_ration.specs.{Grid.{Grid}, Matrix.{is_matrix}, declared.cell.Cell.{Cell}}
use Rattle.plant_unit.specs.MatrixRows.{band_row_of, row_of_cells}

pub bands_listed : (n : ℕ) (m : Grid) → bands_of n m ≡ map (λ r. Put (BandPut r)) (map (band_row_of n) (enumerate_from 1 m.limits))
bands_listed n m =
    ap (map (λ r. Put (BandPut r)))
    (filter_map-map (λ k. band_at k m) (λ b. (n, b)) (range_with_len 1 (length m.limits))
    ∙ listed (λ b l. record { matrix_no = n; band_no = b; limit_s = l }) m.limits [] m.limits 1 refl refl)

rows_listed : (n : ℕ) (m : Grid) (pre rows : List (List Cell)) (s : ℕ) → s ≡ length pre + 1 → m.cells ≡ pre ++ rows
    → filter_map (λ k. cell_of k m) (flat_map (cells_of_row n) (enumerate_from s rows)) ≡ flat_map (row_of_cells n) (enumerate_from s rows)
rows_listed n m pre [] s at is = refl
rows_listed n m pre (row ∷ rows) s at is =
    let here : at_place m.cells s ≡ Some row = ap (λ w. at_place w s) is ∙ ap (at_place (pre ++ row ∷ rows)) at ∙ place-after pre row rows in
    let more : s + 1 ≡ length (pre ++ row ∷ []) + 1 = omega (arith, at, length-append pre (row ∷ [])) in
    let rest = rows_listed n m (pre ++ row ∷ []) rows (s + 1) more (is ∙ sym (append_assoc pre (row ∷ []) rows)) in
    let first : filter_map (λ k. cell_of k m) (cells_of_row n (s, row)) ≡ row_of_cells n (s, row) =
    filter_map-map (λ k. cell_of k m) (λ b. (n, s, b)) (range_with_len 1 (length row))
    ∙ (λ i. filter_map (λ b. option_map (λ c. record {
      matrix_no = n;
      severity = s;
      band_no = b;
      cell_no = c;
    }) (option_and_then (λ r. at_place r b) (here i))) (range_with_len 1 (length row)))
    ∙ listed (λ b c. record { matrix_no = n; severity = s; band_no = b; cell_no = c }) row [] row 1 refl refl in
    filter_map-append (λ k. cell_of k m) (cells_of_row n (s, row)) (flat_map (cells_of_row n) (enumerate_from (s + 1) rows))
    ∙ (λ i. first i ++ rest i)

pub cells_listed : (n : ℕ) (m : Grid) → cells_of n m ≡ map (λ r. Put (CellPut r)) (flat_map (row_of_cells n) (enumerate_from 1 m.cells))
cells_listed n m = ap (map (λ r. Put (CellPut r))) (rows_listed n m [] m.cells 1 refl refl)

-- what the shape of a matrix bounds
pub few_limits : (limits : List ℕ) (rows : List (List Cell)) → is_matrix limits rows ≡ true → length limits ≤ 4
few_limits limits rows e =
    let shape = (and_parts _ _ (and_parts _ _ e).0).0 in
    leb-true (length limits) 4 (and_parts _ _ (and_parts _ _ (and_parts _ _ shape).0).0).1

each_wide : {V : Type 0} (items : V → List Cell) (width : ℕ) (rows : List V) (k : ℕ) (d : V)
    → list_all (λ row. length row == width) (map items rows) ≡ true → k < length rows → length (items (get_or rows k d)) ≡ width
each_wide items width [] k d e lt = absurd (omega arith)
each_wide items width (row ∷ rows) zero d e lt = eqb→eq (length (items row)) width (subst T (sym (and_parts _ _ e).0) tt)
each_wide items width (row ∷ rows) (suc k) d e lt =
    each_wide items width rows k d (and_parts _ _ e).1 (let less : k < length rows = omega (arith, lt) in less)

pub short_rows : {V : Type 0} (items : V → List Cell) (limits : List ℕ) (rows : List V) → is_matrix limits (map items rows) ≡ true → (k : ℕ) (d : V)
    → k < length rows → length (items (get_or rows k d)) ≤ 5
short_rows items limits rows e k d lt =
    let shape = (and_parts _ _ (and_parts _ _ e).0).0 in
    let wide = each_wide items (length limits + 1) rows k d (and_parts _ _ (and_parts _ _ shape).0).1 lt in
    let few = few_limits limits (map items rows) e in
    omega (arith, wide, few)

-- the changes that put a matrix
pub matrix_listed : (n : ℕ) (m : Grid)
    → matrix_changes n m ≡ map (λ r. Put (BandPut r)) (map (band_row_of n) (enumerate_from 1 m.limits)) ++ map (λ r. Put (CellPut r))
    (flat_map (row_of_cells n) (enumerate_from 1 m.cells))
matrix_listed n m = λ i. bands_listed n m i ++ cells_listed n m i

pub matrix_pushed : {A E : Type 0} (r : Result A E) (first mid last : List RowEdit) (n : ℕ) (m : Grid) (limits : List ℕ) (cells : List (List Cell))
    → mid ≡ first ++ map (λ r. Put (BandPut r)) (map (band_row_of n) (enumerate_from 1 limits)) → limits ≡ m.limits → cells ≡ m.cells
    → OnOk r (last ≡ mid ++ map (λ r. Put (CellPut r)) (flat_map (row_of_cells n) (enumerate_from 1 cells)))
    → OnOk r (last ≡ first ++ matrix_changes n m)
matrix_pushed (Ok x) first mid last n m limits cells bands l c done =
    let firsts : List RowEdit = map (λ r. Put (BandPut r)) (map (band_row_of n) (enumerate_from 1 limits)) in
    let lasts : List RowEdit = map (λ r. Put (CellPut r)) (flat_map (row_of_cells n) (enumerate_from 1 cells)) in
    done ∙ ap (λ ys. ys ++ lasts) bands ∙ append_assoc first firsts lasts
    ∙ (λ i. first
    ++ (map (λ r. Put (BandPut r)) (map (band_row_of n) (enumerate_from 1 (l i)))
    ++ map (λ r. Put (CellPut r)) (flat_map (row_of_cells n) (enumerate_from 1 (c i)))))
    ∙ ap (λ ys. first ++ ys) (sym (matrix_listed n m))
matrix_pushed (Err e) first mid last n m limits cells bands l c done = tt
