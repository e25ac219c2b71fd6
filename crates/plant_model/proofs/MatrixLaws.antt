-- The rows of matrices: at the places that the history names, and put anew by an entry that brings a matrix.
use Rattle.std.specs.{Cmp.{eq_by_cmp_equiv, IsTotalOrder}, List.{enumerate_from, list_any, range_with_len, slice_get}}
use Rattle.std.{specs.Ordering.{eq_by_cmp, ordering_then}, proofs.lemmas.{Bool.{or_left, or_right}, List.Folds.{list_any-append}}}
use Rattle.std.proofs.Common.{if◌then◌else◌, ◌≤◌, List, None, Option, Some, [], cond, false, filter_map, flat_map, length, map, option_and_then, option_map, suc, true, zero, ℕ, ◌+◌, ◌||◌, ◌∷◌, ◌≡◌, ◌⊎◌, ap, arith, inl, inr, refl, subst, sym, ◌∙◌, is_eq, nat_cmp, Ordering, Equal, true≢false, Less, Greater}
use Rattle.plant_model.specs.{Changes.{is_proposal, matrix_in, proposals}, Histories.{all_named, of_key, same_number}}
use Rattle.plant_model.specs.Matrices.{BandKey, CellKey, at_place, band_at, band_cmp, band_places, cell_cmp, cell_of, cell_places, cells_of_row, matrix_numbered, numbered_matrix, places_in}
use Rattle.plant_model.specs.{Rows.{band_row, cell_row}, declared.call.{Call.{Call}, Request.{Request}}}
use Rattle.plant_model.specs.steps.{Parts.{none}, RowFacts.{band_key, cell_key}}
use Rattle.plant_model.specs.declared.{call.Request.TheVariants.{OpenUnit, Propose}, rows.{BandRow.{BandRow}, CellRow.{CellRow}}}
use Rattle.plant_model.proofs.public.{FactLaws.{same_number_of}, HistoryLaws.{latest-named, mapped_key, when_Some}}
use Rattle.plant_model.proofs.public.PlaceOrders.{band_total, cell_total, same_bands, same_cells}
use Rattle.plant_model.proofs.public.PutLaws.{else_none, said, said-told, is_some-find, never_some}
use Rattle.plant_ration.specs.{Grid.{Grid}, declared.{cell.Cell.{Cell}, change.ChangeKind.{ChangeKind, TheVariants.{Limit, Matrix, Rationale}}}}
use Rattle.plant_types.{specs.Options.{or_else, when}, proofs.public.KeyedRowLaws.{Tells, settled}}

abbrev pub band_key_of : ℕ → ℕ → BandKey
band_key_of n b = (n, b)

abbrev pub cell_key_of : ℕ → ℕ → ℕ → CellKey
cell_key_of n s b = (n, s, b)

abbrev band_as : BandKey → ℕ → BandRow
band_as k l = record { matrix_no = k.0; band_no = k.1; limit_s = l }

abbrev cell_as : CellKey → Cell → CellRow
cell_as k c = record { matrix_no = k.0; severity = k.1; band_no = k.2; cell_no = c }

-- an element of a list is at one of its places
module _ {A K : Type 0} {R : K → K → Ordering} (total : IsTotalOrder R) (place : ℕ → K) where
  in_range : (xs : List A) (s i : ℕ)
      → (slice_get xs i ≡ None) ⊎ (list_any (eq_by_cmp R (place (s + i))) (map place (range_with_len s (length xs))) ≡ true)
  in_range [] s i = inl refl
  in_range (x ∷ xs) s zero =
      inr (or_left _ _ (ap (λ z. eq_by_cmp R (place z) (place s)) (let e : s + 0 ≡ s = omega arith in e) ∙ (eq_by_cmp_equiv total).refl (place s)))
  in_range (x ∷ xs) s (suc i) =
      elim (in_range xs (s + 1) i) [
        | inl none ↦ inl none
        | inr there ↦ inr
            (or_right _ _ (ap (λ z. list_any (eq_by_cmp R (place z)) (map place (range_with_len (s + 1) (length xs)))) (let e : s + suc i
            ≡ s + 1 + i = omega arith in e) ∙ there))
      ]

  place_here : (b : ℕ) (xs : List A) → (at_place xs b ≡ None) ⊎ (list_any (eq_by_cmp R (place b)) (map place (range_with_len 1 (length xs))) ≡ true)
  place_here zero xs = inl refl
  place_here (suc i) xs =
      elim (in_range xs 1 i) [
        | inl none ↦ inl none
        | inr there ↦ inr (ap (λ z. list_any (eq_by_cmp R (place z)) (map place (range_with_len 1 (length xs)))) (let e : suc i
            ≡ 1 + i = omega arith in e) ∙ there)
      ]

pub band_here : (n b : ℕ) (m : Grid)
    → (band_at (band_key_of n b) m ≡ None) ⊎ (list_any (eq_by_cmp band_cmp (band_key_of n b)) (band_places n m) ≡ true)
band_here n b m =
    elim (place_here band_total (band_key_of n) b m.limits)
    [ inl none ↦ inl (ap (option_map (band_as (band_key_of n b))) none) | inr there ↦ inr there ]

pub row_here : (n s b : ℕ) (row : List Cell)
    → (at_place row b ≡ None) ⊎ (list_any (eq_by_cmp cell_cmp (cell_key_of n s b)) (map (cell_key_of n s) (range_with_len 1 (length row))) ≡ true)
row_here n s = place_here cell_total (cell_key_of n s)

abbrev places_from : ℕ → ℕ → List (List Cell) → List CellKey
places_from n s rows = flat_map (cells_of_row n) (enumerate_from s rows)

in_rows : (n s i b : ℕ) (rows : List (List Cell))
    → (option_and_then (λ row. at_place row b) (slice_get rows i) ≡ None)
    ⊎ (list_any (eq_by_cmp cell_cmp (cell_key_of n (s + i) b)) (places_from n s rows) ≡ true)
in_rows n s i b [] = inl refl
in_rows n s zero b (row ∷ rows) =
    elim (row_here n s b row) [
      | inl none ↦ inl none
      | inr there ↦ inr (ap (λ z. list_any (eq_by_cmp cell_cmp (cell_key_of n z b)) (places_from n s (row ∷ rows))) (let e : s + 0
          ≡ s = omega arith in e)
          ∙ list_any-append (eq_by_cmp cell_cmp (cell_key_of n s b)) (cells_of_row n (s, row)) (places_from n (s + 1) rows) ∙ or_left _ _ there)
    ]
in_rows n s (suc i) b (row ∷ rows) =
    elim (in_rows n (s + 1) i b rows) [
      | inl none ↦ inl none
      | inr there ↦ inr (list_any-append (eq_by_cmp cell_cmp (cell_key_of n (s + suc i) b)) (cells_of_row n (s, row)) (places_from n (s + 1) rows)
          ∙ or_right _ _ (ap (λ z. list_any (eq_by_cmp cell_cmp (cell_key_of n z b)) (places_from n (s + 1) rows)) (let e : s + suc i
          ≡ s + 1 + i = omega arith in e) ∙ there))
    ]

cell_here : (n s b : ℕ) (m : Grid)
    → (cell_of (cell_key_of n s b) m ≡ None) ⊎ (list_any (eq_by_cmp cell_cmp (cell_key_of n s b)) (cell_places n m) ≡ true)
cell_here n zero b m = inl refl
cell_here n (suc i) b m =
    elim (in_rows n 1 i b m.cells) [
      | inl none ↦ inl (ap (option_map (cell_as (cell_key_of n (suc i) b))) none)
      | inr there ↦ inr (ap (λ z. list_any (eq_by_cmp cell_cmp (cell_key_of n z b)) (cell_places n m)) (let e : suc i ≡ 1 + i = omega arith in e)
          ∙ there)
    ]

-- a key of another matrix is at none of these places
leads : (m n : ℕ) (rest : Ordering) → same_number m n ≡ false → is_eq (ordering_then (nat_cmp m n) rest) ≡ false
leads m n rest =
    elim (nat_cmp m n) as (λ o. is_eq o ≡ false
    → is_eq (ordering_then o rest) ≡ false) [ Less ↦ λ _. refl | Equal ↦ λ e. absurd (true≢false e) | Greater ↦ λ _. refl ]

no_place : {K : Type 0} (R : K → K → Ordering) (q : K) (place : ℕ → K) → ((b : ℕ) → eq_by_cmp R q (place b) ≡ false) → (bs : List ℕ)
    → list_any (eq_by_cmp R q) (map place bs) ≡ false
no_place R q place other [] = refl
no_place R q place other (b ∷ bs) = λ i. other b i || no_place R q place other bs i

no_band : (q : BandKey) (n : ℕ) (m : Grid) → same_number q.0 n ≡ false → list_any (eq_by_cmp band_cmp q) (band_places n m) ≡ false
no_band q n m other = no_place band_cmp q (band_key_of n) (λ b. leads q.0 n (nat_cmp q.1 b) other) (range_with_len 1 (length m.limits))

no_cell : (q : CellKey) (n s : ℕ) (rows : List (List Cell)) → same_number q.0 n ≡ false
    → list_any (eq_by_cmp cell_cmp q) (places_from n s rows) ≡ false
no_cell q n s [] other = refl
no_cell q n s (row ∷ rows) other =
    list_any-append (eq_by_cmp cell_cmp q) (cells_of_row n (s, row)) (places_from n (s + 1) rows)
    ∙ (λ i. no_place cell_cmp q (cell_key_of n s) (λ b. leads q.0 n (ordering_then (nat_cmp q.1 s) (nat_cmp q.2 b)) other)
    (range_with_len 1 (length row)) i || no_cell q n (s + 1) rows other i)

-- the statements about a number
numbered : (n : ℕ) (x : ℕ × Grid) (m : Grid) → when (same_number n x.0) x.1 ≡ Some m → (n ≡ x.0) × (x.1 ≡ m)
numbered n x m e =
    elim (same_number n x.0) as (λ b. same_number n x.0 ≡ b → when b x.1 ≡ Some m → (n ≡ x.0) × (x.1 ≡ m)) [
      | true ↦ λ s is. (same_number_of n x.0 s, when_Some true x.1 m is)
      | false ↦ λ s is. cc
    ] refl e

-- A table of matrices: the row at a key is of the matrix of a number, and is there only if the matrix has the key's
-- place
module _ {K X : Type 0} {R : K → K → Ordering} (total : IsTotalOrder R) (same : (a b : K) → R a b ≡ Equal → a ≡ b) (key : X → K) (number : K → ℕ)
    (of : K → Grid → Option X) (places : ℕ → Grid → List K)
    (keyed : (k : K) (m : Grid) (r : X) → of k m ≡ Some r → key r ≡ k)
    (here : (k : K) (m : Grid) → (of k m ≡ None) ⊎ (list_any (eq_by_cmp R k) (places (number k) m) ≡ true)) where
  named : (k : K) (o : Option (ℕ × Grid)) (m : Grid) → of_key same_number (number k) o ≡ Some m
      → (of k m ≡ None) ⊎ (list_any (eq_by_cmp R k) (places_in places o) ≡ true)
  named k None m e = cc
  named k (Some x) m e =
      let both = numbered (number k) x m e in
      elim (here k m) [
        | inl none ↦ inl none
        | inr there ↦ inr ((λ i. list_any (eq_by_cmp R k) (places (sym both.0 i) (both.1 i))) ∙ there)
      ]

  keyed_in : (k : K) (o : Option Grid) (r : X) → option_and_then (of k) o ≡ Some r → key r ≡ k
  keyed_in k None r e = cc
  keyed_in k (Some m) r e = keyed k m r e

  table_told : (h : List Call)
      → Tells R key (λ k. option_and_then (of k) (matrix_numbered h (number k)))
      (all_named (λ c before. places_in places (numbered_matrix before c.request)) h)
  table_told h =
      record {
        order = total;
        same = same;
        at_key = λ k r e. keyed_in k (matrix_numbered h (number k)) r e;
        among = λ k. latest-named R (λ c before. of_key same_number (number k) (numbered_matrix before c.request)) (option_and_then (of k))
            (λ c before. places_in places (numbered_matrix before c.request)) k refl
            (λ c before m is. named k (numbered_matrix before c.request) m is) h;
      }

  -- the rows of a proposed matrix are put anew
  table_anew : (h : List Call) (n : ℕ) → matrix_numbered h n ≡ None → (m : Grid) (q : K)
      → (same_number (number q) n ≡ false → list_any (eq_by_cmp R q) (places n m) ≡ false)
      → option_and_then (of q)
      (or_else (when (same_number (number q) n) m) (matrix_numbered h (number q))) ≡ or_else (said R key (filter_map (λ k. of k m) (places n m)) q)
      (option_and_then (of q) (matrix_numbered h (number q)))
  table_anew h n no_such m q elsewhere =
      let old : Option X = option_and_then (of q) (matrix_numbered h (number q)) in
      elim (same_number (number q) n) as (λ b. same_number (number q) n ≡ b
      → option_and_then (of q)
      (or_else (when b m) (matrix_numbered h (number q))) ≡ or_else (cond (list_any (eq_by_cmp R q) (places n m)) (of q m) None) old) [
        | true ↦ λ s.
            let is : number q ≡ n = same_number_of (number q) n s in
            let nothing : old ≡ None = ap (λ k. option_and_then (of q) (matrix_numbered h k)) is ∙ ap (option_and_then (of q)) no_such in
            let there : cond (list_any (eq_by_cmp R q) (places n m)) (of q m) None ≡ of q m =
            settled _ _ (subst (λ k. (of q m ≡ None) ⊎ (list_any (eq_by_cmp R q) (places k m) ≡ true)) is (here q m)) in
            sym (ap (λ o. or_else o old) there ∙ ap (or_else (of q m)) nothing ∙ else_none (of q m))
        | false ↦ λ other. ap (λ b. or_else (cond b (of q m) None) old) (sym (elsewhere other))
      ] refl
      ∙ ap (λ o. or_else o old)
      (sym (said-told R key total same (λ k. of k m) (λ k r e. keyed k m r e) q (places n m)
      ∙ ap (λ b. cond b (of q m) None) (is_some-find (eq_by_cmp R q) (places n m))))

pub band_keyed : (k : BandKey) (m : Grid) (r : BandRow) → band_at k m ≡ Some r → band_key r ≡ k
band_keyed k m r e = mapped_key band_key (band_as k) k (at_place m.limits k.1) r (λ x. refl) e

pub cell_keyed : (k : CellKey) (m : Grid) (r : CellRow) → cell_of k m ≡ Some r → cell_key r ≡ k
cell_keyed k m r e = mapped_key cell_key (cell_as k) k (option_and_then (λ row. at_place row k.2) (at_place m.cells k.1)) r (λ x. refl) e

abbrev pub band_keys : List Call → List BandKey
band_keys h = all_named (λ c before. places_in band_places (numbered_matrix before c.request)) h

abbrev pub cell_keys : List Call → List CellKey
cell_keys h = all_named (λ c before. places_in cell_places (numbered_matrix before c.request)) h

pub bands_told : (h : List Call) → Tells band_cmp band_key (band_row h) (band_keys h)
bands_told = table_told band_total same_bands band_key (λ k. k.0) band_at band_places band_keyed (λ k. band_here k.0 k.1)

pub cells_told : (h : List Call) → Tells cell_cmp cell_key (cell_row h) (cell_keys h)
cells_told = table_told cell_total same_cells cell_key (λ k. k.0) cell_of cell_places cell_keyed (λ k. cell_here k.0 k.1 k.2)

pub bands_anew : (h : List Call) (n : ℕ) → matrix_numbered h n ≡ None → (m : Grid) (q : BandKey)
    → option_and_then (band_at q)
    (or_else (when (same_number q.0 n) m) (matrix_numbered h q.0))
    ≡ or_else (said band_cmp band_key (filter_map (λ k. band_at k m) (band_places n m)) q) (band_row h q)
bands_anew h n no_such m q =
    table_anew band_total same_bands band_key (λ k. k.0) band_at band_places band_keyed (λ k. band_here k.0 k.1) h n no_such m q (no_band q n m)

pub cells_anew : (h : List Call) (n : ℕ) → matrix_numbered h n ≡ None → (m : Grid) (q : CellKey)
    → option_and_then (cell_of q)
    (or_else (when (same_number q.0 n) m) (matrix_numbered h q.0))
    ≡ or_else (said cell_cmp cell_key (filter_map (λ k. cell_of k m) (cell_places n m)) q) (cell_row h q)
cells_anew h n no_such m q =
    table_anew cell_total same_cells cell_key (λ k. k.0) cell_of cell_places cell_keyed (λ k. cell_here k.0 k.1 k.2) h n no_such m q
    (no_cell q n 1 m.cells)

-- no matrix has the next number
kind_bound : (h : List Call) (n : ℕ) (k : ChangeKind) (m : Grid) (rest : Option Grid) → (rest ≡ Some m → n ≤ proposals h)
    → or_else (of_key same_number n (matrix_in (proposals h + 1) (Some k))) rest ≡ Some m → n ≤ proposals h + 1
kind_bound h n (Matrix x) m rest before e =
    elim (same_number n (proposals h + 1)) as (λ b. same_number n (proposals h + 1) ≡ b → or_else (when b x) rest ≡ Some m → n ≤ proposals h + 1) [
      | true ↦ λ s _. let is : n ≡ proposals h + 1 = same_number_of n (proposals h + 1) s in omega (arith, is)
      | false ↦ λ _ r. let less : n ≤ proposals h = before r in omega (arith, less)
    ] refl e
kind_bound h n (Rationale a s) m rest before e = let less : n ≤ proposals h = before e in omega (arith, less)
kind_bound h n (Limit a x) m rest before e = let less : n ≤ proposals h = before e in omega (arith, less)

number_step : (h : List Call) (n : ℕ) (q : Request) (m : Grid) (rest : Option Grid) → (rest ≡ Some m → n ≤ proposals h)
    → or_else (of_key same_number n (numbered_matrix h q)) rest ≡ Some m → n ≤ (if is_proposal q then proposals h + 1 else proposals h)
number_step h n (OpenUnit u s x qu) m rest before e =
    elim (same_number n 0) as (λ b. same_number n 0 ≡ b → or_else (when b x) rest ≡ Some m → n ≤ proposals h) [
      | true ↦ λ s _. let is : n ≡ 0 = same_number_of n 0 s in omega (arith, is)
      | false ↦ λ _ r. before r
    ] refl e
number_step h n (Propose u y) m rest before e = kind_bound h n y.kind m rest before e
number_step h n _ m rest before e = before e

pub number_bound : (h : List Call) (n : ℕ) (m : Grid) → matrix_numbered h n ≡ Some m → n ≤ proposals h
number_bound [] n m e = cc
number_bound (c ∷ h) n m e = number_step h n c.request m (matrix_numbered h n) (number_bound h n m) e

pub no_next : (h : List Call) → matrix_numbered h (proposals h + 1) ≡ None
no_next h = never_some _ (λ m e. let less = number_bound h (proposals h + 1) m e in omega (arith, less))
