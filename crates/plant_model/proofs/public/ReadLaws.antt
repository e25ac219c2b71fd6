-- The matrices of a legal history are read back from the rows of their bands and cells, each at its number.
use Rattle.std.{specs.{Cmp.{IsTotalOrder, nat_cmp_is}, FinMap.{get, Entries.{by_order, below_all}}}, proofs.lemmas.Option.{slice_get-map}}
use Rattle.std.specs.{List.{cons_option, enumerate_from, list_all, list_any, range_with_len, slice_get}, Ordering.{eq_by_cmp, ordering_then}}
use Rattle.std.proofs.Common.{is_some, max, ◌-◌, Bool, List, None, Option, Some, [], false, filter, filter_map, length, map, option_and_then, option_map, suc, true, unwrap_or, zero, ℕ, ◌&&◌, ◌++◌, ◌+◌, ◌<◌, ◌==◌, ◌∷◌, ◌≡◌, ◌≤◌, eqb→eq, T, ap, append_assoc, arith, cond, inl, inr, length-append, refl, subst, sym, ◌∙◌, ◌⊎◌, is_lt, nat_cmp, Ordering, Equal, Greater}
use Rattle.std.proofs.lemmas.{Bool.{and_parts, not-true, false_from_ne_true, leb-true}, Option.{unwrap_or-slice_get}, List.{length-map}}
use Rattle.std.proofs.lemmas.List.FromFn.{length-range_with_len, get_or-range_with_len}
use Rattle.plant_model.specs.Changes.{Draft, change, draft, kind_of_change, matrix, matrix_in, no_matrix, proposals, said_of_draft, said_of_matrix}
use Rattle.plant_model.specs.{Facts.{facts}, Histories.{latest, of_key, same_number}, Legality.{IsLegal, has_matrix, is_matrix_kind}}
use Rattle.plant_model.specs.Matrices.{numbered_matrix, BandKey, CellKey, at_place, band_at, band_cmp, band_places, cell_cmp, cell_of, matrix_numbered}
use Rattle.plant_model.specs.steps.RowFacts.{change_number, facts_from, facts_of, last_number, band_key, cell_key, cells_at, has_cells, matrix_read}
use Rattle.plant_model.specs.{Rows.{alarm_rows, change_entry, change_rows, band_row, band_rows, cell_row, cell_rows, rows_of}, Verdicts.{is_opening}}
use Rattle.plant_model.specs.declared.{call.{Call.{Call}, Request.{Request, TheVariants.{Approve, OpenUnit, Propose}}}, rows.BandRow.{BandRow}}
use Rattle.plant_model.{specs.declared.rows.CellRow.{CellRow}, proofs.{MatrixLaws.{band_keyed}, public.RowsFound.{lower}}}
use Rattle.plant_model.proofs.MatrixLaws.{number_bound, band_here, band_key_of, band_keys, bands_told, cell_key_of, cell_keys, cells_told, row_here}
use Rattle.plant_model.proofs.public.{Accepted.{by_legal, latest_legal}, FactLaws.{AreReadable, facts_told, is_same_number, same_number_of}}
use Rattle.plant_model.proofs.public.HistoryLaws.{change_with, changes_told, numbers_of_changes, when_Some, mapped_key}
use Rattle.plant_model.proofs.public.{PlaceOrders.{band_total, cell_total, same_bands, same_cells}, PutLaws.{is_some-find}}
use Rattle.plant_ration.specs.{Grid.{Grid}, Matrix.{is_matrix}, declared.{cell.Cell.{Cell}, change.ChangeKind.{ChangeKind}}}
use Rattle.plant_ration.specs.declared.change.ChangeKind.TheVariants.{Limit, Matrix, Rationale}
use Rattle.plant_types.{specs.{KeyedRows.{put_row, IsInOrder, in_order, row_at}, Names.{Name}, Options.{or_else, when}}, proofs.public.Halves.{both}}
use Rattle.plant_types.proofs.public.KeyedRowLaws.{put-rows, IsInOrder-rows, IsInOrder-told, Tells, row_at-rows, row_at-told, same_rows, settled, tied}
use Rattle.plant_types.proofs.public.{SortedLaws.{in_order_some}}

-- The rows of a table whose keys pass a test
module _ {K X : Type 0} (R : K → K → Ordering) (key : X → K) where
  module _ (o : IsTotalOrder R) (same : (x y : K) → R x y ≡ Equal → x ≡ y) (test : K → Bool) where
    pub row_at-left : (q : K) (rows : List X) → row_at R key q (filter (λ r. test (key r)) rows) ≡ cond (test q) (row_at R key q rows) None
    row_at-left q [] = elim (test q) as (λ b. ◌≡◌ {A = Option X} None (cond b None None)) [ true ↦ refl | false ↦ refl ]
    row_at-left q (r ∷ rows) =
        let rest = row_at-left q rows in
        elim (test (key r)) as (λ b. test (key r) ≡ b
        → row_at R key q (cond b (r ∷ filter (λ r. test (key r)) rows) (filter (λ r. test (key r)) rows)) ≡ cond (test q)
        (row_at R key q (r ∷ rows)) None) [
          | true ↦ λ t. elim (eq_by_cmp R q (key r)) as (λ b. eq_by_cmp R q (key r) ≡ b
              → cond b (Some r) (row_at R key q (filter (λ r. test (key r)) rows)) ≡ cond (test q) (cond b (Some r) (row_at R key q rows)) None) [
                | true ↦ λ e. sym (ap (λ b. cond b (Some r) None) (ap test (same q (key r) (tied _ true e refl)) ∙ t))
                | false ↦ λ _. rest
              ] refl
          | false ↦ λ t. rest
              ∙ elim (eq_by_cmp R q (key r)) as (λ b. eq_by_cmp R q (key r) ≡ b
              → cond (test q) (row_at R key q rows) None ≡ cond (test q) (cond b (Some r) (row_at R key q rows)) None) [
                | true ↦ λ e. let no : test q ≡ false = ap test (same q (key r) (tied _ true e refl)) ∙ t in
                    ap (λ b. cond b (row_at R key q rows) None) no ∙ sym (ap (λ b. cond b (Some r) None) no)
                | false ↦ λ _. refl
              ] refl
        ] refl

    -- they are those that another function tells at rising places
    left_rows : (told : K → Option X) (ks : List K) → Tells R key told ks → (row : K → Option X) (places : List K)
        → ((k : K) (r : X) → row k ≡ Some r → key r ≡ k) → IsInOrder R (λ k. k) places
        → ((q : K) → (row q ≡ None) ⊎ (list_any (eq_by_cmp R q) places ≡ true)) → ((q : K) → cond (test q) (told q) None ≡ row q)
        → filter (λ r. test (key r)) (filter_map told (in_order R ks)) ≡ filter_map row places
    left_rows told ks t row places at_key rise among is =
        same_rows R key o same _ _ (in_order_some R key (λ r. test (key r)) _ (IsInOrder-rows told ks t))
        (IsInOrder-told R key o same row at_key places rise)
        (λ q. row_at-left q _ ∙ ap (λ x. cond (test q) x None) (row_at-rows told ks t q) ∙ is q
        ∙ sym (row_at-told R key o same row at_key q places ∙ ap (λ b. cond b (row q) None) (is_some-find (eq_by_cmp R q) places)
        ∙ settled _ _ (among q)))

-- The elements of a list, one for each of its places
get-after : {A : Type 0} (pre : List A) (x : A) (post : List A) → slice_get (pre ++ x ∷ post) (length pre) ≡ Some x
get-after [] x post = refl
get-after (y ∷ pre) x post = get-after pre x post

pub place-after : {A : Type 0} (pre : List A) (x : A) (post : List A) → at_place (pre ++ x ∷ post) (length pre + 1) ≡ Some x
place-after pre x post = ap (at_place (pre ++ x ∷ post)) (let e : length pre + 1 ≡ suc (length pre) = omega arith in e) ∙ get-after pre x post

pub filter_map-map : {A B C : Type 0} (f : B → Option C) (g : A → B) (xs : List A) → filter_map f (map g xs) ≡ filter_map (λ x. f (g x)) xs
filter_map-map f g [] = refl
filter_map-map f g (x ∷ xs) = ap (cons_option (f (g x))) (filter_map-map f g xs)

-- rows made of the elements at the places of a list are made of its elements in their order
pub listed : {A B : Type 0} (make : ℕ → A → B) (whole pre xs : List A) (s : ℕ) → s ≡ length pre + 1 → whole ≡ pre ++ xs
    → filter_map (λ b. option_map (make b) (at_place whole b)) (range_with_len s (length xs)) ≡ map (λ e. make e.0 e.1) (enumerate_from s xs)
listed make whole pre [] s at is = refl
listed make whole pre (x ∷ xs) s at is =
    let here : at_place whole s ≡ Some x = ap (λ w. at_place w s) is ∙ ap (at_place (pre ++ x ∷ xs)) at ∙ place-after pre x xs in
    let more : s + 1 ≡ length (pre ++ x ∷ []) + 1 = omega (arith, at, length-append pre (x ∷ [])) in
    let rest = listed make whole (pre ++ x ∷ []) xs (s + 1) more (is ∙ sym (append_assoc pre (x ∷ []) xs)) in
    λ i. cons_option (option_map (make s) (here i)) (rest i)

told_back : {A B : Type 0} (make : ℕ → A → B) (get : B → A) → ((b : ℕ) (x : A) → get (make b x) ≡ x) → (xs : List A) (s : ℕ)
    → map get (map (λ e. make e.0 e.1) (enumerate_from s xs)) ≡ xs
told_back make get back [] s = refl
told_back make get back (x ∷ xs) s = λ i. back s x i ∷ told_back make get back xs (s + 1) i

-- Places rise
pub level : (n : ℕ) → nat_cmp n n ≡ Equal
level n = tied _ true (is_same_number n) refl

module _ {K : Type 0} (R : K → K → Ordering) (place : ℕ → K) (below : (a b : ℕ) → a < b → is_lt (R (place a) (place b)) ≡ true) where
  below_range : (a s len : ℕ) → a < s → T (below_all R (place a) (map (λ k. (k, k)) (map place (range_with_len s len))))
  below_range a s zero less = tt
  below_range a s (suc len) less = both _ _ (subst T (sym (below a s less)) tt) (below_range a (s + 1) len (omega (arith, less)))

  places_rise : (s len : ℕ) → IsInOrder R (λ k. k) (map place (range_with_len s len))
  places_rise s zero = tt
  places_rise s (suc len) = both _ _ (below_range s (s + 1) len (omega arith)) (places_rise (s + 1) len)

-- The limits and the cells of a matrix
module _ (h : List Call) (n : ℕ) (m : Grid) (numbered : matrix_numbered h n ≡ Some m) where
  abbrev at_band : BandKey → Option BandRow
  at_band q = cond (same_number n q.0) (band_at q m) None

  band_make : ℕ → ℕ → BandRow
  band_make b l = record { matrix_no = n; band_no = b; limit_s = l }

  band_kept : (q : BandKey) (r : BandRow) → at_band q ≡ Some r → band_key r ≡ q
  band_kept q r e =
      elim (same_number n q.0) as (λ b. cond b (band_at q m) None ≡ Some r → band_key r ≡ q) [ true ↦ band_keyed q m r | false ↦ λ no. cc ] e

  band_among : (q : BandKey) → (at_band q ≡ None) ⊎ (list_any (eq_by_cmp band_cmp q) (band_places n m) ≡ true)
  band_among q =
      elim (same_number n q.0) as (λ b. same_number n q.0 ≡ b
      → (cond b (band_at q m) None ≡ None) ⊎ (list_any (eq_by_cmp band_cmp q) (band_places n m) ≡ true)) [
        | true ↦ λ s. subst (λ k. (band_at q m ≡ None) ⊎ (list_any (eq_by_cmp band_cmp q) (band_places k m) ≡ true)) (sym (same_number_of n q.0 s))
            (band_here q.0 q.1 m)
        | false ↦ λ _. inl refl
      ] refl

  band_told : (q : BandKey) → cond (same_number n q.0) (band_row h q) None ≡ at_band q
  band_told q = elim (same_number n q.0) as (λ b. same_number n q.0 ≡ b → cond b (band_row h q) None ≡ cond b (band_at q m) None) [
    | true ↦ λ s. ap (λ k. option_and_then (band_at q) (matrix_numbered h k)) (sym (same_number_of n q.0 s))
        ∙ ap (option_and_then (band_at q)) numbered
    | false ↦ λ _. refl
  ] refl

  limits_back : map (λ (b : BandRow). b.limit_s) (filter (λ (b : BandRow). same_number n b.matrix_no) (band_rows h)) ≡ m.limits
  unfolding band_make
  limits_back =
      ap (map (λ (b : BandRow). b.limit_s)) (
      left_rows band_cmp band_key band_total same_bands (λ k. same_number n k.0) (band_row h) (band_keys h)
      (bands_told h) at_band (band_places n m) band_kept
      (places_rise band_cmp (band_key_of n) (λ a b less. ap (λ o. is_lt (ordering_then o (nat_cmp a b))) (level n)
      ∙ lower a b less) 1 (length m.limits)) band_among band_told
      ∙ filter_map-map at_band (band_key_of n) (range_with_len 1 (length m.limits))
      ∙ (λ i. filter_map (λ b. cond (is_same_number n i) (option_map (band_make b) (at_place m.limits b)) None) (range_with_len 1 (length m.limits)))
      ∙ listed band_make m.limits [] m.limits 1 refl refl)
      ∙ told_back band_make (λ (b : BandRow). b.limit_s) (λ b x. refl) m.limits 1

  module _ (s : ℕ) where
    abbrev row_there : List Cell
    row_there = unwrap_or (at_place m.cells s) []

    abbrev is_cell : CellKey → Bool
    is_cell q = same_number n q.0 && same_number s q.1

    abbrev cell_made : CellKey → Option CellRow
    cell_made q = option_map (λ c. record { matrix_no = q.0; severity = q.1; band_no = q.2; cell_no = c }) (at_place row_there q.2)

    abbrev at_cell : CellKey → Option CellRow
    at_cell q = cond (is_cell q) (cell_made q) None

    cell_make : ℕ → Cell → CellRow
    cell_make b c = record { matrix_no = n; severity = s; band_no = b; cell_no = c }

    cell_kept : (q : CellKey) (r : CellRow) → at_cell q ≡ Some r → cell_key r ≡ q
    cell_kept q r e = elim (is_cell q) as (λ b. cond b (cell_made q) None ≡ Some r → cell_key r ≡ q) [
      | true ↦ mapped_key cell_key (λ c. record {
        matrix_no = q.0;
        severity = q.1;
        band_no = q.2;
        cell_no = c;
      }) q (at_place row_there q.2) r (λ x. refl)
      | false ↦ λ no. cc
    ] e

    cell_keyed : (q : CellKey) → is_cell q ≡ true → (n ≡ q.0) × (s ≡ q.1)
    cell_keyed q e = let parts = and_parts (same_number n q.0) (same_number s q.1) e in (same_number_of n q.0 parts.0, same_number_of s q.1 parts.1)

    abbrev cell_range : List CellKey
    cell_range = map (cell_key_of n s) (range_with_len 1 (length row_there))

    among_of : (q : CellKey) → n ≡ q.0 → s ≡ q.1
        → (at_place row_there q.2 ≡ None) ⊎ (list_any (eq_by_cmp cell_cmp (cell_key_of n s q.2)) cell_range ≡ true)
        → (cell_made q ≡ None) ⊎ (list_any (eq_by_cmp cell_cmp q) cell_range ≡ true)
    among_of q a b (inl none) = inl (ap (option_map (λ c. record { matrix_no = q.0; severity = q.1; band_no = q.2; cell_no = c })) none)
    among_of q a b (inr there) = inr ((λ i. list_any (eq_by_cmp cell_cmp (sym a i, sym b i, q.2)) cell_range) ∙ there)

    cell_among : (q : CellKey) → (at_cell q ≡ None) ⊎ (list_any (eq_by_cmp cell_cmp q) cell_range ≡ true)
    cell_among q =
        elim (is_cell q) as (λ b. is_cell q ≡ b → (cond b (cell_made q) None ≡ None) ⊎ (list_any (eq_by_cmp cell_cmp q) cell_range ≡ true)) [
          | true ↦ λ t. among_of q (cell_keyed q t).0 (cell_keyed q t).1 (row_here n s q.2 row_there)
          | false ↦ λ _. inl refl
        ] refl

    row_of_place : (o : Option (List Cell)) (b : ℕ) → option_and_then (λ row. at_place row b) o ≡ at_place (unwrap_or o []) b
    row_of_place (Some row) b = refl
    row_of_place None zero = refl
    row_of_place None (suc b) = refl

    cell_told : (q : CellKey) → cond (is_cell q) (cell_row h q) None ≡ at_cell q
    cell_told q = elim (is_cell q) as (λ b. is_cell q ≡ b → cond b (cell_row h q) None ≡ cond b (cell_made q) None) [
      | true ↦ λ t.
          let keys = cell_keyed q t in
          ap (λ k. option_and_then (cell_of q) (matrix_numbered h k)) (sym keys.0) ∙ ap (option_and_then (cell_of q)) numbered
          ∙ ap (option_map (λ c. record { matrix_no = q.0; severity = q.1; band_no = q.2; cell_no = c }))
          (row_of_place (at_place m.cells q.1) q.2 ∙ ap (λ k. at_place (unwrap_or (at_place m.cells k) []) q.2) (sym keys.1))
      | false ↦ λ _. refl
    ] refl

    both_same : (same_number n n && same_number s s) ≡ true
    both_same = λ i. is_same_number n i && is_same_number s i

    cells_back : cells_at (cell_rows h) n s ≡ row_there
    unfolding cell_make
    cells_back =
        ap (map (λ (c : CellRow). c.cell_no)) (
        left_rows cell_cmp cell_key cell_total same_cells is_cell (cell_row h) (cell_keys h)
        (cells_told h) at_cell (map (cell_key_of n s) (range_with_len 1 (length row_there))) cell_kept
        (places_rise cell_cmp (cell_key_of n s) (λ a b less. (λ i. is_lt (ordering_then (level n i) (ordering_then (level s i) (nat_cmp a b))))
        ∙ lower a b less) 1 (length row_there)) cell_among cell_told
        ∙ filter_map-map at_cell (cell_key_of n s) (range_with_len 1 (length row_there))
        ∙ (λ i. filter_map (λ b. cond (both_same i) (option_map (cell_make b) (at_place row_there b)) None) (range_with_len 1 (length row_there)))
        ∙ listed cell_make row_there [] row_there 1 refl refl)
        ∙ told_back cell_make (λ (c : CellRow). c.cell_no) (λ b x. refl) row_there 1

-- The rows that have cells are all rows of a matrix
full : (width : ℕ) (row : List Cell) → (length row == width + 1) ≡ true → has_cells row ≡ true
full width [] e = let same : 0 ≡ width + 1 = eqb→eq 0 (width + 1) (subst T (sym e) tt) in absurd (omega (arith, same))
full width (c ∷ row) e = refl

all_full : (width : ℕ) (rows : List (List Cell)) → list_all (λ row. length row == width + 1) rows ≡ true → filter has_cells rows ≡ rows
all_full width [] e = refl
all_full width (row ∷ rows) e =
    let parts = and_parts (length row == width + 1) (list_all (λ row. length row == width + 1) rows) e in
    λ i. cond (full width row parts.0 i) (row ∷ all_full width rows parts.1 i) (filter has_cells rows)

five_rows : (rows : List (List Cell)) → length rows ≤ 5 → filter has_cells rows ≡ rows
    → filter has_cells (map (λ s. unwrap_or (at_place rows s) []) (range_with_len 1 5)) ≡ rows
five_rows (a ∷ b ∷ c ∷ d ∷ e ∷ f ∷ rest) few all = absurd (omega (arith, few))
five_rows rows few all = all

pub read_back : (h : List Call) (n : ℕ) (m : Grid) → matrix_numbered h n ≡ Some m → is_matrix m.limits m.cells ≡ true → matrix_read (rows_of h) n ≡ m
read_back h n m numbered shape =
    let has = (and_parts _ _ (and_parts _ _ shape).0).0 in
    let most = (and_parts _ _ has).0 in
    let few = leb-true (length m.cells) 5 (and_parts _ _ (and_parts _ _ (and_parts _ _ most).0).0).1 in
    let all = all_full (length m.limits) m.cells (and_parts _ _ most).1 in
    λ i. record {
      limits = limits_back h n m numbered i;
      cells = ((λ j. filter has_cells (cells_back h n m numbered 1 j ∷ cells_back h n m numbered 2 j ∷ cells_back h n m numbered 3 j
          ∷ cells_back h n m numbered 4 j ∷ cells_back h n m numbered 5 j ∷ [])) ∙ five_rows m.cells few all) i;
    }

-- The matrix of a proposed change is that of its number
positive_step : (h : List Call) (n : ℕ) (d : Draft) (p : Name) (t : ℕ) (q : Request) → (draft h n ≡ Some d → 1 ≤ n)
    → or_else (said_of_draft n p t h q) (draft h n) ≡ Some d → 1 ≤ n
positive_step h n d p t (Propose u x) before e =
    elim (same_number n (proposals h + 1)) as (λ b. same_number n (proposals h + 1) ≡ b
    → or_else (when b (record { proposer = p; proposed = t; kind = x.kind; base = x.base })) (draft h n) ≡ Some d → 1 ≤ n) [
      | true ↦ λ s _. let is : n ≡ proposals h + 1 = same_number_of n (proposals h + 1) s in omega (arith, is)
      | false ↦ λ _ rest. before rest
    ] refl e
positive_step h n d p t _ before e = before e

pub draft_positive : (h : List Call) (n : ℕ) (d : Draft) → draft h n ≡ Some d → 1 ≤ n
draft_positive [] n d e = cc
draft_positive (c ∷ h) n d e = positive_step h n d c.person c.moment c.request (draft_positive h n d) e

drafted_kind : (h : List Call) (n : ℕ) (k : ChangeKind) → kind_of_change h n ≡ Some k → 1 ≤ n
drafted_kind h n k e =
    elim (draft h n) as (λ o. draft h n ≡ o → option_map (λ (d : Draft). d.kind) o ≡ Some k
    → 1 ≤ n) [ None ↦ λ _ no. cc | Some d ↦ λ is _. draft_positive h n d is ] refl e

other_matrix : (n k : ℕ) (kind : ChangeKind) (rest : Option Grid) → same_number n k ≡ false
    → or_else (of_key same_number n (matrix_in k (Some kind))) rest ≡ rest
other_matrix n k (Matrix m) rest other = ap (λ b. or_else (when b m) rest) other
other_matrix n k _ rest other = refl

own_matrix : (n k : ℕ) (kind : ChangeKind) (m : Grid) (rest : Option Grid) → same_number n k ≡ true → Some kind ≡ Some (Matrix m)
    → or_else (of_key same_number n (matrix_in k (Some kind))) rest ≡ Some m
own_matrix n k (Matrix x) m rest own e = ap (λ b. or_else (when b x) rest) own ∙ (let same : x ≡ m = cc in ap (λ y. Some y) same)
own_matrix n k _ m rest own e = cc

numbered_step : (h : List Call) (n : ℕ) (m : Grid) (p : Name) (t : ℕ) (q : Request) → 1 ≤ n
    → (kind_of_change h n ≡ Some (Matrix m) → matrix_numbered h n ≡ Some m)
    → option_map (λ (d : Draft). d.kind) (or_else (said_of_draft n p t h q) (draft h n)) ≡ Some (Matrix m)
    → or_else (of_key same_number n (numbered_matrix h q)) (matrix_numbered h n) ≡ Some m
numbered_step h n m p t (OpenUnit u s x k) above before e =
    ap (λ b. or_else (when b x) (matrix_numbered h n))
    (false_from_ne_true (same_number n 0) (λ z. let is : n ≡ 0 = same_number_of n 0 z in omega (arith, above, is))) ∙ before e
numbered_step h n m p t (Propose u x) above before e =
    elim (same_number n (proposals h + 1)) as (λ b. same_number n (proposals h + 1) ≡ b
    → option_map (λ (d : Draft). d.kind)
    (or_else (when b (record { proposer = p; proposed = t; kind = x.kind; base = x.base })) (draft h n)) ≡ Some (Matrix m)
    → or_else (of_key same_number n (matrix_in (proposals h + 1) (Some x.kind))) (matrix_numbered h n) ≡ Some m) [
      | true ↦ λ s here. own_matrix n (proposals h + 1) x.kind m (matrix_numbered h n) s here
      | false ↦ λ s rest. other_matrix n (proposals h + 1) x.kind (matrix_numbered h n) s ∙ before rest
    ] refl e
numbered_step h n m p t _ above before e = before e

pub proposed_matrix : (h : List Call) (n : ℕ) (m : Grid) → kind_of_change h n ≡ Some (Matrix m) → matrix_numbered h n ≡ Some m
proposed_matrix [] n m e = cc
proposed_matrix (c ∷ h) n m e = numbered_step h n m c.person c.moment c.request (drafted_kind (c ∷ h) n (Matrix m) e) (proposed_matrix h n m) e

-- each matrix of a legal history is one
shape_here : (h : List Call) (n : ℕ) (q : Request) (m : Grid) → has_matrix q ≡ true → of_key same_number n (numbered_matrix h q) ≡ Some m
    → is_matrix m.limits m.cells ≡ true
shape_here h n (OpenUnit u s x k) m has e = ap (λ (y : Grid). is_matrix y.limits y.cells) (sym (when_Some (same_number n 0) x m e)) ∙ has
shape_here h n (Propose u x) m has e = by x.kind has e where
  by : (k : ChangeKind) → is_matrix_kind k ≡ true → of_key same_number n (matrix_in (proposals h + 1) (Some k)) ≡ Some m → is_matrix m.limits m.cells ≡ true
  by (Matrix y) has e = ap (λ (y : Grid). is_matrix y.limits y.cells) (sym (when_Some (same_number n (proposals h + 1)) y m e)) ∙ has
  by (Rationale a s) has e = cc
  by (Limit a max) has e = cc
shape_here h n _ m has e = cc

pub shaped : (h : List Call) → IsLegal h → (n : ℕ) (m : Grid) → matrix_numbered h n ≡ Some m → is_matrix m.limits m.cells ≡ true
shaped h legal n =
    latest_legal (λ c before. of_key same_number n (numbered_matrix before c.request)) (λ h m. is_matrix m.limits m.cells ≡ true)
    (λ p t u s x k shape m e. shape_here [] n (OpenUnit u s x k) m shape e)
    (λ h c f m e. shape_here h n c.request m f.matrix e) (λ h c f m e. e) h legal

-- the matrix in force has its number
abbrev matrix_said : List Call → Option (ℕ × Grid)
matrix_said h = latest (λ c before. said_of_matrix before c.request) h

matrix_stays : (h : List Call) (q : Request) (k : ℕ) (m : Grid) → is_opening q ≡ false → matrix_numbered h k ≡ Some m
    → or_else (of_key same_number k (numbered_matrix h q)) (matrix_numbered h k) ≡ Some m
matrix_stays h (OpenUnit u s x n) k m plain e = cc
matrix_stays h (Propose u x) k m plain e =
    other_matrix k (proposals h + 1) x.kind (matrix_numbered h k)
    (false_from_ne_true (same_number k (proposals h + 1)) (λ z. let is : k ≡ proposals h + 1 = same_number_of k (proposals h + 1) z in
    let less : k ≤ proposals h = number_bound h k m e in omega (arith, is, less))) ∙ e
matrix_stays h _ k m plain e = e

matrix_approved : (n : ℕ) (k : Option ChangeKind) (x : ℕ × Grid) → matrix_in n k ≡ Some x → (n ≡ x.0) × (k ≡ Some (Matrix x.1))
matrix_approved n (Some (Matrix m)) x e = let same : (n, m) ≡ x = cc in
    (ap (λ (y : ℕ × Grid). y.0) same, ap (λ (y : ℕ × Grid). Some (Matrix y.1)) same)
matrix_approved n _ x e = cc

said_numbered : (h : List Call) (q : Request) (x : ℕ × Grid) → said_of_matrix h q ≡ Some x
    → or_else (of_key same_number x.0 (numbered_matrix h q)) (matrix_numbered h x.0) ≡ Some x.1
said_numbered h (OpenUnit u s m k) x e =
    let same : (0, m) ≡ x = cc in
    subst (λ (y : ℕ × Grid). or_else (when (same_number y.0 0) m) (matrix_numbered h y.0)
    ≡ Some y.1) same (ap (λ b. or_else (when b m) (matrix_numbered h 0)) (is_same_number 0))
said_numbered h (Approve u n) x e =
    let known = matrix_approved n (kind_of_change h n) x e in
    proposed_matrix h x.0 x.1 (ap (kind_of_change h) (sym known.0) ∙ known.1)
said_numbered h _ x e = cc

matrix_in_force : (h : List Call) → IsLegal h → (x : ℕ × Grid) → matrix_said h ≡ Some x → matrix_numbered h x.0 ≡ Some x.1
matrix_in_force =
    latest_legal (λ c before. said_of_matrix before c.request) (λ h x. matrix_numbered h x.0 ≡ Some x.1)
    (λ p t u s m k shape x e. said_numbered [] (OpenUnit u s m k) x e)
    (λ h c f x e. said_numbered h c.request x e) (λ h c f x e. matrix_stays h c.request x.0 x.1 (not-true _ f.plain) e)

-- there is one
pub else_some : {A : Type 0} (o p : Option A) → is_some p ≡ true → is_some (or_else o p) ≡ true
else_some None p e = e
else_some (Some x) p e = refl

matrix_there : (h : List Call) → IsLegal h → is_some (matrix_said h) ≡ true
matrix_there =
    by_legal (λ h. is_some (matrix_said h) ≡ true) (λ p t u s m k shape. refl) (λ h c f. else_some (said_of_matrix h c.request) (matrix_said h))

pub in_force_numbered : (h : List Call) → IsLegal h → matrix_numbered h (matrix h).0 ≡ Some (matrix h).1
in_force_numbered h legal =
    elim (matrix_said h) as (λ o. matrix_said h ≡ o → is_some o ≡ true
    → matrix_numbered h (unwrap_or o no_matrix).0
    ≡ Some (unwrap_or o no_matrix).1) [ None ↦ λ _ there. cc | Some x ↦ λ is _. matrix_in_force h legal x is ] refl (matrix_there h legal)

pub readable : (h : List Call) → IsLegal h → AreReadable h
readable h legal =
    record {
      proposed = λ n m is. let numbered = proposed_matrix h n m is in read_back h n m numbered (shaped h legal n m numbered);
      in_force = let numbered = in_force_numbered h legal in
          read_back h (matrix h).0 (matrix h).1 numbered (shaped h legal (matrix h).0 (matrix h).1 numbered);
    }

-- There are as many rows of changes as proposals
abbrev numbered_draft : List Call → ℕ → Option ℕ
numbered_draft h n = option_map (λ d. n) (draft h n)

numbers_told : (h : List Call) → Tells nat_cmp (λ n. n) (numbered_draft h) (numbers_of_changes h)
numbers_told h =
    let told = changes_told h in
    record {
      order = told.order;
      same = told.same;
      at_key = λ n r e. mapped_key (λ k. k) (λ (d : Draft). n) n (draft h n) r (λ x. refl) e;
      among = λ n. elim (told.among n) [
        | inl none ↦ inl (elim (draft h n) as (λ o. option_map (change_with h n) o ≡ None
            → option_map (λ d. n) o ≡ None) [ None ↦ λ _. refl | Some d ↦ λ e. cc ] none)
        | inr there ↦ inr there
      ];
    }

abbrev numbers_kept : List Call → List ℕ
numbers_kept h = filter_map (numbered_draft h) (in_order nat_cmp (numbers_of_changes h))

number_anew : (n k : ℕ) (d : Draft) (rest : Option Draft)
    → option_map (λ d. k) (or_else (when (same_number k n) d) rest) ≡ cond (same_number k n) (Some n) (option_map (λ d. k) rest)
number_anew n k d rest =
    elim (same_number k n) as (λ s. same_number k n ≡ s
    → option_map (λ d. k) (or_else (when s d) rest) ≡ cond s (Some n) (option_map (λ d. k) rest)) [
      | true ↦ λ e. ap (λ y. Some y) (same_number_of k n e)
      | false ↦ λ e. refl
    ] refl

-- the next number comes behind those before
next_put : (s k : ℕ) → put_row nat_cmp (λ n. n) (s + k) (range_with_len s k) ≡ range_with_len s (suc k)
next_put s zero = ap (λ n. n ∷ []) (let e : s + 0 ≡ s = omega arith in e)
next_put s (suc k) =
    let above : s < s + suc k = omega arith in
    let moved : s + suc k ≡ (s + 1) + k = omega arith in
    let next : ℕ = s + suc k in
    let rest : List ℕ = range_with_len (s + 1) k in
    ap (λ v. by_order v (next ∷ s ∷ rest) (next ∷ rest) (s ∷ put_row nat_cmp (λ n. n) next rest)) (sym (nat_cmp_is next s Greater above))
    ∙ ap (λ n. s ∷ put_row nat_cmp (λ n. n) n rest) moved
    ∙ ap (λ ns. s ∷ ns) (next_put (s + 1) k)

kept_step : (h : List Call) (p : Name) (t : ℕ) (q : Request) → numbers_kept h ≡ range_with_len 1 (proposals h)
    → numbers_kept (record { person = p; moment = t; request = q } ∷ h)
    ≡ range_with_len 1 (proposals (record { person = p; moment = t; request = q } ∷ h))
kept_step h p t (Propose u x) before =
    let c : List Call = record { person = p; moment = t; request = Propose u x } ∷ h in
    let n : ℕ = proposals h + 1 in
    let put : put_row nat_cmp (λ k. k) n (numbers_kept h) ≡ numbers_kept c =
    put-rows (numbered_draft h) (numbered_draft c) (numbers_of_changes h) (numbers_of_changes c) n (numbers_told h) (numbers_told c)
    (λ k. number_anew n k (record { proposer = p; proposed = t; kind = x.kind; base = x.base }) (draft h k)) in
    let one : n ≡ 1 + proposals h = omega arith in
    let next : suc (proposals h) ≡ n = omega arith in
    sym put ∙ ap (put_row nat_cmp (λ k. k) n) before ∙ ap (λ m. put_row nat_cmp (λ k. k) m (range_with_len 1 (proposals h))) one
    ∙ next_put 1 (proposals h) ∙ ap (range_with_len 1) next
kept_step h p t _ before = before

-- the numbers of the changes are those from 1 to the number of proposals
kept_all : (h : List Call) → numbers_kept h ≡ range_with_len 1 (proposals h)
kept_all [] = refl
kept_all (c ∷ h) = kept_step h c.person c.moment c.request (kept_all h)

numbers_shown : (h : List Call) (ks : List ℕ) → map change_number (map change_entry (filter_map (change h) ks)) ≡ filter_map (numbered_draft h) ks
numbers_shown h [] = refl
numbers_shown h (k ∷ ks) =
    elim (draft h k) as (λ o. map change_number (map change_entry (cons_option (option_map (change_with h k) o) (filter_map (change h) ks)))
    ≡ cons_option (option_map (λ d. k) o) (filter_map (numbered_draft h) ks)) [
      | None ↦ numbers_shown h ks
      | Some d ↦ ap (λ ns. k ∷ ns) (numbers_shown h ks)
    ]

last_of_numbers : (n : ℕ) → unwrap_or (slice_get (range_with_len 1 n) (n - 1)) 0 ≡ n
last_of_numbers zero = refl
last_of_numbers (suc k) = unwrap_or-slice_get (range_with_len 1 (suc k)) (suc k - 1) 0 ∙ get_or-range_with_len 1 (suc k) (suc k - 1) 0 (omega arith)
    ∙ (let e : 1 + (suc k - 1) ≡ suc k = omega arith in e)

pub change_count : (h : List Call) → last_number (change_rows h) ≡ proposals h
change_count h =
    let numbers : map change_number (change_rows h) ≡ range_with_len 1 (proposals h) = numbers_shown h (in_order nat_cmp (numbers_of_changes h))
    ∙ kept_all h in
    let many : length (change_rows h) ≡ proposals h = sym (length-map (change_rows h) change_number) ∙ ap length numbers
    ∙ length-range_with_len 1 (proposals h) in
    ap (λ o. unwrap_or o 0)
    (sym (slice_get-map change_number (change_rows h) (length (change_rows h) - 1)) ∙ (λ i. slice_get (numbers i) (many i - 1)))
    ∙ last_of_numbers (proposals h)

-- the rows of a legal history give its facts
pub facts-rows : (h : List Call) → IsLegal h → facts_of (rows_of h) ≡ facts h
facts-rows h legal = ap (facts_from (rows_of h) (length (alarm_rows h))) (change_count h) ∙ facts_told h (readable h legal)
