-- Rows in the order of their keys: the one of a key among them, some of them, and the two parts at a key.
use Rattle.std.specs.{Cmp.{IsTotalOrder, tied_itself}, FinMap.Entries.{below_all}, List.{IsAllAdjacentAnswer, Sorted.{IsPartitionedBy}, list_any, remove}, Slice.{IsGetResult}}
use Rattle.std.{specs.{Option.{is_some}, Ordering.{ordering_reverse, eq_by_cmp}}, proofs.lemmas.{Bool.{ltb-false, ltb-true}}}
use Rattle.std.proofs.Common.{◌⊎◌, inl, inr, ◌-◌, ◌||◌, drop, take, filter, option_to_list, ap, arith, subst, Bor, option_copied, Result, Ok, Err, OnOk, OnErr, IsTrue, ◌↔◌, get_or, refl, sym, ◌∙◌, is_eq, is_lt, List, None, Option, Some, T, [], cond, false, length, map, nat_lt, option_and_then, option_map, slice_get, suc, true, unwrap_or, zero, ℕ, ◌<◌, ◌∷◌, ◌≡◌, ◌≤◌, Ordering, Equal, Greater, Less, true≢false, Bool, not, ◌+◌}
use Rattle.std.proofs.lemmas.{Option.{get_or_from_slice_get, slice_get-get_or, slice_get_past, slice_get_within}}
use Rattle.plant_types.{specs.{KeyedRows.{IsInOrder, IsPlace, IsPlaceOf, cmp_at, remove_row, row_at, rows_below, rows_from}, Options.{when}}, proofs.public.{KeyedRowLaws.{tied}}}
use Rattle.std.proofs.lemmas.List.{take_all}
use Rattle.plant_types.proofs.public.Halves.{both, first, second}

pub less : (r : Ordering) → T (is_lt r) → r ≡ Less
less Less p = refl
less _ p = absurd p

pub lesser : (r : Ordering) → is_lt r ≡ true → r ≡ Less
lesser Less e = refl
lesser _ e = cc

pub greater : (r : Ordering) → is_lt r ≡ false → is_eq r ≡ false → r ≡ Greater
greater Greater e f = refl
greater _ e f = cc

module _ {K : Type 0} {R : K → K → Ordering} (total : IsTotalOrder R) where
  pub turned : (a b : K) → R a b ≡ Less → R b a ≡ Greater
  turned a b e = total.antisymm b a ∙ ap ordering_reverse e

  pub back : (a b : K) → R a b ≡ Greater → R b a ≡ Less
  back a b e = total.antisymm b a ∙ ap ordering_reverse e

-- orders by which only equal keys tie have the same ties
pub same_ties : {K : Type 0} (R S : K → K → Ordering) → IsTotalOrder R → ((a b : K) → R a b ≡ Equal → a ≡ b) → IsTotalOrder S
    → ((a b : K) → S a b ≡ Equal → a ≡ b) → (a b : K) → eq_by_cmp R a b ≡ eq_by_cmp S a b
same_ties R S total only other others a b = by (eq_by_cmp R a b) refl (eq_by_cmp S a b) refl
  where
    by : (x : Bool) → eq_by_cmp R a b ≡ x → (y : Bool) → eq_by_cmp S a b ≡ y → eq_by_cmp R a b ≡ eq_by_cmp S a b
    by true p true q = p ∙ sym q
    by false p false q = p ∙ sym q
    by true p false q =
        absurd (true≢false (sym (ap is_eq (tied_itself other a)) ∙ ap (eq_by_cmp S a) (only a b (tied (R a b) true p refl)) ∙ q))
    by false p true q =
        absurd (true≢false (sym (ap is_eq (tied_itself total a)) ∙ ap (eq_by_cmp R a) (others a b (tied (S a b) true q refl)) ∙ p))

-- the row at a place, and none past the end
pub get_some : {X : Type 0} (xs : List X) (p : ℕ) (x : X) → true ≡ nat_lt p (length xs) → x ≡ get_or xs p x → Some x ≡ slice_get xs p
get_some {X} xs p x within is = ap (λ (y : X). let o : Option X = Some y in o) is
    ∙ sym (slice_get-get_or xs p x (ltb-true p (length xs) (sym within)))

pub get_none : {X : Type 0} (xs : List X) (p : ℕ) → false ≡ nat_lt p (length xs) → None ≡ slice_get xs p
get_none xs p past = sym (slice_get_past xs p (ltb-false p (length xs) (sym past)))

pub get_is : {X : Type 0} (xs : List X) (p : ℕ) (r : Option (Bor X)) → IsGetResult xs p p r → option_copied r ≡ slice_get xs p
get_is xs p None h = get_none xs p h.0
get_is xs p (Some x) h = get_some xs p x.now h.0 h.1

pub some_copied : {X : Type 0} (r : Option (Bor X)) → is_some r ≡ is_some (option_copied r)
some_copied None = refl
some_copied (Some x) = refl

-- what stands after a call that may fail
pub either : {A E X : Type 0} (I : List X → Type 0) (r : Result A E) (new good bad : List X) → OnOk r (new ≡ good) → OnErr r (new ≡ bad) → I good → I bad → I new
either I (Ok x) new good bad ok err g b = subst I (sym ok) g
either I (Err x) new good bad ok err g b = subst I (sym err) b

module _ {K X : Type 0} (R : K → K → Ordering) (key : X → K) where
  -- rows whose keys come after another
  abbrev pub After : K → List X → Type 0
  After a [] = Unit {0}
  After a (r ∷ rows) = (R a (key r) ≡ Less) × After a rows

  abbrev pub Ordered : List X → Type 0
  Ordered [] = Unit {0}
  Ordered (r ∷ rows) = After (key r) rows × Ordered rows

  after_of : (a : K) (rows : List X) → T (below_all R a (map (λ r. (key r, r)) rows)) → After a rows
  after_of a [] h = tt
  after_of a (r ∷ rows) h = (less (R a (key r)) (first _ _ h), after_of a rows (second _ _ h))

  pub ordered : (rows : List X) → IsInOrder R key rows → Ordered rows
  ordered [] h = tt
  ordered (r ∷ rows) h = (after_of (key r) rows (first _ _ h), ordered rows (second _ _ h))

  below_of : (a : K) (rows : List X) → After a rows → T (below_all R a (map (λ r. (key r, r)) rows))
  below_of a [] h = tt
  below_of a (r ∷ rows) h = both _ _ (subst (λ o. T (is_lt o)) (sym h.0) tt) (below_of a rows h.1)

  pub in_order : (rows : List X) → Ordered rows → IsInOrder R key rows
  in_order [] h = tt
  in_order (r ∷ rows) h = both _ _ (below_of (key r) rows h.0) (in_order rows h.1)

  pub after_at : (a : K) (rows : List X) → After a rows → (k : ℕ) (d : X) → k < length rows → R a (key (get_or rows k d)) ≡ Less
  after_at a [] h k d lt = absurd (omega arith)
  after_at a (r ∷ rows) h zero d lt = h.0
  after_at a (r ∷ rows) h (suc k) d lt = after_at a rows h.1 k d (omega arith)

  abbrev pub Parts : K → List X → ℕ → Type 0
  Parts t rows p = IsPlace R key t rows p

  pub later : (t : K) (r : X) (rows : List X) (p : ℕ) → Parts t (r ∷ rows) (suc p) → Parts t rows p
  later t r rows p h = (λ k d low high. h.0 (suc k) d (omega arith) (omega arith), λ k d low high. h.1 (suc k) d (omega arith) (omega arith))

  pub none_after : (t : K) (rows : List X) → After t rows → row_at R key t rows ≡ None
  none_after t [] h = refl
  none_after t (r ∷ rows) h = ap (λ o. cond (is_eq o) (Some r) (row_at R key t rows)) h.0 ∙ none_after t rows h.1

  -- the row of a key stands at its place, if there is one
  abbrev pub at_place : K → Option X → Option X
  at_place t o = option_and_then (λ r. when (eq_by_cmp R (key r) t) r) o

  module _ (total : IsTotalOrder R) where
    pub after_more : (a b : K) (rows : List X) → R a b ≡ Less → After b rows → After a rows
    after_more a b [] lt h = tt
    after_more a b (r ∷ rows) lt h = (total.trans a b (key r) lt h.0, after_more a b rows lt h.1)

    -- the keys before a place are smaller, and the others aren't
    pub parted : (rows : List X) (t : K) → IsInOrder R key rows → IsPartitionedBy (λ r. is_lt (R (key r) t)) rows
    parted rows t order = by rows (ordered rows order)
      where
        by : (xs : List X) → Ordered xs → (i j : ℕ) (d : X) → i ≤ j → j < length xs → is_lt (R (key (get_or xs j d)) t) ≡ true
            → is_lt (R (key (get_or xs i d)) t) ≡ true
        by [] h i j d le lt e = absurd (omega arith)
        by (x ∷ xs) h zero zero d le lt e = e
        by (x ∷ xs) h zero (suc j) d le lt e =
            ap is_lt (total.trans (key x) (key (get_or xs j d)) t (after_at (key x) xs h.0 j d (omega arith)) (lesser (R (key (get_or xs j d)) t) e))
        by (x ∷ xs) h (suc i) zero d le lt e = absurd (omega arith)
        by (x ∷ xs) h (suc i) (suc j) d le lt e = by xs h.1 i j d (omega arith) (omega arith) e

    -- a place is that of a key if the row before it is below the key, and the row at it is not
    told_at : (rows : List X) (t : K) (p : ℕ) (d : X) → p < length rows → cmp_at R key t rows p ≡ R (key (get_or rows p d)) t
    told_at rows t p d within = ap (λ o. unwrap_or (option_map (λ r. R (key r) t) o) Greater) (slice_get-get_or rows p d within)

    abbrev pub Before : List X → K → ℕ → Type 0
    Before rows t p = (p ≡ 0) ⊎ (cmp_at R key t rows (p - 1) ≡ Less)

    place_is : (rows : List X) (t : K) (p : ℕ) → IsInOrder R key rows → p ≤ length rows → cmp_at R key t rows p ≡ Greater
        → Before rows t p → IsPlace R key t rows p
    place_is rows t p order within at before = (λ k d low high. smaller k d high before, λ k d low high. other k d low high)
      where
        smaller : (k : ℕ) (d : X) → k < p → Before rows t p → is_lt (R (key (get_or rows k d)) t) ≡ true
        smaller k d high (inl none) = absurd (omega (arith, high, none))
        smaller k d high (inr below) =
            parted rows t order k (p - 1) d (omega (arith, high)) (omega (arith, high, within))
            (ap is_lt (sym (told_at rows t (p - 1) d (omega (arith, high, within))) ∙ below))

        other : (k : ℕ) (d : X) → p ≤ k → k < length rows → is_lt (R (key (get_or rows k d)) t) ≡ false
        other k d low high = by (is_lt (R (key (get_or rows k d)) t)) refl
          where
            by : (b : Bool) → is_lt (R (key (get_or rows k d)) t) ≡ b → is_lt (R (key (get_or rows k d)) t) ≡ false
            by false e = e
            by true e =
                absurd (true≢false (sym (parted rows t order p k d low high e)
                ∙ ap is_lt (sym (told_at rows t p d (omega (arith, low, high))) ∙ at)))

    -- where the last row is below a key, all are
    pub behind_last : (rows : List X) (t : K) (r : X) → IsInOrder R key rows → slice_get rows (length rows - 1) ≡ Some r
        → is_lt (R (key r) t) ≡ true → IsPlace R key t rows (length rows)
    behind_last rows t r order last less = (
      λ k d low high. parted rows t order k (length rows - 1) d (omega (arith, high)) (slice_get_within rows (length rows - 1) r last)
          (ap (λ x. is_lt (R (key x) t)) (get_or_from_slice_get rows (length rows - 1) r d last) ∙ less),
      λ k d low high. absurd (omega (arith, low, high)),
    )

    -- the place of a row is that of its key
    ahead : (rows : List X) → Ordered rows → (k p : ℕ) (d e : X) → k < p → p < length rows
        → is_lt (R (key (get_or rows k e)) (key (get_or rows p d))) ≡ true
    ahead [] h k p d e lt within = absurd (omega (arith, within))
    ahead (x ∷ rows) h k zero d e lt within = absurd (omega (arith, lt))
    ahead (x ∷ rows) h zero (suc p) d e lt within = ap is_lt (after_at (key x) rows h.0 p d (omega (arith, within)))
    ahead (x ∷ rows) h (suc k) (suc p) d e lt within = ahead rows h.1 k p d e (omega (arith, lt)) (omega (arith, within))

    behind : (rows : List X) → Ordered rows → (k p : ℕ) (d e : X) → p ≤ k → k < length rows
        → is_lt (R (key (get_or rows k e)) (key (get_or rows p d))) ≡ false
    behind [] h k p d e le within = absurd (omega (arith, within))
    behind (x ∷ rows) h zero zero d e le within = ap is_lt (tied_itself total (key x))
    behind (x ∷ rows) h (suc k) zero d e le within =
        ap is_lt (turned total (key x) (key (get_or rows k e)) (after_at (key x) rows h.0 k e (omega (arith, within))))
    behind (x ∷ rows) h zero (suc p) d e le within = absurd (omega (arith, le))
    behind (x ∷ rows) h (suc k) (suc p) d e le within = behind rows h.1 k p d e (omega (arith, le)) (omega (arith, within))

    own_place : (rows : List X) (p : ℕ) (d : X) → IsInOrder R key rows → p < length rows → IsPlace R key (key (get_or rows p d)) rows p
    own_place rows p d order within =
        (λ k e low high. ahead rows (ordered rows order) k p d e high within, λ k e low high. behind rows (ordered rows order) k p d e low high)

    pub place_here : ((a b : K) → R a b ≡ Equal → a ≡ b) → (rows : List X) (t : K) (p : ℕ) (r : X) → IsInOrder R key rows
        → slice_get rows p ≡ Some r → eq_by_cmp R (key r) t ≡ true → IsPlace R key t rows p
    place_here same rows t p r order is tie =
        subst (λ k. IsPlace R key k rows p)
        (ap key (get_or_from_slice_get rows p r r is) ∙ same (key r) t (tied (R (key r) t) true tie refl))
        (own_place rows p r order (slice_get_within rows p r is))

    row_found : (rows : List X) (t : K) (p : ℕ) → Ordered rows → Parts t rows p → at_place t (slice_get rows p) ≡ row_at R key t rows
    row_found [] t p order h = refl
    row_found (x ∷ rows) t zero order h = by (R t (key x)) refl where
      by : (o : Ordering) → R t (key x) ≡ o → when (eq_by_cmp R (key x) t) x ≡ row_at R key t (x ∷ rows)
      by Less e = ap (λ v. when (is_eq v) x) (turned total t (key x) e) ∙ sym (none_after t (x ∷ rows) (e, after_more t (key x) rows e order.0))
      by Equal e = ap (λ v. when (is_eq v) x) (total.antisymm (key x) t ∙ ap ordering_reverse e)
          ∙ sym (ap (λ v. cond (is_eq v) (Some x) (row_at R key t rows)) e)
      by Greater e = absurd (true≢false (ap is_lt (sym (back total t (key x) e)) ∙ h.1 0 x (omega arith) (omega arith)))
    row_found (x ∷ rows) t (suc p) order h =
        let low : R (key x) t ≡ Less = lesser (R (key x) t) (h.0 0 x (omega arith) (omega arith)) in
        row_found rows t p order.1 (later t x rows p h)
        ∙ sym (ap (λ v. cond (is_eq v) (Some x) (row_at R key t rows)) (turned total (key x) t low))

    pub none_found : (rows : List X) (t : K) (p : ℕ) → Ordered rows → Parts t rows p → slice_get rows p ≡ None → None ≡ row_at R key t rows
    none_found rows t p order h none = ap (at_place t) (sym none) ∙ row_found rows t p order h

    pub one_found : (rows : List X) (t : K) (p : ℕ) → Ordered rows → Parts t rows p → (r : X) → slice_get rows p ≡ Some r
        → eq_by_cmp R (key r) t ≡ true → Some r ≡ row_at R key t rows
    one_found rows t p order h r there same = ap (λ b. when b r) (sym same) ∙ ap (at_place t) (sym there) ∙ row_found rows t p order h

    pub other_found : (rows : List X) (t : K) (p : ℕ) → Ordered rows → Parts t rows p → (r : X) → slice_get rows p ≡ Some r
        → eq_by_cmp R (key r) t ≡ false → None ≡ row_at R key t rows
    other_found rows t p order h r there same = ap (λ b. when b r) (sym same) ∙ ap (at_place t) (sym there) ∙ row_found rows t p order h

    -- by how the row at a place compares, it has the key, or no row has it
    pub found_here : (rows : List X) (t : K) (p : ℕ) → cmp_at R key t rows p ≡ Equal → IsPlaceOf R key t rows (Some p)
    found_here rows t p equal = by (slice_get rows p) refl equal
      where
        by : (o : Option X) → slice_get rows p ≡ o → unwrap_or (option_map (λ r. R (key r) t) o) Greater ≡ Equal → IsPlaceOf R key t rows (Some p)
        by None there e = cc e
        by (Some r) there e = (r, there, ap is_eq e)

    pub none_here : (rows : List X) (t : K) (p : ℕ) → IsInOrder R key rows → IsPlace R key t rows p → is_eq (cmp_at R key t rows p) ≡ false
        → row_at R key t rows ≡ None
    none_here rows t p order parts other = by (slice_get rows p) refl other
      where
        by : (o : Option X) → slice_get rows p ≡ o → is_eq (unwrap_or (option_map (λ r. R (key r) t) o) Greater) ≡ false → row_at R key t rows ≡ None
        by None there e = sym (none_found rows t p (ordered rows order) parts there)
        by (Some r) there e = sym (other_found rows t p (ordered rows order) parts r there e)

    within_if : (rows : List X) (t : K) (p : ℕ) → Before rows t p → p ≤ length rows
    within_if rows t p (inl none) = omega (arith, none)
    within_if rows t p (inr less) = by (slice_get rows (p - 1)) refl less
      where
        by : (o : Option X) → slice_get rows (p - 1) ≡ o → unwrap_or (option_map (λ r. R (key r) t) o) Greater ≡ Less → p ≤ length rows
        by None there e = cc e
        by (Some r) there e = omega (arith, slice_get_within rows (p - 1) r there)

    pub none_between : (rows : List X) (t : K) (p : ℕ) → IsInOrder R key rows → cmp_at R key t rows p ≡ Greater
        → (p ≡ 0) ⊎ (cmp_at R key t rows (p - 1) ≡ Less) → row_at R key t rows ≡ None
    none_between rows t p order at before =
        none_here rows t p order (place_is rows t p order (within_if rows t p before) at before) (ap is_eq at)

    -- the row of a key is the one that has it, wherever it stands
    pub row_there : ((a b : K) → R a b ≡ Equal → a ≡ b) → (rows : List X) (t : K) (p : ℕ) → Ordered rows → (r : X) → slice_get rows p ≡ Some r
        → eq_by_cmp R (key r) t ≡ true → Some r ≡ row_at R key t rows
    row_there only [] t p order r there same = cc
    row_there only (x ∷ rows) t zero order r there same =
        let is : R (key x) t ≡ Equal = ap (λ o. R (key (unwrap_or o x)) t) there ∙ tied (R (key r) t) true same refl in
        sym there ∙ sym (ap (λ v. cond (is_eq v) (Some x) (row_at R key t rows)) (total.antisymm t (key x) ∙ ap ordering_reverse is))
    row_there only (x ∷ rows) t (suc p) order r there same =
        let is : key (get_or rows p r) ≡ t = ap key (get_or_from_slice_get rows p r r there) ∙ only (key r) t (tied (R (key r) t) true same refl) in
        let low : R (key x) t ≡ Less = ap (R (key x)) (sym is) ∙ after_at (key x) rows order.0 p r (slice_get_within rows p r there) in
        row_there only rows t p order.1 r there same
        ∙ sym (ap (λ v. cond (is_eq v) (Some x) (row_at R key t rows)) (turned total (key x) t low))

    pub row_there_is : ((a b : K) → R a b ≡ Equal → a ≡ b) → (rows : List X) (t : K) (p : ℕ) → IsInOrder R key rows
        → IsPlaceOf R key t rows (Some p) → slice_get rows p ≡ row_at R key t rows
    row_there_is only rows t p order found = found.1 ∙ row_there only rows t p (ordered rows order) found.0 found.1 found.2

    -- the rows of a key are the one that is found
    none_passes : (t : K) (rows : List X) → After t rows → filter (λ r. eq_by_cmp R t (key r)) rows ≡ []
    none_passes t [] h = refl
    none_passes t (r ∷ rows) h =
        ap (λ o. cond (is_eq o) (r ∷ filter (λ x. eq_by_cmp R t (key x)) rows) (filter (λ x. eq_by_cmp R t (key x)) rows)) h.0 ∙ none_passes t rows h.1

    pub one_passes : ((a b : K) → R a b ≡ Equal → a ≡ b) → (t : K) (rows : List X) → Ordered rows
        → filter (λ r. eq_by_cmp R t (key r)) rows ≡ option_to_list (row_at R key t rows)
    one_passes only t [] h = refl
    one_passes only t (r ∷ rows) h = by (R t (key r)) refl (one_passes only t rows h.1)
      where
        by : (o : Ordering) → R t (key r) ≡ o → filter (λ x. eq_by_cmp R t (key x)) rows ≡ option_to_list (row_at R key t rows)
            → cond (is_eq o) (r ∷ filter (λ x. eq_by_cmp R t (key x)) rows) (filter (λ x. eq_by_cmp R t (key x)) rows)
            ≡ option_to_list (cond (is_eq o) (Some r) (row_at R key t rows))
        by Less e rest = rest
        by Equal e rest = ap (λ xs. r ∷ xs) (none_passes t rows (subst (λ a. After a rows) (sym (only t (key r) e)) h.0))
        by Greater e rest = rest

    -- rows of which each is below the next are in order
    abbrev Steps : List X → Type 0
    Steps rows = (k : ℕ) (d : X) → suc k < length rows → R (key (get_or rows k d)) (key (get_or rows (suc k) d)) ≡ Less

    from_first : (x : X) (rows : List X) → Steps (x ∷ rows) → Ordered (x ∷ rows)
    from_first x [] h = (tt, tt)
    from_first x (y ∷ rows) h =
        let low : R (key x) (key y) ≡ Less = h 0 x (omega arith) in
        let rest = from_first y rows (λ k d lt. h (suc k) d (omega arith)) in
        ((low, after_more (key x) (key y) rows low rest.0), rest)

    steps_ordered : (rows : List X) → Steps rows → Ordered rows
    steps_ordered [] h = tt
    steps_ordered (x ∷ rows) h = from_first x rows h

    ordered_steps : (rows : List X) → Ordered rows → Steps rows
    ordered_steps [] h k d lt = absurd (omega arith)
    ordered_steps (x ∷ rows) h zero d lt = after_at (key x) rows h.0 0 d (omega arith)
    ordered_steps (x ∷ rows) h (suc k) d lt = ordered_steps rows h.1 k d (omega arith)

    one_more : (k : ℕ) → k + 1 ≡ suc k
    one_more k = omega arith

    pub rise_is_told : (rows : List X) (b : Bool) → IsAllAdjacentAnswer (λ x y b. b ≡ is_lt (R (key x) (key y))) rows b → IsTrue b ↔ IsInOrder R key rows
    rise_is_told rows true h = (
      λ _. in_order rows (steps_ordered rows (λ k d within. lesser _ (sym (h k d (omega (arith, within)) ∙ ap (λ n. is_lt (R (key (get_or rows k d)) (key (get_or rows n d)))) (one_more k))))),
      λ _. refl,
    )
    rise_is_told [] false h = absurd (omega (arith, h.1))
    rise_is_told (x ∷ xs) false h = (
      λ f. cc f,
      λ order. absurd (true≢false (sym (ap is_lt (ordered_steps (x ∷ xs) (ordered (x ∷ xs) order) h.0 x (omega (arith, h.1))))
          ∙ sym (h.2 x ∙ ap (λ n. is_lt (R (key (get_or (x ∷ xs) h.0 x)) (key (get_or (x ∷ xs) n x)))) (one_more h.0)))),
    )

    -- the rows without that of a key
    none_left : (k : K) (rows : List X) → After k rows → rows ≡ remove_row R key k rows
    none_left k [] h = refl
    none_left k (r ∷ rows) h =
        ap (λ l. r ∷ l) (none_left k rows h.1) ∙ sym (ap (λ o. cond (not (is_eq o)) (r ∷ remove_row R key k rows) (remove_row R key k rows)) h.0)

    pub without : ((a b : K) → R a b ≡ Equal → a ≡ b) → (rows : List X) (k : K) (p : ℕ) → Ordered rows → (r : X) → slice_get rows p ≡ Some r
        → eq_by_cmp R (key r) k ≡ true → remove rows p ≡ remove_row R key k rows
    without only [] k p order r there same = cc
    without only (x ∷ rows) k zero order r there same =
        let is : R (key x) k ≡ Equal = ap (λ o. R (key (unwrap_or o x)) k) there ∙ tied (R (key r) k) true same refl in
        none_left k rows (subst (λ a. After a rows) (only (key x) k is) order.0)
        ∙ sym (ap (λ v. cond (not (is_eq v)) (x ∷ remove_row R key k rows) (remove_row R key k rows))
        (total.antisymm k (key x) ∙ ap ordering_reverse is))
    without only (x ∷ rows) k (suc p) order r there same =
        let is : key (get_or rows p r) ≡ k = ap key (get_or_from_slice_get rows p r r there) ∙ only (key r) k (tied (R (key r) k) true same refl) in
        let low : R (key x) k ≡ Less = ap (R (key x)) (sym is) ∙ after_at (key x) rows order.0 p r (slice_get_within rows p r there) in
        ap (λ l. x ∷ l) (without only rows k p order.1 r there same)
        ∙ sym (ap (λ v. cond (not (is_eq v)) (x ∷ remove_row R key k rows) (remove_row R key k rows)) (turned total (key x) k low))

  pub none_removed : (rows : List X) (k : K) → row_at R key k rows ≡ None → rows ≡ remove_row R key k rows
  none_removed [] k h = refl
  none_removed (r ∷ rows) k h = elim (eq_by_cmp R k (key r)) as (λ b. cond b (Some r) (row_at R key k rows) ≡ None → r
      ∷ rows ≡ cond (not b) (r ∷ remove_row R key k rows) (remove_row R key k rows)) [
        | true ↦ λ e. cc e
        | false ↦ λ e. ap (λ l. r ∷ l) (none_removed rows k e)
      ] h

  -- some of rows in order are in order
  after_some : (p : X → Bool) (a : K) (rows : List X) → After a rows → After a (filter p rows)
  after_some p a [] h = tt
  after_some p a (r ∷ rows) h =
      elim (p r) as (λ b. After a (cond b (r ∷ filter p rows) (filter p rows))) [
        | true ↦ (h.0, after_some p a rows h.1)
        | false ↦ after_some p a rows h.1
      ]

  ordered_some : (p : X → Bool) (rows : List X) → Ordered rows → Ordered (filter p rows)
  ordered_some p [] h = tt
  ordered_some p (r ∷ rows) h =
      elim (p r) as (λ b. Ordered (cond b (r ∷ filter p rows) (filter p rows))) [
        | true ↦ (after_some p (key r) rows h.0, ordered_some p rows h.1)
        | false ↦ ordered_some p rows h.1
      ]

  pub in_order_some : (p : X → Bool) (rows : List X) → IsInOrder R key rows → IsInOrder R key (filter p rows)
  in_order_some p rows h = in_order (filter p rows) (ordered_some p rows (ordered rows h))

  -- a loop has gone over all rows, and has those that pass
  pub some_of_all : (p : X → Bool) (rows items some : List X) (i : ℕ) → IsInOrder R key rows → items ≡ rows → length items ≤ i
      → some ≡ filter p (take i items) → IsInOrder R key some
  some_of_all p rows items some i h same end is =
      subst (IsInOrder R key) (sym (is ∙ ap (filter p) (take_all i items end ∙ same))) (in_order_some p rows h)

  -- so are those from a place on
  ordered_drop : (n : ℕ) (rows : List X) → Ordered rows → Ordered (drop n rows)
  ordered_drop zero rows h = h
  ordered_drop (suc n) [] h = tt
  ordered_drop (suc n) (r ∷ rows) h = ordered_drop n rows h.1

  pub in_order_drop : (n : ℕ) (rows : List X) → IsInOrder R key rows → IsInOrder R key (drop n rows)
  in_order_drop n rows h = in_order (drop n rows) (ordered_drop n rows (ordered rows h))

  -- the two parts at a place
  pub take_below : (t : K) (rows : List X) (p : ℕ) → Parts t rows p → take p rows ≡ rows_below R key t rows
  take_below t [] zero h = refl
  take_below t [] (suc p) h = refl
  take_below t (x ∷ rows) zero h =
      take_below t rows zero ((λ k d low high. absurd (omega (arith, low))), (λ k d low high. h.1 (suc k) d (omega arith) (omega (arith, high))))
      ∙ sym (ap (λ b. cond b (x ∷ rows_below R key t rows) (rows_below R key t rows)) (h.1 0 x (omega arith) (omega arith)))
  take_below t (x ∷ rows) (suc p) h =
      ap (λ l. x ∷ l) (take_below t rows p (later t x rows p h))
      ∙ sym (ap (λ b. cond b (x ∷ rows_below R key t rows) (rows_below R key t rows)) (h.0 0 x (omega arith) (omega arith)))

  pub drop_from : (t : K) (rows : List X) (p : ℕ) → Parts t rows p → drop p rows ≡ rows_from R key t rows
  drop_from t [] zero h = refl
  drop_from t [] (suc p) h = refl
  drop_from t (x ∷ rows) zero h =
      ap (λ l. x ∷ l)
      (drop_from t rows zero ((λ k d low high. absurd (omega (arith, low))), (λ k d low high. h.1 (suc k) d (omega arith) (omega (arith, high)))))
      ∙ sym (ap (λ b. cond (not b) (x ∷ rows_from R key t rows) (rows_from R key t rows)) (h.1 0 x (omega arith) (omega arith)))
  drop_from t (x ∷ rows) (suc p) h =
      drop_from t rows p (later t x rows p h)
      ∙ sym (ap (λ b. cond (not b) (x ∷ rows_from R key t rows) (rows_from R key t rows)) (h.0 0 x (omega arith) (omega arith)))

  -- whether there is a row of a key
  pub some_at : (k : K) (rows : List X) → is_some (row_at R key k rows) ≡ list_any (λ r. eq_by_cmp R k (key r)) rows
  some_at k [] = refl
  some_at k (r ∷ rows) =
      elim (eq_by_cmp R k (key r)) as (λ b. is_some (cond b (Some r) (row_at R key k rows)) ≡ (b || list_any (λ x. eq_by_cmp R k (key x)) rows)) [
        | true ↦ refl
        | false ↦ some_at k rows
      ]
