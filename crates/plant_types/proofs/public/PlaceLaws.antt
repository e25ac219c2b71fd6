-- Rows put in the order of their keys.
use Rattle.std.{specs.{Cmp.{IsTotalOrder}, FinMap.Entries.{by_order}}, proofs.{Math.Seq.{drop-cons}, lemmas.List.{set_split}}}
use Rattle.std.proofs.Common.{◌≡◌, ℕ, ◌<◌, List, [], ◌∷◌, ◌++◌, arith, refl, sym, ap, ◌∙◌, length, take, drop, false, get_or, set, suc, true, zero, is_eq, is_lt, insert, Ordering, Equal, Greater, Less}
use Rattle.plant_types.proofs.public.SortedLaws.{Parts as PartsBy, back, later, lesser, turned}
use Rattle.plant_types.specs.KeyedRows.{put_row}

module _ {K X : Type 0} (R : K → K → Ordering) (key : X → K) where
  abbrev put_in : X → List X → List X
  put_in r rows = put_row R key r rows

  -- the row comes after the first i rows, so it is put among the others
  abbrev pub ComesAfter : X → List X → ℕ → Type 0
  ComesAfter r rows i = put_in r rows ≡ take i rows ++ put_in r (drop i rows)

  pub put_over : (r e : X) (rows : List X) (i : ℕ) → i < length rows → e ≡ get_or rows i e → R (key r) (key e) ≡ Equal → ComesAfter r rows i
      → set rows i r ≡ put_in r rows
  put_over r e rows i h is eq after =
      let rest = drop-cons rows i e h ∙ ap (λ x. x ∷ drop (suc i) rows) (sym is) in
      set_split rows i r h
      ∙ ap (λ v. take i rows ++ by_order v (r ∷ e ∷ drop (suc i) rows) (r ∷ drop (suc i) rows) (e ∷ put_in r (drop (suc i) rows))) (sym eq)
      ∙ ap (λ xs. take i rows ++ put_in r xs) (sym rest) ∙ sym after

  -- it is put before the first row that comes after it
  pub put_before : (r e : X) (rows : List X) (i : ℕ) → i < length rows → e ≡ get_or rows i e → R (key r) (key e) ≡ Less → ComesAfter r rows i
      → insert rows i r ≡ put_in r rows
  put_before r e rows i h is lt after =
      let rest = drop-cons rows i e h ∙ ap (λ x. x ∷ drop (suc i) rows) (sym is) in
      ap (λ xs. take i rows ++ r ∷ xs) rest
      ∙ ap (λ v. take i rows ++ by_order v (r ∷ e ∷ drop (suc i) rows) (r ∷ drop (suc i) rows) (e ∷ put_in r (drop (suc i) rows))) (sym lt)
      ∙ ap (λ xs. take i rows ++ put_in r xs) (sym rest) ∙ sym after

  -- and behind all of them if none does
  pub put_behind : (r : X) (rows : List X) (i : ℕ) → drop i rows ≡ [] → ComesAfter r rows i → insert rows i r ≡ put_in r rows
  put_behind r rows i none after = ap (λ xs. take i rows ++ r ∷ xs) none ∙ ap (λ xs. take i rows ++ put_in r xs) (sym none) ∙ sym after

  -- ---- rows in order, whose place is found by halving

  module _ (total : IsTotalOrder R) where
    abbrev pub Parts : X → List X → ℕ → Type 0
    Parts r rows p = PartsBy R key (key r) rows p

    pub comes_after : (r : X) (rows : List X) (p : ℕ) → Parts r rows p → ComesAfter r rows p
    comes_after r rows zero h = refl
    comes_after r [] (suc p) h = refl
    comes_after r (x ∷ rows) (suc p) h =
        let low : R (key x) (key r) ≡ Less = lesser (R (key x) (key r)) (h.0 0 x (omega arith) (omega arith)) in
        ap (λ v. by_order v (r ∷ x ∷ rows) (r ∷ rows) (x ∷ put_in r rows)) (turned total (key x) (key r) low)
        ∙ ap (λ xs. x ∷ xs) (comes_after r rows p (later R key (key r) x rows p h))

    -- a row at the place that has another key comes after
    pub other_after : (r e : X) (rows : List X) (p : ℕ) → Parts r rows p → p < length rows → e ≡ get_or rows p e → is_eq (R (key r) (key e)) ≡ false
        → R (key r) (key e) ≡ Less
    other_after r e rows p h within is other = by (R (key r) (key e)) refl other
      where
        by : (v : Ordering) → R (key r) (key e) ≡ v → is_eq v ≡ false → v ≡ Less
        by Less same differs = refl
        by Equal same differs = cc
        by Greater same differs =
            let high : is_lt (R (key e) (key r)) ≡ false = ap (λ x. is_lt (R (key x) (key r))) is ∙ h.1 p e (omega arith) (omega (arith, within)) in
            let it : true ≡ false = ap is_lt (sym (back total (key r) (key e) same)) ∙ high in cc
