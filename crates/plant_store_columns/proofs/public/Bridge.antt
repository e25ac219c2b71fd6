-- Rows in the order of their keys: to put in and take out by an order of rows is to put and remove by key.
use Rattle.std.specs.{Cmp.{IsTotalOrder, alike_right, int_cmp_is, ranks}, FinMap.Entries.{by_order, below_all}, List.{AllByRecursion}}
use Rattle.std.specs.Ordering.{ordering_reverse, MatchOrdering}
use Rattle.std.proofs.Common.{◌≡◌, ℕ, pos, not, cond, List, [], ◌∷◌, map, refl, sym, ap, ◌∙◌, subst, Ordering, Less, Equal, Greater, is_lt, is_eq, T, nat_cmp, int_cmp, ◌<◌, ◌<ℤ◌, lt→ltb}
use Rattle.sqlite_trees.specs.Tree.{IsAscending}
use Rattle.sqlite_keyed.{specs.Lists.{insert_sorted}, proofs.ListLemmas.{all_weaker}}
use Rattle.plant_types.{specs.KeyedRows.{put_row, IsInOrder}, proofs.public.Halves.{both}}
use Rattle.plant_store_columns.specs.Kept.{taken_out, put_in}

module _ {K X : Type 0} (R : K → K → Ordering) (key : X → K) where
  abbrev pub AreRising : List X → Type 0
  AreRising = IsAscending (λ a b. R (key a) (key b) ≡ Less)

  none_tied : (x : X) (rows : List X) → AllByRecursion (λ y. R (key x) (key y) ≡ Less) rows → taken_out (λ a b. R (key a) (key b)) x rows ≡ rows
  none_tied x [] all = refl
  none_tied x (y ∷ ys) all = rw all.0 (ap (λ l. y ∷ l) (none_tied x ys all.1))

  at_front : (x : X) (rows : List X) → AllByRecursion (λ y. R (key x) (key y) ≡ Less) rows
      → insert_sorted (λ a b. R (key a) (key b)) x rows ≡ x ∷ rows
  at_front x [] all = refl
  at_front x (y ∷ ys) all = rw all.0 refl

  module _ (total : IsTotalOrder R) where
    pub alike_left : (x e y : K) → R x e ≡ Equal → R x y ≡ R e y
    alike_left x e y h = total.antisymm x y ∙ ap ordering_reverse (alike_right total x e y h) ∙ sym (total.antisymm e y)

    pub put_is : (x : X) (rows : List X) → AreRising rows → put_in (λ a b. R (key a) (key b)) x rows ≡ put_row R key x rows
    put_is x [] up = refl
    put_is x (e ∷ es) up = go (R (key x) (key e)) refl (put_is x es up.1)
      where
        go : (o : Ordering) → R (key x) (key e) ≡ o → put_in (λ a b. R (key a) (key b)) x es ≡ put_row R key x es
            → insert_sorted (λ a b. R (key a) (key b)) x (cond (not (is_eq o)) (e
            ∷ taken_out (λ a b. R (key a) (key b)) x es) (taken_out (λ a b. R (key a) (key b)) x es))
            ≡ by_order o (x ∷ e ∷ es) (x ∷ es) (e ∷ put_row R key x es)
        go Less h more =
            let above : AllByRecursion (λ y. R (key x) (key y) ≡ Less) es =
            all_weaker _ (λ y. R (key x) (key y) ≡ Less) (λ y. total.trans (key x) (key e) (key y) h) es up.0 in
            ap (λ l. insert_sorted (λ a b. R (key a) (key b)) x (e ∷ l)) (none_tied x es above) ∙ at_front x (e ∷ es) (h, above)
        go Equal h more =
            let above : AllByRecursion (λ y. R (key x) (key y) ≡ Less) es =
            all_weaker _ (λ y. R (key x) (key y) ≡ Less) (λ y k. alike_left (key x) (key e) (key y) h ∙ k) es up.0 in
            ap (insert_sorted (λ a b. R (key a) (key b)) x) (none_tied x es above) ∙ at_front x es above
        go Greater h more = rw h (ap (λ l. e ∷ l) more)

  below : (x : X) (rows : List X) → AllByRecursion (λ y. R (key x) (key y) ≡ Less) rows → T (below_all R (key x) (map (λ r. (key r, r)) rows))
  below x [] all = tt
  below x (y ∷ ys) all = both _ _ (subst (λ o. T (is_lt o)) (sym all.0) tt) (below x ys all.1)

  pub IsInOrder-rising : (rows : List X) → AreRising rows → IsInOrder R key rows
  IsInOrder-rising [] up = tt
  IsInOrder-rising (x ∷ xs) up = both _ _ (below x xs up.0) (IsInOrder-rising xs up.1)

-- numbers that are not negative are compared as such
pub int_cmp-pos : (m n : ℕ) → int_cmp (pos m) (pos n) ≡ nat_cmp m n
int_cmp-pos m n = sym (int_cmp_is (pos m) (pos n) (nat_cmp m n) (go (nat_cmp m n) (ranks m n)))
  where
    go : (o : Ordering) → MatchOrdering o (m < n) (m ≡ n) (n < m) → MatchOrdering o (pos m <ℤ pos n) (pos m ≡ pos n) (pos n <ℤ pos m)
    go Less h = record { lt = lt→ltb m n h }
    go Equal h = ap pos h
    go Greater h = record { lt = lt→ltb n m h }
