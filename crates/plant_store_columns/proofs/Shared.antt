-- A table that all units share, seen by one unit. The unit is the first column of its key.
use Rattle.std.specs.{Cmp.{IsTotalOrder}, List.{AllByRecursion}}
use Rattle.std.proofs.Common.{◌≡◌, ◌≢◌, ℕ, Bool, true, false, List, [], ◌∷◌, ◌++◌, map, filter, refl, sym, ap, ◌∙◌, subst, Ordering, Less, Equal, is_eq}
use Rattle.std.proofs.lemmas.{Bool.{false_from_ne_true}, Cmp.{tied_itself, alike_right}}
use Rattle.sqlite_keyed.proofs.ListLemmas.{all-filter, all-append}
use Rattle.sqlite_value.specs.{Order.{Row, column, value_cmp, bytes}, declared.value.Value.TheVariants.{Text}}
use Rattle.sqlite_value.proofs.OrderLemmas.{value_cmp_total}
use Rattle.plant_store_columns.{specs.{Kept.{taken_out, by_columns, kept, is_of}, Tidy.{AreRows, IsTidy}}, proofs.public.Bridge.{put_is}}
use Rattle.plant_store_columns.proofs.public.Kept.{kept-put, kept-put_other, kept-out, kept-out_other, no_ties-out, no_ties-put, read-put, read-out, strict-sort}
use Rattle.plant_store_columns.proofs.public.Keys.{by_columns_total, same_text, then_tied}
use Rattle.sqlite_trees.specs.Tree.{IsAscending}
use Rattle.plant_types.{specs.KeyedRows.{put_row, remove_row}, proofs.public.{Halves.{left}, KeyedRowLaws.{tied}}}

module _ (ks : List ℕ) where
  abbrev pub cmp : Row → Row → Ordering
  cmp = by_columns (1 ∷ ks)

  -- rows of two units have two keys
  apart_units : (u unit : List ℕ) (x y : Row) → column x 1 ≡ Text u → unit ≢ u → is_of unit y ≡ true → is_eq (by_columns (1 ∷ ks) x y) ≡ false
  apart_units u unit x y at other h = false_from_ne_true _ (λ tie.
      let first : value_cmp (column x 1) (column y 1) ≡ Equal =
      tied _ _ (left _ _ (sym (then_tied (value_cmp (column x 1) (column y 1)) (by_columns ks x y)) ∙ tie)) refl in
      let next : value_cmp (column x 1) (Text unit) ≡ Equal =
      sym (alike_right value_cmp_total (column y 1) (Text unit) (column x 1) (tied _ _ h refl)) ∙ first in
      other (sym (same_text u unit (ap is_eq (subst (λ v. value_cmp v (Text unit) ≡ Equal) at next)))))

  not_of : (u unit : List ℕ) (x : Row) → column x 1 ≡ Text u → unit ≢ u → is_of unit x ≡ false
  not_of u unit x at other = false_from_ne_true _ (λ h. other (sym (same_text u unit (subst (λ v. is_eq (value_cmp v (Text unit)) ≡ true) at h))))

  is_its : (u : List ℕ) (x : Row) → column x 1 ≡ Text u → is_of u x ≡ true
  is_its u x at = ap (λ v. is_eq (value_cmp v (Text u))) at ∙ ap is_eq (tied_itself value_cmp_total (Text u))

  module _ (Wf : Row → Type 0) where
    pub tidy-put : (x : Row) (rows : List Row) → Wf x → IsTidy Wf (1 ∷ ks) rows → AreRows (taken_out (by_columns (1 ∷ ks)) x rows ++ x ∷ [])
        → IsTidy Wf (1 ∷ ks) (taken_out (by_columns (1 ∷ ks)) x rows ++ x ∷ [])
    tidy-put x rows h tidy are = record {
      are = are;
      each = all-append Wf _ (x ∷ []) (all-filter Wf _ rows tidy.each) (h, tt);
      apart = no_ties-put (by_columns (1 ∷ ks)) (by_columns_total (1 ∷ ks)) x rows tidy.apart;
    }

    pub tidy-out : (x : Row) (rows : List Row) → IsTidy Wf (1 ∷ ks) rows → AreRows (taken_out (by_columns (1 ∷ ks)) x rows)
        → IsTidy Wf (1 ∷ ks) (taken_out (by_columns (1 ∷ ks)) x rows)
    tidy-out x rows tidy are = record {
      are = are;
      each = all-filter Wf _ rows tidy.each;
      apart = no_ties-out (by_columns (1 ∷ ks)) (by_columns_total (1 ∷ ks)) _ rows tidy.apart;
    }

    -- the table read as typed rows of one unit, in the order of a key that the unit is no part of
    module _ {K X : Type 0} (R : K → K → Ordering) (total : IsTotalOrder R) (key : X → K) (read : Row → X)
        (has_unit : (r : Row) → Wf r → column r 1 ≡ Text (bytes (column r 1)))
        (agrees : (a b : Row) → Wf a → Wf b → R (key (read a)) (key (read b)) ≡ by_columns ks a b) where
      abbrev pub content : List ℕ → List Row → List X
      content unit rows = map read (kept (by_columns (1 ∷ ks)) (is_of unit) rows)

      abbrev IsOf : List ℕ → Row → Type 0
      IsOf u r = Wf r × (column r 1 ≡ Text u)

      its_unit : (u : List ℕ) (r : Row) → Wf r → is_of u r ≡ true → column r 1 ≡ Text u
      its_unit u r h is = has_unit r h
          ∙ ap Text (same_text (bytes (column r 1)) u (subst (λ v. is_eq (value_cmp v (Text u)) ≡ true) (has_unit r h) is))

      of_unit : (u : List ℕ) (rows : List Row) → AllByRecursion Wf rows → AllByRecursion (λ r. Wf r × (column r 1 ≡ Text u)) (filter (is_of u) rows)
      of_unit u [] all = tt
      of_unit u (r ∷ rows) all = go (is_of u r) refl (of_unit u rows all.1)
        where
          go : (b : Bool) → is_of u r ≡ b → AllByRecursion (λ r. Wf r × (column r 1 ≡ Text u)) (filter (is_of u) rows)
              → AllByRecursion (λ r. Wf r × (column r 1 ≡ Text u))
              (Rattle.std.proofs.Common.cond b (r ∷ filter (is_of u) rows) (filter (is_of u) rows))
          go true e more = ((all.0, its_unit u r all.0 e), more)
          go false e more = more

      pub agrees_in : (u : List ℕ) (a b : Row) → Wf a × (column a 1 ≡ Text u) → Wf b × (column b 1 ≡ Text u)
          → R (key (read a)) (key (read b)) ≡ by_columns (1 ∷ ks) a b
      agrees_in u a b p q =
          let tie : value_cmp (column a 1) (column b 1) ≡ Equal = Rattle.std.proofs.Common.ap₂ value_cmp p.1 q.1
          ∙ tied_itself value_cmp_total (Text u) in
          agrees a b p.0 q.0 ∙ sym (ap (λ o. Rattle.std.specs.Ordering.ordering_then o (by_columns ks a b)) tie)

      all_of : (u : List ℕ) (rows : List Row) → AllByRecursion Wf rows
          → AllByRecursion (λ r. Wf r × (column r 1 ≡ Text u)) (kept (by_columns (1 ∷ ks)) (is_of u) rows)
      all_of u rows all =
          Rattle.plant_store_columns.proofs.public.Kept.all-sort (by_columns (1 ∷ ks)) (by_columns_total (1 ∷ ks)) (λ r. Wf r × (column r 1 ≡ Text u))
          (filter (is_of u) rows) (of_unit u rows all)

      rise : (u : List ℕ) (rows : List Row) → AllByRecursion (λ r. Wf r × (column r 1 ≡ Text u)) rows
          → IsAscending (λ a b. by_columns (1 ∷ ks) a b ≡ Less) rows → IsAscending (λ a b. R (key a) (key b) ≡ Less) (map read rows)
      rise u [] all up = tt
      rise u (r ∷ rows) all up = (above rows all.1 up.0, rise u rows all.1 up.1)
        where
          above : (l : List Row) → AllByRecursion (λ r. Wf r × (column r 1 ≡ Text u)) l → AllByRecursion (λ b. by_columns (1 ∷ ks) r b ≡ Less) l
              → AllByRecursion (λ b. R (key (read r)) (key b) ≡ Less) (map read l)
          above [] ok less = tt
          above (x ∷ l) ok less = (agrees_in u r x all.0 ok.0 ∙ less.0, above l ok.1 less.1)

      -- a unit's rows are in the order of their keys
      pub rising : (u : List ℕ) (rows : List Row) → IsTidy Wf (1 ∷ ks) rows → IsAscending (λ a b. R (key a) (key b) ≡ Less) (content u rows)
      rising u rows tidy =
          rise u _ (all_of u rows tidy.each)
          (strict-sort (by_columns (1 ∷ ks)) (by_columns_total (1
          ∷ ks)) (filter (is_of u) rows) (no_ties-out (by_columns (1 ∷ ks)) (by_columns_total (1 ∷ ks)) (is_of u) rows tidy.apart))

      pub put_mine : (u : List ℕ) (x : Row) (rows : List Row) → column x 1 ≡ Text u → Wf x → IsTidy Wf (1 ∷ ks) rows
          → content u (taken_out (by_columns (1 ∷ ks)) x rows ++ x ∷ []) ≡ put_row R key (read x) (content u rows)
      put_mine u x rows at h tidy =
          ap (map read) (kept-put (by_columns (1 ∷ ks)) (by_columns_total (1 ∷ ks)) (is_of u) x rows (is_its u x at))
          ∙ read-put (by_columns (1 ∷ ks)) (by_columns_total (1 ∷ ks)) (λ a b. R (key a) (key b)) read (λ r. Wf r × (column r 1 ≡ Text u))
          (agrees_in u) x _ (h, at) (all_of u rows tidy.each)
          ∙ put_is R key total (read x) (content u rows) (rising u rows tidy)

      pub put_other : (u unit : List ℕ) (x : Row) (rows : List Row) → column x 1 ≡ Text u → unit ≢ u
          → content unit (taken_out (by_columns (1 ∷ ks)) x rows ++ x ∷ []) ≡ content unit rows
      put_other u unit x rows at other =
          ap (map read)
          (kept-put_other (by_columns (1 ∷ ks)) (by_columns_total (1
          ∷ ks)) (is_of unit) x rows (not_of u unit x at other) (λ y. apart_units u unit x y at other))

      pub out_mine : (u : List ℕ) (x : Row) (rows : List Row) → column x 1 ≡ Text u → Wf x → IsTidy Wf (1 ∷ ks) rows
          → content u (taken_out (by_columns (1 ∷ ks)) x rows) ≡ remove_row R key (key (read x)) (content u rows)
      out_mine u x rows at h tidy =
          ap (map read) (kept-out (by_columns (1 ∷ ks)) (by_columns_total (1 ∷ ks)) (is_of u) x rows)
          ∙ read-out (by_columns (1 ∷ ks)) (by_columns_total (1 ∷ ks)) (λ a b. R (key a) (key b)) read (λ r. Wf r × (column r 1 ≡ Text u))
          (agrees_in u) x _ (h, at) (all_of u rows tidy.each)

      pub out_other : (u unit : List ℕ) (x : Row) (rows : List Row) → column x 1 ≡ Text u → unit ≢ u
          → content unit (taken_out (by_columns (1 ∷ ks)) x rows) ≡ content unit rows
      out_other u unit x rows at other =
          ap (map read) (kept-out_other (by_columns (1 ∷ ks)) (by_columns_total (1 ∷ ks)) (is_of unit) x rows (λ y. apart_units u unit x y at other))
