-- Rows in the order of their keys: what is at a key after a change, and that what is at each key settles the rows.
use Rattle.std.specs.{Cmp.{IsTotalOrder, alike_right, eq_by_cmp_equiv}, List.{list_any, cons_option}, Ordering.{eq_by_cmp}}
use Rattle.std.proofs.Common.{arith, ◌⊎◌, inl, inr, ◌≡◌, List, [], ◌∷◌, Some, None, refl, sym, ap, subst, ◌∙◌, Bool, true, cond, T, ◌||◌, not, Option, filter, filter_map, map, is_some, Ordering, Equal, is_eq, is_lt}
use Rattle.plant_types.{specs.KeyedRows.{row_at, put_row, remove_row, in_order, IsInOrder}, proofs.public.Halves.{both, first, second}}
use Rattle.std.specs.FinMap.Entries.{is_sorted, below_all, put, where_key, find as found, is_sorted-put, is_sorted-where_key, find-put, find-where_key, same_entries}

pub tied : (r : Ordering) (b : Bool) → is_eq r ≡ b → b ≡ true → r ≡ Equal
tied r b e t = grind arith

module _ {K X : Type 0} (R : K → K → Ordering) (key : X → K) where
  abbrev keyed : List X → List (K × X)
  keyed rows = map (λ r. (key r, r)) rows

  row_at-found : (k : K) (rows : List X) → row_at R key k rows ≡ found R k (keyed rows)
  row_at-found k [] = refl
  row_at-found k (r ∷ rows) = ap (cond (eq_by_cmp R k (key r)) (Some r)) (row_at-found k rows)

  unkeyed : (rows : List X) → map (λ e. e.1) (keyed rows) ≡ rows
  unkeyed [] = refl
  unkeyed (r ∷ rows) = ap (λ rs. r ∷ rs) (unkeyed rows)

  keyed-where : (p : K → Bool) (rows : List X) → keyed (filter (λ r. p (key r)) rows) ≡ where_key R p (keyed rows)
  keyed-where p [] = refl
  keyed-where p (r ∷ rows) = grind (arith, keyed-where p rows)

  module _ (o : IsTotalOrder R) (same : (x y : K) → R x y ≡ Equal → x ≡ y) where
    keyed-put : (r : X) (rows : List X) → keyed (put_row R key r rows) ≡ put R (key r) r (keyed rows)
    keyed-put r [] = refl
    keyed-put r (e ∷ es) = grind (arith, keyed-put r es, same (key r) (key e))

    pub row_at-put_row : (q : K) (r : X) (rows : List X)
        → row_at R key q (put_row R key r rows) ≡ cond (eq_by_cmp R q (key r)) (Some r) (row_at R key q rows)
    row_at-put_row q r rows =
        row_at-found q _ ∙ ap (found R q) (keyed-put r rows) ∙ find-put R o q (key r) r (keyed rows)
        ∙ ap (cond (eq_by_cmp R q (key r)) (Some r)) (sym (row_at-found q rows))

    pub IsInOrder-put_row : (r : X) (rows : List X) → IsInOrder R key rows → IsInOrder R key (put_row R key r rows)
    IsInOrder-put_row r rows h = subst (λ es. T (is_sorted R es)) (sym (keyed-put r rows)) (is_sorted-put R o (key r) r (keyed rows) h)

    turned : {A : Type 0} (b : Bool) (x y : A) → cond (not b) x y ≡ cond b y x
    turned b x y = grind arith

    pub row_at-remove_row : (q k : K) (rows : List X) → row_at R key q (remove_row R key k rows) ≡ cond (eq_by_cmp R q k) None (row_at R key q rows)
    row_at-remove_row q k rows =
        row_at-found q _ ∙ ap (found R q) (keyed-where (λ x. not (eq_by_cmp R k x)) rows)
        ∙ find-where_key R (λ x. not (eq_by_cmp R k x)) q (λ x t. ap (λ r. not (is_eq r)) (sym (alike_right o q x k t))) (keyed rows)
        ∙ turned (eq_by_cmp R k q) _ _ ∙ ap (λ b. cond b None (found R q (keyed rows))) ((eq_by_cmp_equiv o).symm k q)
        ∙ ap (cond (eq_by_cmp R q k) None) (sym (row_at-found q rows))

    pub IsInOrder-remove_row : (k : K) (rows : List X) → IsInOrder R key rows → IsInOrder R key (remove_row R key k rows)
    IsInOrder-remove_row k rows h =
        subst (λ es. T (is_sorted R es)) (sym (keyed-where (λ x. not (eq_by_cmp R k x)) rows))
        (is_sorted-where_key R (λ x. not (eq_by_cmp R k x)) (keyed rows) h)

    -- rows in order with the same at each key are the same
    pub same_rows : (xs ys : List X) → IsInOrder R key xs → IsInOrder R key ys → ((q : K) → row_at R key q xs ≡ row_at R key q ys) → xs ≡ ys
    same_rows xs ys g h is =
        sym (unkeyed xs)
        ∙ ap (map (λ e. e.1)) (same_entries R o same (keyed xs) (keyed ys) g h (λ q. sym (row_at-found q xs) ∙ is q ∙ row_at-found q ys))
        ∙ unkeyed ys

    -- rows from their keys, where a key's row has that key
    module _ (row : K → Option X) (at_key : (k : K) (r : X) → row k ≡ Some r → key r ≡ k) where
      pub row_at-told : (q : K) (ks : List K) → row_at R key q (filter_map row ks) ≡ cond (is_some (row_at R (λ k. k) q ks)) (row q) None
      row_at-told q [] = refl
      row_at-told q (k ∷ ks) =
          let here : eq_by_cmp R q k ≡ true → row q ≡ row k = λ t. ap row (same q k (tied _ _ t refl)) in
          grind (arith, row_at-told q ks, here, at_key k)

      below_told : (x : K) (ks : List K) → T (below_all R x (map (λ k. (k, k)) ks)) → T (below_all R x (keyed (filter_map row ks)))
      below_told x [] h = tt
      below_told x (k ∷ ks) h =
          let rest = below_told x ks (second _ _ h) in
          elim (row k) as (λ o. row k ≡ o → T (below_all R x (keyed (cons_option o (filter_map row ks))))) [
            | None ↦ λ none. rest
            | Some r ↦ λ some. both _ _ (subst (λ y. T (is_lt (R x y))) (sym (at_key k r some)) (first _ _ h)) rest
          ] refl

      pub IsInOrder-told : (ks : List K) → IsInOrder R (λ k. k) ks → IsInOrder R key (filter_map row ks)
      IsInOrder-told [] h = tt
      IsInOrder-told (k ∷ ks) h =
          let rest = IsInOrder-told ks (second _ _ h) in
          elim (row k) as (λ o. row k ≡ o → T (is_sorted R (keyed (cons_option o (filter_map row ks))))) [
            | None ↦ λ none. rest
            | Some r ↦ λ some. both _ _
                (subst (λ y. T (below_all R y (keyed (filter_map row ks)))) (sym (at_key k r some)) (below_told k ks (first _ _ h))) rest
          ] refl

module _ {K : Type 0} (R : K → K → Ordering) (o : IsTotalOrder R) (same : (x y : K) → R x y ≡ Equal → x ≡ y) where
  IsInOrder-in_order : (ks : List K) → IsInOrder R (λ k. k) (in_order R ks)
  IsInOrder-in_order [] = tt
  IsInOrder-in_order (k ∷ ks) = IsInOrder-put_row R (λ k. k) o same k (in_order R ks) (IsInOrder-in_order ks)

  is_some-cond : (b : Bool) (k : K) (x : Option K) → is_some (cond b (Some k) x) ≡ (b || is_some x)
  is_some-cond b k x = grind arith

  pub row_at-in_order : (q : K) (ks : List K) → is_some (row_at R (λ k. k) q (in_order R ks)) ≡ list_any (eq_by_cmp R q) ks
  row_at-in_order q [] = refl
  row_at-in_order q (k ∷ ks) =
      ap is_some (row_at-put_row R (λ k. k) o same q k (in_order R ks)) ∙ is_some-cond (eq_by_cmp R q k) k _
      ∙ ap (λ b. eq_by_cmp R q k || b) (row_at-in_order q ks)

-- a function gives the rows of these keys: its rows have their keys, and it has none at other keys
pub record Tells {K X : Type 0} (R : K → K → Ordering) (key : X → K) (row : K → Option X) (ks : List K) : Type 0 where
  pub order : IsTotalOrder R
  pub same : (x y : K) → R x y ≡ Equal → x ≡ y
  pub at_key : (k : K) (r : X) → row k ≡ Some r → key r ≡ k
  pub among : (q : K) → (row q ≡ None) ⊎ (list_any (eq_by_cmp R q) ks ≡ true)

pub settled : {X : Type 0} (a : Bool) (x : Option X) → (x ≡ None) ⊎ (a ≡ true) → cond a x None ≡ x
settled a x (inl none) = grind arith
settled a x (inr t) = grind arith

module _ {K X : Type 0} {R : K → K → Ordering} {key : X → K} where
  pub IsInOrder-rows : (row : K → Option X) (ks : List K) → Tells R key row ks → IsInOrder R key (filter_map row (in_order R ks))
  IsInOrder-rows row ks t = IsInOrder-told R key t.order t.same row t.at_key (in_order R ks) (IsInOrder-in_order R t.order t.same ks)

  -- the row at a key is what the function gives
  pub row_at-rows : (row : K → Option X) (ks : List K) → Tells R key row ks → (q : K) → row_at R key q (filter_map row (in_order R ks)) ≡ row q
  row_at-rows row ks t q =
      row_at-told R key t.order t.same row t.at_key q (in_order R ks)
      ∙ ap (λ b. cond b (row q) None) (row_at-in_order R t.order t.same q ks) ∙ settled _ _ (t.among q)

  pub put-rows : (old new : K → Option X) (ks ks' : List K) (r : X) → Tells R key old ks → Tells R key new ks'
      → ((q : K) → new q ≡ cond (eq_by_cmp R q (key r)) (Some r) (old q))
      → put_row R key r (filter_map old (in_order R ks)) ≡ filter_map new (in_order R ks')
  put-rows old new ks ks' r t u is =
      same_rows R key t.order t.same _ _ (IsInOrder-put_row R key t.order t.same r _ (IsInOrder-rows old ks t)) (IsInOrder-rows new ks' u)
      (λ q. row_at-put_row R key t.order t.same q r _ ∙ ap (cond (eq_by_cmp R q (key r)) (Some r)) (row_at-rows old ks t q) ∙ sym (is q)
      ∙ sym (row_at-rows new ks' u q))

  pub remove-rows : (old new : K → Option X) (ks ks' : List K) (k : K) → Tells R key old ks → Tells R key new ks'
      → ((q : K) → new q ≡ cond (eq_by_cmp R q k) None (old q))
      → remove_row R key k (filter_map old (in_order R ks)) ≡ filter_map new (in_order R ks')
  remove-rows old new ks ks' k t u is =
      same_rows R key t.order t.same _ _ (IsInOrder-remove_row R key t.order t.same k _ (IsInOrder-rows old ks t)) (IsInOrder-rows new ks' u)
      (λ q. row_at-remove_row R key t.order t.same q k _ ∙ ap (cond (eq_by_cmp R q k) None) (row_at-rows old ks t q) ∙ sym (is q)
      ∙ sym (row_at-rows new ks' u q))
