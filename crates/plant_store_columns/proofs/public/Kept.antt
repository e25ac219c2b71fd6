-- A table as it lies, in the order of its rowids, against the same in the order of its keys.
use Rattle.std.specs.{Cmp.{IsTotalOrder, eq_by_cmp_equiv}, List.{AllByRecursion}, Ordering.{ordering_reverse}}
use Rattle.std.proofs.Common.{◌≡◌, ◌&&◌, Bool, true, false, not, cond, List, [], ◌∷◌, ◌++◌, filter, map, refl, sym, ap, ◌∙◌, Ordering, Less, Equal}
use Rattle.std.proofs.Common.{Greater, is_gt, is_eq, true≢false}
use Rattle.std.proofs.lemmas.{Cmp.{upto}, List.Elements.{filter-append}}
use Rattle.sqlite_catalog.proofs.ListFacts.{filter_swap}
use Rattle.sqlite_trees.specs.Tree.{IsAscending}
use Rattle.sqlite_keyed.{specs.Lists.{insert_sorted, sort_by}, proofs.ListLemmas.{all_weaker, all-filter, ascending-filter}}
use Rattle.plant_store_columns.specs.Kept.{taken_out, put_in, kept}

-- those that pass both of two tests
pub filter_and : {X : Type 0} (p q : X → Bool) (xs : List X) → filter (λ x. p x && q x) xs ≡ filter q (filter p xs)
filter_and p q [] = refl
filter_and p q (x ∷ xs) =
    elim (p x) as (λ b. cond (b && q x) (x ∷ filter (λ x. p x && q x) xs) (filter (λ x. p x && q x) xs)
    ≡ filter q (cond b (x ∷ filter p xs) (filter p xs))) [
      | true ↦ ap (λ l. cond (q x) (x ∷ l) l) (filter_and p q xs)
      | false ↦ filter_and p q xs
    ]

module _ {X : Type 0} (cmp : X → X → Ordering) (total : IsTotalOrder cmp) where
  abbrev pub AtMost : X → X → Type 0
  AtMost a b = is_gt (cmp a b) ≡ false

  -- no two have one key
  abbrev pub HasNoTies : List X → Type 0
  HasNoTies = IsAscending (λ a b. is_eq (cmp a b) ≡ false)

  over : (a b : X) → is_gt (cmp a b) ≡ true → is_gt (cmp b a) ≡ false
  over a b h =
      rw (total.antisymm b a)
      (elim (cmp a b) as (λ o. is_gt o ≡ true → is_gt (ordering_reverse o) ≡ false) [ Less ↦ λ e. sym e | Equal ↦ λ e. refl | Greater ↦ λ e. refl ] h)

  under : (a b : X) → is_gt (cmp a b) ≡ false → is_eq (cmp a b) ≡ false → is_gt (cmp b a) ≡ true
  under a b h k =
      rw (total.antisymm b a)
      (elim (cmp a b) as (λ o. is_gt o ≡ false → is_eq o ≡ false
      → is_gt (ordering_reverse o) ≡ true) [ Less ↦ λ e f. refl | Equal ↦ λ e f. sym f | Greater ↦ λ e f. sym e ] h k)

  pub all-insert : (P : X → Type 0) (new : X) (xs : List X) → P new → AllByRecursion P xs → AllByRecursion P (insert_sorted cmp new xs)
  all-insert P new [] h all = (h, tt)
  all-insert P new (x ∷ xs) h all =
      elim (is_gt (cmp new x)) as (λ b. AllByRecursion P (cond b (x ∷ insert_sorted cmp new xs) (new ∷ x
      ∷ xs))) [ true ↦ (all.0, all-insert P new xs h all.1) | false ↦ (h, all) ]

  rises-insert : (new : X) (xs : List X) → IsAscending AtMost xs → IsAscending AtMost (insert_sorted cmp new xs)
  rises-insert new [] up = (tt, tt)
  rises-insert new (x ∷ xs) up = go (is_gt (cmp new x)) refl (rises-insert new xs up.1)
    where
      go : (b : Bool) → is_gt (cmp new x) ≡ b → IsAscending AtMost (insert_sorted cmp new xs)
          → IsAscending AtMost (cond b (x ∷ insert_sorted cmp new xs) (new ∷ x ∷ xs))
      go true e more = (all-insert (AtMost x) new xs (over new x e) up.0, more)
      go false e more = ((e, all_weaker _ (AtMost new) (λ y. upto total new x y e) xs up.0), up)

  rises-sort : (xs : List X) → IsAscending AtMost (sort_by cmp xs)
  rises-sort [] = tt
  rises-sort (x ∷ xs) = rises-insert x _ (rises-sort xs)

  at_head : (x : X) (xs : List X) → AllByRecursion (AtMost x) xs → insert_sorted cmp x xs ≡ x ∷ xs
  at_head x [] all = refl
  at_head x (y ∷ ys) all = rw all.0 refl

  module _ (p : X → Bool) where
    filter-insert : (x : X) (xs : List X) → IsAscending AtMost xs → p x ≡ true → filter p (insert_sorted cmp x xs) ≡ insert_sorted cmp x (filter p xs)
    filter-insert x [] up h = rw h refl
    filter-insert x (y ∷ ys) up h = go (is_gt (cmp x y)) (p y) refl refl (filter-insert x ys up.1 h)
      where
        go : (b c : Bool) → is_gt (cmp x y) ≡ b → p y ≡ c → filter p (insert_sorted cmp x ys) ≡ insert_sorted cmp x (filter p ys)
            → filter p (cond b (y ∷ insert_sorted cmp x ys) (x ∷ y ∷ ys)) ≡ insert_sorted cmp x (filter p (y ∷ ys))
        go true true e f more = rw (f, e) (ap (λ l. y ∷ l) more)
        go true false e f more = rw f more
        go false true e f more = rw (h, f, e) refl
        go false false e f more =
            let up_y : AllByRecursion (AtMost x) ys = all_weaker _ (AtMost x) (λ z. upto total x y z e) ys up.0 in
            rw (h, f) (sym (at_head x (filter p ys) (all-filter (AtMost x) p ys up_y)))

    drops-insert : (x : X) (xs : List X) → p x ≡ false → filter p (insert_sorted cmp x xs) ≡ filter p xs
    drops-insert x [] h = rw h refl
    drops-insert x (y ∷ ys) h = go (is_gt (cmp x y)) (drops-insert x ys h)
      where
        go : (b : Bool) → filter p (insert_sorted cmp x ys) ≡ filter p ys
            → filter p (cond b (y ∷ insert_sorted cmp x ys) (x ∷ y ∷ ys)) ≡ filter p (y ∷ ys)
        go true more =
            elim (p y) as (λ c. cond c (y ∷ filter p (insert_sorted cmp x ys)) (filter p (insert_sorted cmp x ys))
            ≡ cond c (y ∷ filter p ys) (filter p ys)) [ true ↦ ap (λ l. y ∷ l) more | false ↦ more ]
        go false more = rw h refl

    -- sorting what passes is what passes of the sorted
    pub sort-filter : (xs : List X) → sort_by cmp (filter p xs) ≡ filter p (sort_by cmp xs)
    sort-filter [] = refl
    sort-filter (x ∷ xs) = go (p x) refl (sort-filter xs)
      where
        go : (b : Bool) → p x ≡ b → sort_by cmp (filter p xs) ≡ filter p (sort_by cmp xs)
            → sort_by cmp (cond b (x ∷ filter p xs) (filter p xs)) ≡ filter p (insert_sorted cmp x (sort_by cmp xs))
        go true e more = ap (insert_sorted cmp x) more ∙ sym (filter-insert x _ (rises-sort xs) e)
        go false e more = more ∙ sym (drops-insert x _ e)

  -- two that do not tie may go in in either order
  either_order : (x z : X) (l : List X) → is_eq (cmp x z) ≡ false
      → insert_sorted cmp z (insert_sorted cmp x l) ≡ insert_sorted cmp x (insert_sorted cmp z l)
  either_order x z [] apart = go (is_gt (cmp x z)) refl
    where
      go : (b : Bool) → is_gt (cmp x z) ≡ b → insert_sorted cmp z (x ∷ []) ≡ cond b (z ∷ x ∷ []) (x ∷ z ∷ [])
      go true e = rw (over x z e) refl
      go false e = rw (under x z e apart) refl
  either_order x z (y ∷ l) apart = go (is_gt (cmp x y)) (is_gt (cmp z y)) (is_gt (cmp x z)) refl refl refl (either_order x z l apart)
    where
      go : (b c d : Bool) → is_gt (cmp x y) ≡ b → is_gt (cmp z y) ≡ c → is_gt (cmp x z) ≡ d
          → insert_sorted cmp z (insert_sorted cmp x l) ≡ insert_sorted cmp x (insert_sorted cmp z l)
          → insert_sorted cmp z (cond b (y ∷ insert_sorted cmp x l) (x ∷ y ∷ l))
          ≡ insert_sorted cmp x (cond c (y ∷ insert_sorted cmp z l) (z ∷ y ∷ l))
      go true true d e f g more = rw (e, f) (ap (λ t. y ∷ t) more)
      go true false true e f g more = rw (f, g, e) refl
      go true false false e f g more = absurd (true≢false (sym e ∙ upto total x z y g f))
      go false true true e f g more = absurd (true≢false (sym f ∙ upto total z x y (over x z g) e))
      go false true false e f g more = rw (under x z g apart, f, e) refl
      go false false true e f g more = rw (over x z g, g, e) refl
      go false false false e f g more = rw (under x z g apart, f, g) refl

  pub sort_push : (x : X) (xs : List X) → AllByRecursion (λ z. is_eq (cmp x z) ≡ false) xs
      → sort_by cmp (xs ++ x ∷ []) ≡ insert_sorted cmp x (sort_by cmp xs)
  sort_push x [] all = refl
  sort_push x (z ∷ xs) all = ap (insert_sorted cmp z) (sort_push x xs all.1) ∙ either_order x z (sort_by cmp xs) all.0

  pub apart_from : (x : X) (xs : List X) → AllByRecursion (λ z. is_eq (cmp x z) ≡ false) (taken_out cmp x xs)
  apart_from x [] = tt
  apart_from x (y ∷ ys) = go (is_eq (cmp x y)) refl (apart_from x ys)
    where
      go : (b : Bool) → is_eq (cmp x y) ≡ b → AllByRecursion (λ z. is_eq (cmp x z) ≡ false) (taken_out cmp x ys)
          → AllByRecursion (λ z. is_eq (cmp x z) ≡ false) (cond (not b) (y ∷ taken_out cmp x ys) (taken_out cmp x ys))
      go true e more = more
      go false e more = (e, more)

  none_out : (p : X → Bool) (x : X) → ((y : X) → p y ≡ true → is_eq (cmp x y) ≡ false) → (xs : List X) → filter p (taken_out cmp x xs) ≡ filter p xs
  none_out p x apart [] = refl
  none_out p x apart (y ∷ ys) = go (p y) (is_eq (cmp x y)) refl refl (none_out p x apart ys)
    where
      go : (b c : Bool) → p y ≡ b → is_eq (cmp x y) ≡ c → filter p (taken_out cmp x ys) ≡ filter p ys
          → filter p (cond (not c) (y ∷ taken_out cmp x ys) (taken_out cmp x ys)) ≡ cond b (y ∷ filter p ys) (filter p ys)
      go true true e f more = absurd (true≢false (sym f ∙ apart y e))
      go true false e f more = rw e (ap (λ l. y ∷ l) more)
      go false true e f more = more
      go false false e f more = rw e more

  -- ---- the four laws of a table that all units share

  pub kept-put : (p : X → Bool) (x : X) (xs : List X) → p x ≡ true → kept cmp p (taken_out cmp x xs ++ x ∷ []) ≡ put_in cmp x (kept cmp p xs)
  kept-put p x xs h =
      let tail : filter p (taken_out cmp x xs ++ x ∷ []) ≡ filter p (taken_out cmp x xs) ++ x ∷ [] = filter-append p (taken_out cmp x xs) (x ∷ [])
      ∙ ap (λ b. filter p (taken_out cmp x xs) ++ cond b (x ∷ []) []) h in
      ap (sort_by cmp) tail
      ∙ sort_push x (filter p (taken_out cmp x xs)) (all-filter _ p _ (apart_from x xs))
      ∙ ap (insert_sorted cmp x)
      (ap (sort_by cmp) (filter_swap p (λ y. not (is_eq (cmp x y))) xs) ∙ sort-filter (λ y. not (is_eq (cmp x y))) (filter p xs))

  pub kept-put_other : (p : X → Bool) (x : X) (xs : List X) → p x ≡ false → ((y : X) → p y ≡ true → is_eq (cmp x y) ≡ false)
      → kept cmp p (taken_out cmp x xs ++ x ∷ []) ≡ kept cmp p xs
  kept-put_other p x xs h apart =
      ap (sort_by cmp)
      (filter-append p (taken_out cmp x xs) (x ∷ []) ∙ ap (λ b. filter p (taken_out cmp x xs) ++ cond b (x ∷ []) []) h
      ∙ Rattle.std.proofs.Common.append-nil _ ∙ none_out p x apart xs)

  pub kept-out : (p : X → Bool) (x : X) (xs : List X) → kept cmp p (taken_out cmp x xs) ≡ taken_out cmp x (kept cmp p xs)
  kept-out p x xs = ap (sort_by cmp) (filter_swap p (λ y. not (is_eq (cmp x y))) xs) ∙ sort-filter (λ y. not (is_eq (cmp x y))) (filter p xs)

  pub kept-out_other : (p : X → Bool) (x : X) (xs : List X) → ((y : X) → p y ≡ true → is_eq (cmp x y) ≡ false)
      → kept cmp p (taken_out cmp x xs) ≡ kept cmp p xs
  kept-out_other p x xs apart = ap (sort_by cmp) (none_out p x apart xs)

  -- ---- no two rows come to have one key

  pub no_ties-out : (p : X → Bool) (xs : List X) → HasNoTies xs → HasNoTies (filter p xs)
  no_ties-out p xs apart = ascending-filter _ p xs apart

  pub tied_turns : (x z : X) → is_eq (cmp x z) ≡ false → is_eq (cmp z x) ≡ false
  tied_turns x z h = (eq_by_cmp_equiv total).symm z x ∙ h

  push_apart : (x : X) (xs : List X) → AllByRecursion (λ z. is_eq (cmp x z) ≡ false) xs → HasNoTies xs → HasNoTies (xs ++ x ∷ [])
  push_apart x [] all apart = (tt, tt)
  push_apart x (z ∷ xs) all apart =
      (Rattle.sqlite_keyed.proofs.ListLemmas.all-append _ xs (x ∷ []) apart.0 (tied_turns x z all.0, tt), push_apart x xs all.1 apart.1)

  pub no_ties-put : (x : X) (xs : List X) → HasNoTies xs → HasNoTies (taken_out cmp x xs ++ x ∷ [])
  no_ties-put x xs apart = push_apart x (taken_out cmp x xs) (apart_from x xs) (no_ties-out _ xs apart)

  pub all-sort : (P : X → Type 0) (xs : List X) → AllByRecursion P xs → AllByRecursion P (sort_by cmp xs)
  all-sort P [] all = tt
  all-sort P (x ∷ xs) all = all-insert P x _ all.0 (all-sort P xs all.1)

  pub all-kept : (P : X → Type 0) (p : X → Bool) (xs : List X) → AllByRecursion P xs → AllByRecursion P (kept cmp p xs)
  all-kept P p xs all = all-sort P _ (all-filter P p xs all)

  -- rows of which no two have one key rise once they are sorted
  strict-insert : (new : X) (xs : List X) → AllByRecursion (λ y. is_eq (cmp new y) ≡ false) xs → IsAscending (λ a b. cmp a b ≡ Less) xs
      → IsAscending (λ a b. cmp a b ≡ Less) (insert_sorted cmp new xs)
  strict-insert new [] apart up = (tt, tt)
  strict-insert new (x ∷ xs) apart up = go (cmp new x) refl (strict-insert new xs apart.1 up.1)
    where
      go : (o : Ordering) → cmp new x ≡ o → IsAscending (λ a b. cmp a b ≡ Less) (insert_sorted cmp new xs)
          → IsAscending (λ a b. cmp a b ≡ Less) (cond (is_gt o) (x ∷ insert_sorted cmp new xs) (new ∷ x ∷ xs))
      go Less e more = ((e, all_weaker _ (λ y. cmp new y ≡ Less) (λ y. total.trans new x y e) xs up.0), up)
      go Equal e more = absurd (true≢false (sym (ap is_eq e) ∙ apart.0))
      go Greater e more = (all-insert (λ y. cmp x y ≡ Less) new xs (total.antisymm x new ∙ ap ordering_reverse e) up.0, more)

  pub strict-sort : (xs : List X) → IsAscending (λ a b. is_eq (cmp a b) ≡ false) xs → IsAscending (λ a b. cmp a b ≡ Less) (sort_by cmp xs)
  strict-sort [] apart = tt
  strict-sort (x ∷ xs) apart = strict-insert x _ (all-sort _ xs apart.0) (strict-sort xs apart.1)

-- ---- the same, read as values of another type

module _ {X Y : Type 0} (cmp : X → X → Ordering) (total : IsTotalOrder cmp) (order : Y → Y → Ordering) (read : X → Y) (Wf : X → Type 0)
    (agrees : (a b : X) → Wf a → Wf b → order (read a) (read b) ≡ cmp a b) where
  read-insert : (x : X) (xs : List X) → Wf x → AllByRecursion Wf xs → map read (insert_sorted cmp x xs) ≡ insert_sorted order (read x) (map read xs)
  read-insert x [] h all = refl
  read-insert x (y ∷ ys) h all =
      rw (agrees x y h all.0)
      (elim (is_gt (cmp x y)) as (λ b. map read (cond b (y ∷ insert_sorted cmp x ys) (x ∷ y ∷ ys))
      ≡ cond b (read y ∷ insert_sorted order (read x) (map read ys)) (read x ∷ read y ∷ map read ys))
      [ true ↦ ap (λ l. read y ∷ l) (read-insert x ys h all.1) | false ↦ refl ])

  pub read-out : (x : X) (xs : List X) → Wf x → AllByRecursion Wf xs → map read (taken_out cmp x xs) ≡ taken_out order (read x) (map read xs)
  read-out x [] h all = refl
  read-out x (y ∷ ys) h all =
      rw (agrees x y h all.0)
      (elim (is_eq (cmp x y)) as (λ b. map read (cond (not b) (y ∷ taken_out cmp x ys) (taken_out cmp x ys))
      ≡ cond (not b) (read y ∷ taken_out order (read x) (map read ys)) (taken_out order (read x) (map read ys)))
      [ true ↦ read-out x ys h all.1 | false ↦ ap (λ l. read y ∷ l) (read-out x ys h all.1) ])

  pub read-put : (x : X) (xs : List X) → Wf x → AllByRecursion Wf xs → map read (put_in cmp x xs) ≡ put_in order (read x) (map read xs)
  read-put x xs h all = read-insert x (taken_out cmp x xs) h (all-filter Wf _ xs all) ∙ ap (insert_sorted order (read x)) (read-out x xs h all)
