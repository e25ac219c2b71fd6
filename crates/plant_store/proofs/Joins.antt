-- An inner join of two tables, in the order of the key of the first and then of the key of the second.
use Rattle.std.specs.{List.{AllByRecursion, list_all}, Ordering.{ordering_then}}
use Rattle.std.proofs.Common.{◌≡◌, ℕ, Bool, true, false, cond, List, [], ◌∷◌, ◌++◌, map, filter, flat_map, refl, ap, ◌∙◌, subst, Less, IsPermutation}
use Rattle.std.proofs.lemmas.{Cmp.{tied_itself}, List.Sorted.{IsPermutation-trans, IsPermutation-map}}
use Rattle.sqlite.specs.{Program.{overlay}, Query.{Query, IsAnswer, Output, output, output_cmp, inner, end}, Tree.{Trees, IsAscending}}
use Rattle.sqlite_keyed.specs.Lists.{sort_by}
use Rattle.sqlite_keyed.proofs.ListLemmas.{all-map, ascending-filter, ascending-map, ascending_weaker, all_weaker, all-flat_map, ascending-append, map-flat_map, map-map, flat_map_same_on, IsPermutation-filter, IsPermutation-flat_map, IsPermutation-flat_map_each}
use Rattle.sqlite_keyed.proofs.SortLemmas.{sorted_unique, IsPermutation-sort_by}
use Rattle.sqlite_sql.{specs.Term.{Term, holds}, proofs.QueryLemmas.{output_cmp_total}}
use Rattle.sqlite_value.specs.{declared.keys.Key.{Key}, Order.{Row}}
use Rattle.plant_store_columns.specs.{Kept.{by_columns, plain_query}, Tidy.{AreApart}}
use Rattle.plant_store_columns.proofs.public.{Keys.{by_columns_total}, Kept.{strict-sort}, Laws.{overlay_none}}

pub picked : {A B : Type 0} (t : A → Bool) (f : A → B) (xs : List A) → flat_map (λ x. cond (t x) (f x ∷ []) []) xs ≡ map f (filter t xs)
picked t f [] = refl
picked t f (x ∷ xs) =
    elim (t x) as (λ b. cond b (f x ∷ []) [] ++ flat_map (λ x. cond (t x) (f x ∷ []) []) xs ≡ map f (cond b (x ∷ filter t xs) (filter t xs))) [
      | true ↦ ap (λ l. f x ∷ l) (picked t f xs)
      | false ↦ picked t f xs
    ]

-- lists that rise one after another, each below the next
pub rising-flat_map : {A B : Type 0} (S : A → A → Type 0) (R : B → B → Type 0) (f : A → List B) → ((a : A) → IsAscending R (f a))
    → ((a b : A) → S a b → AllByRecursion (λ x. AllByRecursion (R x) (f b)) (f a))
    → (xs : List A) → IsAscending S xs → IsAscending R (flat_map f xs)
rising-flat_map S R f inside across [] up = tt
rising-flat_map {A} {B} S R f inside across (x ∷ xs) up =
    ascending-append R (f x) (flat_map f xs) (inside x) (rising-flat_map S R f inside across xs up.1) (far (f x) (λ b h. across x b h) xs up.0)
  where
    far : (l : List B) → ((b : A) → S x b → AllByRecursion (λ y. AllByRecursion (R y) (f b)) l) → (ys : List A) → AllByRecursion (S x) ys
        → AllByRecursion (λ y. AllByRecursion (R y) (flat_map f ys)) l
    far [] h ys all = tt
    far (y ∷ l) h ys all =
        (all-flat_map (R y) f ys (all_weaker _ (λ b. AllByRecursion (R y) (f b)) (λ b s. (h b s).0) ys all), far l (λ b s. (h b s).1) ys all)

-- what is kept passes
pub passing : {X : Type 0} (q : X → Bool) (xs : List X) → AllByRecursion (λ r. q r ≡ true) (filter q xs)
passing q [] = tt
passing q (x ∷ xs) = go (q x) refl (passing q xs)
  where
    go : (b : Bool) → q x ≡ b → AllByRecursion (λ r. q r ≡ true) (filter q xs)
        → AllByRecursion (λ r. q r ≡ true) (cond b (x ∷ filter q xs) (filter q xs))
    go true e more = (e, more)
    go false e more = more

-- what is shown of the pairs that meet
module _ (shown : Row → Row → Output) (meet : Row → Row → Bool) where
  -- a row of the first table, beside each of these that it meets
  abbrev pub met : List Row → Row → List Output
  met us g = map (shown g) (filter (meet g) us)

  pub cells_met : (us gs : List Row)
      → map (λ (o : Output). o.1) (flat_map (met us) gs) ≡ flat_map (λ g. map (λ u. (shown g u).1) (filter (meet g) us)) gs
  cells_met us gs =
      map-flat_map (λ (o : Output). o.1) (met us) gs
      ∙ flat_map_same_on _ (λ g. map (λ u. (shown g u).1) (filter (meet g) us))
      (λ g. map-map (λ (o : Output). o.1) (shown g) (filter (meet g) us)) gs

  -- in the order of the keys, they are the same in another order
  pub met_by_keys : (key others : List ℕ) (gs us : List Row)
      → IsPermutation (flat_map (met (sort_by (by_columns others) us)) (sort_by (by_columns key) gs)) (flat_map (met us) gs)
  met_by_keys key others gs us =
      let vs = sort_by (by_columns others) us in
      IsPermutation-trans _ _ _
      (IsPermutation-flat_map (met vs) (sort_by (by_columns key) gs) gs (IsPermutation-sort_by (by_columns key) (by_columns_total key) gs))
      (IsPermutation-flat_map_each (met vs) (met us)
      (λ g. IsPermutation-map (shown g) (filter (meet g) vs) (filter (meet g) us)
      (IsPermutation-filter (meet g) vs us (IsPermutation-sort_by (by_columns others) (by_columns_total others) us))) gs)

module _ (first second : ℕ) (tests project : List Term) (order : List (Term × Key)) (key others : List ℕ) (params : Row) where
  abbrev pub joined : Query
  joined = plain_query (inner first (inner second end)) tests project order

  abbrev pub meets : Row → Row → Bool
  meets g u = list_all (holds (params ∷ g ∷ u ∷ [])) tests

  abbrev pub pair_shown : Row → Row → Output
  pair_shown g u = output (plain_query (inner first (inner second end)) tests project order) (params ∷ g ∷ u ∷ [])

  shown_each : (us : List Row) (g : Row)
      → map (output (plain_query (inner first (inner second end)) tests project order))
      (flat_map (λ u. cond (meets g u) ((params ∷ g ∷ u ∷ []) ∷ []) []) us) ≡ met pair_shown meets us g
  shown_each us g =
      let q = plain_query (inner first (inner second end)) tests project order in
      ap (map (output q)) (picked (meets g) (λ u. params ∷ g ∷ u ∷ []) us) ∙ map-map (output q) (λ u. params ∷ g ∷ u ∷ []) (filter (meets g) us)

  -- each row of the first table in the order of its key, beside those of the second that it meets in the order of
  -- theirs
  abbrev by_keys : Trees → List Output
  by_keys trees = flat_map (met pair_shown meets (sort_by (by_columns others) (trees second))) (sort_by (by_columns key) (trees first))

  matched : (trees : Trees) (rows : List Row)
      (a : IsAnswer (plain_query (inner first (inner second end)) tests project order) (overlay trees []) params rows)
      → IsPermutation (by_keys trees) a.ordered
  matched trees rows a =
      let q = plain_query (inner first (inner second end)) tests project order in
      let gs = trees first in
      let us = trees second in
      let over = λ (gs us : List Row). flat_map (λ g. flat_map (λ u. cond (meets g u) ((params ∷ g ∷ u ∷ []) ∷ []) []) us) gs in
      let staged = a.grouped ∙ ap (λ gs. over gs (overlay trees [] second)) (overlay_none trees first) ∙ ap (over gs) (overlay_none trees second) in
      let kept : a.kept ≡ flat_map (met pair_shown meets us) gs = a.distinct ∙ ap (map (output q)) staged
      ∙ map-flat_map (output q) (λ g. flat_map (λ u. cond (meets g u) ((params ∷ g ∷ u ∷ []) ∷ []) []) us) gs
      ∙ flat_map_same_on _ (met pair_shown meets us) (shown_each us) gs in
      IsPermutation-trans _ _ _ (met_by_keys pair_shown meets key others gs us) (subst (λ k. IsPermutation k a.ordered) kept a.same)

  -- by the keys of both, it shows them so
  pub joins : ((g h u v : Row)
      → output_cmp (plain_query (inner first (inner second end)) tests project order) (pair_shown g u)
      (pair_shown h v) ≡ ordering_then (by_columns key g h) (by_columns others u v))
      → (trees : Trees) (rows : List Row) → AreApart key (trees first) → AreApart others (trees second)
      → IsAnswer (plain_query (inner first (inner second end)) tests project order) (overlay trees []) params rows
      → rows ≡ flat_map (λ g. map (λ u. (pair_shown g u).1) (filter (meets g) (sort_by (by_columns others) (trees second))))
      (sort_by (by_columns key) (trees first))
  joins agrees trees rows apart lone a =
      let q = plain_query (inner first (inner second end)) tests project order in
      let vs = sort_by (by_columns others) (trees second) in
      let sorted = sort_by (by_columns key) (trees first) in
      let R = λ (a b : Output). output_cmp q a b ≡ Less in
      let rise : IsAscending (λ u v. by_columns others u v ≡ Less) vs =
      strict-sort (by_columns others) (by_columns_total others) (trees second) lone in
      let inside : (g : Row)
      → IsAscending R (met pair_shown meets vs g) =
      λ g. ascending-map R (pair_shown g) (filter (meets g) vs)
      (ascending-filter _ (meets g) vs (ascending_weaker (λ u v. by_columns others u v ≡ Less) (λ u v. R (pair_shown g u) (pair_shown g v))
      (λ u v less. agrees g g u v ∙ ap (λ o. ordering_then o (by_columns others u v)) (tied_itself (by_columns_total key) g) ∙ less) vs rise)) in
      let across : (g h : Row) → by_columns key g h ≡ Less
      → AllByRecursion (λ o. AllByRecursion (R o) (met pair_shown meets vs h)) (met pair_shown meets vs g) =
      λ g h less. all-map (λ o. AllByRecursion (R o) (met pair_shown meets vs h)) (pair_shown g)
      (λ u. all-map (R (pair_shown g u)) (pair_shown h) (λ v. agrees g h u v
      ∙ ap (λ o. ordering_then o (by_columns others u v)) less) (filter (meets h) vs)) (filter (meets g) vs) in
      let strict : IsAscending R (by_keys trees) =
      rising-flat_map (λ g h. by_columns key g h
      ≡ Less) R (met pair_shown meets vs) inside across sorted (strict-sort (by_columns key) (by_columns_total key) (trees first) apart) in
      a.shown ∙ ap (map (λ (o : Output). o.1))
      (sorted_unique (output_cmp q) (output_cmp_total q) (by_keys trees) a.ordered strict (matched trees rows a) a.sorted)
      ∙ cells_met pair_shown meets vs sorted
