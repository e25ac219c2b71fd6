-- The laws of a table that is written by its key and read in the order of its key, whatever the table.
use Rattle.std.specs.List.{list_all}
use Rattle.std.proofs.Common.{◌≡◌, ℕ, ℤ, ◌-◌, ◌^◌, nat_le, unwrap_or, Bool, true, false, not, cond, List, [], ◌∷◌, ◌++◌, map, filter, flat_map, refl, sym, ap, ◌∙◌, subst, Ordering, is_eq, IsPermutation, IsSorted, None, slice_get}
use Rattle.std.proofs.lemmas.List.Sorted.{Contains-permutation, IsPermutation-sym}
use Rattle.sqlite.specs.{Cast.{cast}, Effect.{Database}, Kind.TheVariants.{Integer}, Program.{overlay, given_at}}
use Rattle.sqlite.specs.{Query.{IsAnswer, Output, output, output_cmp, inner, end}, Tree.{Trees, rowid}}
use Rattle.sqlite_keyed.{specs.Lists.{sort_by}, proofs.ListLemmas.{all-filter, ascending-filter, ascending-map, map-map}}
use Rattle.sqlite_keyed.proofs.SortLemmas.{sorted_is-sort_by, sort_by-map}
use Rattle.sqlite_rules.{specs.Lists.{Has}, proofs.{ListLemmas.{has_filtered, has_kept, has_contained, contains_had}, ProbeLemmas.{has_mapped}}}
use Rattle.sqlite_rules.proofs.ProbeLemmas.{mapped_has}
use Rattle.sqlite_schema.specs.declared.schema.Column.{Column}
use Rattle.sqlite_sql.{specs.{Ops.{unary}, Term.{Term, holds}}, proofs.QueryLemmas.{output_cmp_total}}
use Rattle.sqlite_value.specs.{Order.{Row}, declared.{keys.Key.{Key}, value.Value.{Value, TheVariants.{Null, Int}}}}
use Rattle.plant_store_columns.{specs.{Forms.{table_of}, Kept.{by_columns, plain_query, kept}, Tidy.{AreRows}}, proofs.Rows.{AreFound, without_found}}
use Rattle.plant_store_columns.proofs.public.Changes.{HasDeleted}
use Rattle.sqlite_trees.specs.Tree.{IsAscending}

-- ---- reading

abbrev no_tables : List (List Row)
no_tables = []

none_given : (t : ℕ) → given_at no_tables t ≡ None
none_given t = elim (nat_le (2 ^ 31) t) as (λ b. cond b (slice_get no_tables (t - 2 ^ 31)) None ≡ None) [ true ↦ refl | false ↦ refl ]

pub overlay_none : (trees : Trees) (t : ℕ) → overlay trees [] t ≡ trees t
overlay_none trees t = ap (λ o. unwrap_or o (trees t)) (none_given t)

module _ (tree : ℕ) (tests project : List Term) (order : List (Term × Key)) where
  abbrev pub shows : Row → Row → Output
  shows params r = output (plain_query (inner tree end) tests project order) (params ∷ r ∷ [])

  abbrev pub passes : Row → Row → Bool
  passes params r = list_all (holds (params ∷ r ∷ [])) tests

  pub record Reads (trees : Trees) (params : Row) (rows : List Row) : Type 0 where
    pub ordered : List Output
    pub same : IsPermutation (map (shows params) (filter (passes params) (trees tree))) ordered
    pub sorted : IsSorted (output_cmp (plain_query (inner tree end) tests project order)) ordered
    pub rows_are : rows ≡ map (λ (o : Output). o.1) ordered

  matched : (params : Row) (rows : List Row)
      → flat_map (λ r. cond (passes params r) ((params ∷ r ∷ []) ∷ []) []) rows ≡ map (λ r. params ∷ r ∷ []) (filter (passes params) rows)
  matched params [] = refl
  matched params (r ∷ rows) =
      elim (passes params r) as (λ b. cond b ((params ∷ r ∷ []) ∷ []) []
      ++ flat_map (λ r. cond (passes params r) ((params ∷ r ∷ []) ∷ []) []) rows ≡ map (λ r. params ∷ r ∷ [])
      (cond b (r ∷ filter (passes params) rows) (filter (passes params) rows)))
      [ true ↦ ap (λ l. (params ∷ r ∷ []) ∷ l) (matched params rows) | false ↦ matched params rows ]

  pub reads : (trees : Trees) (params : Row) (rows : List Row)
      → IsAnswer (plain_query (inner tree end) tests project order) (overlay trees []) params rows → Reads trees params rows
  reads trees params rows a =
      let staged = a.grouped ∙ ap (flat_map (λ r. cond (passes params r) ((params ∷ r ∷ []) ∷ []) [])) (overlay_none trees tree)
      ∙ matched params (trees tree) in
      let kept = a.distinct ∙ ap (map (output (plain_query (inner tree end) tests project order))) staged
      ∙ map-map (output (plain_query (inner tree end) tests project order)) (λ r. params ∷ r ∷ []) (filter (passes params) (trees tree)) in
      record { ordered = a.ordered; same = subst (λ k. IsPermutation k a.ordered) kept a.same; sorted = a.sorted; rows_are = a.shown }

-- ---- writing

either : (b : Bool) (x : Value) → cond b x x ≡ x
either true x = refl
either false x = refl

pub cast_null : cast Integer Null ≡ Null
unfolding unary
cast_null = either _ Null

pub cast_int : (n : ℤ) → cast Integer (Int n) ≡ Int n
unfolding unary
cast_int n = either _ (Int n)

has_permuted : {X : Type 0} (xs ys : List X) (x : X) → IsPermutation xs ys → Has ys x → Has xs x
has_permuted xs ys x same h = has_contained xs x (Contains-permutation ys xs x (IsPermutation-sym xs ys same) (contains_had ys x h))

-- a query that shows the rowids finds the rows that pass
pub found_by : (tree : ℕ) (tests : List Term) (trees : Trees) (params : Row) (found : List Row)
    → Reads tree tests (Rattle.sqlite.specs.Term.col 1 0 ∷ []) [] trees params found
    → AreFound (passes tree tests (Rattle.sqlite.specs.Term.col 1 0 ∷ []) [] params) (trees tree) found
found_by tree tests trees params found it =
    let p = passes tree tests (Rattle.sqlite.specs.Term.col 1 0 ∷ []) [] params in
    let show = shows tree tests (Rattle.sqlite.specs.Term.col 1 0 ∷ []) [] params in
    record {
      sound = λ x h.
          let o = has_mapped (λ (o : Output). o.1) it.ordered x (subst (λ l. Has l x) it.rows_are h) in
          let r = has_mapped show (filter p (trees tree)) o.0 (has_permuted _ it.ordered o.0 it.same o.1) in
          let k = has_filtered p (trees tree) r.0 r.1 in
          (r.0, k.0, k.1, o.2 ∙ ap (λ (o : Output). o.1) r.2);
      complete = λ r h e.
          let o = has_permuted it.ordered _ (show r) (IsPermutation-sym _ _ it.same)
          (mapped_has show (filter p (trees tree)) r (has_kept p (trees tree) r h e)) in
          subst (λ l. Has l (rowid r ∷ [])) (sym it.rows_are) (mapped_has (λ (o : Output). o.1) it.ordered (show r) o);
    }

are_left : (p : Row → Bool) (rows : List Row) → AreRows rows → AreRows (filter p rows)
are_left p rows are = record { rise = ascending-filter _ p rows are.rise; ints = all-filter _ p rows are.ints }

module _ (schema : Rattle.sqlite.specs.Schema.Schema) (name : List ℕ) (tree : ℕ) (columns : List Column) (key : List ℕ) where
  -- DELETE takes out the rows that pass
  pub removes : (tests : List Term) (params : Row) (old new : Database) → AreRows (old.trees tree)
      → HasDeleted schema (table_of name tree columns key)
      (plain_query (inner tree end) tests (Rattle.sqlite.specs.Term.col 1 0 ∷ []) []) params old new
      → (new.trees tree ≡ filter (λ r. not (passes tree tests (Rattle.sqlite.specs.Term.col 1 0 ∷ []) [] params r)) (old.trees tree))
      × AreRows (new.trees tree)
  removes tests params old new are it =
      let p = passes tree tests (Rattle.sqlite.specs.Term.col 1 0 ∷ []) [] params in
      let rows = it.rows
      ∙ without_found p (old.trees tree) it.found are
      (found_by tree tests old.trees params it.found (reads tree tests (Rattle.sqlite.specs.Term.col 1 0
      ∷ []) [] old.trees params it.found it.answer)) in
      (rows, subst AreRows (sym rows) (are_left (λ r. not (p r)) (old.trees tree) are))

-- ---- the one answer in the order of the key

module _ (tree : ℕ) (tests project : List Term) (order : List (Term × Key)) (key : List ℕ) (params : Row)
    (agrees : ◌≡◌ {A = Row → Row
    → Ordering} (λ r s. output_cmp (plain_query (inner tree end) tests project order) (shows tree tests project order params r)
    (shows tree tests project order params s)) (by_columns key)) where
  pub one_answer : (trees : Trees) (rows : List Row) → IsAscending (λ a b. is_eq (by_columns key a b) ≡ false) (trees tree)
      → Reads tree tests project order trees params rows
      → rows ≡ map (λ r. (shows tree tests project order params r).1) (kept (by_columns key) (passes tree tests project order params) (trees tree))
  one_answer trees rows apart it =
      let q = plain_query (inner tree end) tests project order in
      let show = shows tree tests project order params in
      let some = filter (passes tree tests project order params) (trees tree) in
      let free : IsAscending (λ a b. is_eq (output_cmp q (show a) (show b)) ≡ false) some =
      subst (λ (c : Row → Row → Ordering). IsAscending (λ a b. is_eq (c a b) ≡ false) some) (sym agrees)
      (ascending-filter _ (passes tree tests project order params) (trees tree) apart) in
      let sorted : it.ordered ≡ sort_by (output_cmp q) (map show some) =
      sorted_is-sort_by (output_cmp q) (output_cmp_total q)
      (map show some) it.ordered (ascending-map (λ a b. is_eq (output_cmp q a b) ≡ false) show some free) it.same it.sorted in
      let all : it.ordered ≡ map show (sort_by (by_columns key) some) =
      sorted ∙ sort_by-map (output_cmp q) show some ∙ ap (λ (c : Row → Row → Ordering). map show (sort_by c some)) agrees in
      it.rows_are ∙ ap (map (λ (o : Output). o.1)) all ∙ map-map (λ (o : Output). o.1) show (sort_by (by_columns key) some)
