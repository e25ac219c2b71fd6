-- A third table joined to the pairs of two by LEFT JOIN: if its key is among the columns by which it is joined, at most
-- one row of it meets a pair, so each pair gives one line.
use Rattle.std.specs.List.{AllByRecursion, list_all}
use Rattle.std.proofs.Common.{◌≡◌, ℕ, Bool, true, false, true≢false, cond, List, [], ◌∷◌, ◌++◌, ◌&&◌, map, filter, flat_map, refl, sym, ap, ◌∙◌, subst, Equal, IsPermutation, is_eq}
use Rattle.std.proofs.lemmas.{Bool.{and_from, and_parts}, Cmp.{alike_right}, List.Sorted.{IsPermutation-trans, IsPermutation-map}}
use Rattle.sqlite.specs.{Collation.TheVariants.{Binary}, Program.{overlay}, Query.{IsAnswer, Output, output, inner, left, end, or_nulls}, Tree.{Trees}}
use Rattle.sqlite_keyed.specs.Lists.{sort_by}
use Rattle.sqlite_keyed.proofs.ListLemmas.{ascending-filter, map-flat_map, map-map, flat_map_same_on}
use Rattle.sqlite_schema.specs.Rules.{equal}
use Rattle.sqlite_sql.specs.{Ops.{binary}, Term.{Term, holds}}
use Rattle.sqlite_value.specs.{declared.{keys.Key.{Key}, value.Value.{Value, TheVariants.{Null, Int, Real, Text, Blob}}}, Order.{Row, column, value_cmp}}
use Rattle.sqlite_value.proofs.OrderLemmas.{value_cmp_total}
use Rattle.plant_store_columns.specs.{Kept.{by_columns, plain_query}, Tidy.{AreApart}}
use Rattle.plant_store_columns.proofs.public.{Keys.{equal_is, then_tied}, Laws.{overlay_none}}
use Rattle.plant_store.proofs.Joins.{cells_met, met, met_by_keys, passing, picked}
use Rattle.plant_types.proofs.public.KeyedRowLaws.{tied}

-- ---- at most one row

-- the first of these rows, or else one with no column, which reads as NULL in each
abbrev pub first_row : List Row → Row
first_row [] = []
first_row (r ∷ rs) = r

-- of rows with different keys at most one passes a test that all rows of one key alone pass
pub one_beside : (key : List ℕ) (p : Row → Bool) → ((a b : Row) → p a ≡ true → p b ≡ true → is_eq (by_columns key a b) ≡ true)
    → (rows : List Row) → AreApart key rows → or_nulls (filter p rows) ≡ first_row (filter p rows) ∷ []
one_beside key p tie rows apart = go (filter p rows) (ascending-filter _ p rows apart) (passing p rows)
  where
    go : (l : List Row) → AreApart key l → AllByRecursion (λ r. p r ≡ true) l → or_nulls l ≡ first_row l ∷ []
    go [] up all = refl
    go (a ∷ []) up all = refl
    go (a ∷ b ∷ l) up all = absurd (true≢false (sym (tie a b all.0 all.1.0) ∙ up.0.0))

-- NULL equals nothing
never : (a : Value) → equal Binary a Null ≡ false
unfolding binary
never Null = refl
never (Int n) = refl
never (Real x) = refl
never (Text t) = refl
never (Blob b) = refl

equal_ties : (a b : Value) → equal Binary a b ≡ true → value_cmp a b ≡ Equal
equal_ties a Null h = absurd (true≢false (sym h ∙ never a))
equal_ties a (Int n) h = tied (value_cmp a (Int n)) true (sym (equal_is a (Int n) refl) ∙ h) refl
equal_ties a (Real x) h = tied (value_cmp a (Real x)) true (sym (equal_is a (Real x) refl) ∙ h) refl
equal_ties a (Text t) h = tied (value_cmp a (Text t)) true (sym (equal_is a (Text t) refl) ∙ h) refl
equal_ties a (Blob b) h = tied (value_cmp a (Blob b)) true (sym (equal_is a (Blob b) refl) ∙ h) refl

both_equal : (a b c : Value) → equal Binary a c ≡ true → equal Binary b c ≡ true → is_eq (value_cmp a b) ≡ true
both_equal a b c h k = ap is_eq (alike_right value_cmp_total b c a (equal_ties b c k) ∙ equal_ties a c h)

-- joined by the two columns of its key, a table has at most one row beside a row
pub one_by_two : (u : Row) (rows : List Row) → AreApart (1 ∷ 2 ∷ []) rows
    → or_nulls (filter (λ r. equal Binary (column r 1) (column u 1) && (equal Binary (column r 2) (column u 2) && true)) rows)
    ≡ first_row (filter (λ r. equal Binary (column r 1) (column u 1) && (equal Binary (column r 2) (column u 2) && true)) rows) ∷ []
one_by_two u rows apart =
    one_beside (1 ∷ 2 ∷ []) (λ r. equal Binary (column r 1) (column u 1) && (equal Binary (column r 2) (column u 2) && true))
    (λ a b h k.
    let ha = and_parts _ _ h in
    let hb = and_parts _ _ k in
    let first = both_equal (column a 1) (column b 1) (column u 1) ha.0 hb.0 in
    let second = both_equal (column a 2) (column b 2) (column u 2) (and_parts _ _ ha.1).0 (and_parts _ _ hb.1).0 in
    then_tied (value_cmp (column a 1) (column b 1)) (by_columns (2 ∷ []) a b)
    ∙ and_from _ _ first (then_tied (value_cmp (column a 2) (column b 2)) (by_columns [] a b) ∙ and_from _ _ second refl)) rows apart

-- ---- the join

alone : {A : Type 0} (b : Bool) (x : A) → cond b (x ∷ []) [] ++ [] ≡ cond b (x ∷ []) []
alone true x = refl
alone false x = refl

module _ (first second third : ℕ) (on tests project : List Term) (order : List (Term × Key)) (params : Row) (trees : Trees) where
  -- the rows of the third table that meet a pair
  abbrev pub beside : Row → Row → List Row
  beside g u = filter (λ r. list_all (holds (params ∷ g ∷ u ∷ r ∷ [])) on) (trees third)

  abbrev pub pair_meets : Row → Row → Bool
  pair_meets g u = list_all (holds (params ∷ g ∷ u ∷ [])) tests

  -- what is shown of a pair with the row beside it
  abbrev pub line_shown : Row → Row → Output
  line_shown g u =
      output (plain_query (inner first (inner second (left third on end))) tests project order) (params ∷ g ∷ u ∷ first_row (beside g u) ∷ [])

  abbrev whole : Row → Row → List Row
  whole g u = params ∷ g ∷ u ∷ first_row (beside g u) ∷ []

  module _ (lone : (g u : Row) → or_nulls (beside g u) ≡ first_row (beside g u) ∷ [])
      (early : (g u r : Row) → list_all (holds (params ∷ g ∷ u ∷ r ∷ [])) tests ≡ list_all (holds (params ∷ g ∷ u ∷ [])) tests) where
    one_line : (g u : Row)
        → flat_map (λ r. cond (list_all (holds (params ∷ g ∷ u ∷ r ∷ [])) tests) ((params ∷ g ∷ u ∷ r ∷ []) ∷ []) []) (or_nulls (beside g u))
        ≡ cond (pair_meets g u) (whole g u ∷ []) []
    one_line g u =
        ap (flat_map (λ r. cond (list_all (holds (params ∷ g ∷ u ∷ r ∷ [])) tests) ((params ∷ g ∷ u ∷ r ∷ []) ∷ []) [])) (lone g u)
        ∙ ap (λ b. cond b (whole g u ∷ []) [] ++ []) (early g u (first_row (beside g u))) ∙ alone (pair_meets g u) (whole g u)

    shown_each : (us : List Row) (g : Row)
        → map (output (plain_query (inner first (inner second (left third on end))) tests project order))
        (flat_map (λ u. cond (pair_meets g u) (whole g u ∷ []) []) us) ≡ met line_shown pair_meets us g
    shown_each us g =
        let q = plain_query (inner first (inner second (left third on end))) tests project order in
        ap (map (output q)) (picked (pair_meets g) (whole g) us) ∙ map-map (output q) (whole g) (filter (pair_meets g) us)

    -- each pair that meets gives one line, in some order
    pub left_joins : (key others : List ℕ) (rows : List Row)
        → IsAnswer (plain_query (inner first (inner second (left third on end))) tests project order) (overlay trees []) params rows
        → IsPermutation
        (flat_map (λ g. map (λ u. (line_shown g u).1) (filter (pair_meets g) (sort_by (by_columns others) (trees second))))
        (sort_by (by_columns key) (trees first))) rows
    left_joins key others rows a =
        let q = plain_query (inner first (inner second (left third on end))) tests project order in
        let gs = trees first in
        let us = trees second in
        let over = λ (gs us rs : List Row). flat_map (λ g. flat_map (λ u. flat_map (λ r.
        cond (list_all (holds (params ∷ g ∷ u ∷ r ∷ [])) tests) ((params ∷ g ∷ u ∷ r ∷ []) ∷ []) [])
        (or_nulls (filter (λ r. list_all (holds (params ∷ g ∷ u ∷ r ∷ [])) on) rs))) us) gs in
        let none = overlay trees [] in
        let staged = a.grouped ∙ ap (λ gs. over gs (none second) (none third)) (overlay_none trees first)
        ∙ ap (λ us. over gs us (none third)) (overlay_none trees second) ∙ ap (over gs us) (overlay_none trees third)
        ∙ flat_map_same_on _ (λ g. flat_map (λ u. cond (pair_meets g u) (whole g u ∷ []) []) us)
        (λ g. flat_map_same_on _ (λ u. cond (pair_meets g u) (whole g u ∷ []) []) (λ u. one_line g u) us) gs in
        let kept : a.kept ≡ flat_map (met line_shown pair_meets us) gs = a.distinct ∙ ap (map (output q)) staged
        ∙ map-flat_map (output q) (λ g. flat_map (λ u. cond (pair_meets g u) (whole g u ∷ []) []) us) gs
        ∙ flat_map_same_on _ (met line_shown pair_meets us) (shown_each us) gs in
        let vs = sort_by (by_columns others) us in
        let sorted = sort_by (by_columns key) gs in
        let same =
        IsPermutation-trans _ _ _ (met_by_keys line_shown pair_meets key others gs us) (subst (λ k. IsPermutation k a.ordered) kept a.same) in
        subst (IsPermutation _) (sym a.shown)
        (subst (λ l. IsPermutation l (map (λ (o : Output). o.1) a.ordered)) (cells_met line_shown pair_meets vs sorted)
        (IsPermutation-map (λ (o : Output). o.1) _ _ same))
