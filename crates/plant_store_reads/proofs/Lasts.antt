-- The last row of a unit, by a query in the falling order of the key with LIMIT 1.
use Rattle.std.specs.List.{AllByRecursion}
use Rattle.std.proofs.Common.{◌≡◌, ℕ, ◌-◌, List, [], ◌∷◌, map, filter, reverse, Option, Some, None, refl, sym, ap, ◌∙◌, subst, Ordering, Less, IsPermutation, arith, length, pos, option_map, get_or, slice_get, unwrap_or}
use Rattle.std.proofs.lemmas.List.{get_or-reverse, length-map, length-reverse, reverse-append}
use Rattle.std.proofs.lemmas.List.Sorted.{IsPermutation-trans, IsPermutation-reverse, IsPermutation-map, IsPermutation-sym}
use Rattle.std.proofs.lemmas.Option.{slice_get-get_or, slice_get-map}
use Rattle.sqlite.specs.{Program.{overlay}, Query.{IsAnswer, Output, output_cmp, inner, end}, State.{State, Shown}, Term.{Term, lit, col}}
use Rattle.sqlite.{specs.Tree.{Trees, IsAscending}, proofs.Callers.{reads_as}}
use Rattle.sqlite_keyed.specs.Lists.{sort_by}
use Rattle.sqlite_keyed.proofs.ListLemmas.{ascending-map, ascending-append, all-append, all_weaker, filter_same, first_taken, map-map}
use Rattle.sqlite_keyed.proofs.SortLemmas.{sorted_unique, IsPermutation-sort_by}
use Rattle.sqlite_sql.proofs.QueryLemmas.{output_cmp_total}
use Rattle.sqlite_value.specs.{Order.{Row, column}, declared.{keys.Key.{Key}, value.Value.TheVariants.{Null, Int, Text}}}
use Rattle.plant_model.specs.declared.rows.ChangeEntry.{ChangeEntry}
use Rattle.plant_model.specs.steps.RowFacts.{change_number, last_number}
use Rattle.plant_types.specs.Names.{Name}
use Rattle.plant_store_columns.specs.{Codes.{number}, Kept.{by_columns, is_of, kept, plain_query}, declared.tables.TableKind.TheVariants.{Changes}}
use Rattle.plant_store_columns.specs.{Tables.{AreBooks, books_schema, rows_seen, change_shape}, Tidy.{AreApart}}
use Rattle.plant_store_columns.proofs.public.{Kept.{no_ties-out, strict-sort}, Keys.{by_columns_total}, Laws.{reads, passes, shows}, ShapeLaws.{good}}
use Rattle.plant_store_columns.proofs.public.Shapes.{shown_kept}
use Rattle.plant_store_statements.specs.declared.texts.TheConstants.{SELECT_LAST_CHANGE}
use Rattle.plant_store_statements.proofs.public.{Meanings.{by_unit, falling_2, last_change}, Queries.{one_test}}

-- ---- lists the other way round

all-reverse : {X : Type 0} (P : X → Type 0) (xs : List X) → AllByRecursion P xs → AllByRecursion P (reverse xs)
all-reverse P [] all = tt
all-reverse P (x ∷ xs) all =
    subst (AllByRecursion P) (sym (reverse-append (x ∷ []) xs)) (all-append P (reverse xs) (x ∷ []) (all-reverse P xs all.1) (all.0, tt))

ascending-reverse : {X : Type 0} (R : X → X → Type 0) (xs : List X) → IsAscending R xs → IsAscending (λ a b. R b a) (reverse xs)
ascending-reverse R [] up = tt
ascending-reverse R (x ∷ xs) up =
    subst (IsAscending (λ a b. R b a)) (sym (reverse-append (x ∷ []) xs))
    (ascending-append (λ a b. R b a) (reverse xs) (x
    ∷ []) (ascending-reverse R xs up.1) (tt, tt) (all_weaker _ (λ a. AllByRecursion (λ b. R b a) (x ∷ [])) (λ a h. (h, tt)) (reverse xs)
    (all-reverse (R x) xs up.0)))

-- the first of a list the other way round is its last
last_turned : {X : Type 0} (xs : List X) → slice_get (reverse xs) 0 ≡ slice_get xs (length xs - 1)
last_turned [] = refl
last_turned (x ∷ xs) =
    let as_long = length-reverse (x ∷ xs) in
    let last : length (x ∷ xs) - 1 - 0 ≡ length (x ∷ xs) - 1 = omega arith in
    slice_get-get_or (reverse (x ∷ xs)) 0 x (omega (arith, as_long))
    ∙ ap Some (get_or-reverse (x ∷ xs) 0 x (omega arith) ∙ ap (λ n. get_or (x ∷ xs) n x) last)
    ∙ sym (slice_get-get_or (x ∷ xs) (length (x ∷ xs) - 1) x (omega arith))

-- ---- the first row of the falling order of the key is the last of the rising order

module _ (tree : ℕ) (tests project : List Term) (order : List (Term × Key)) (key : List ℕ) (params : Row)
    (falls : ◌≡◌ {A = Row → Row
    → Ordering} (λ r s. output_cmp (plain_query (inner tree end) tests project order) (shows tree tests project order params r)
    (shows tree tests project order params s)) (λ r s. by_columns key s r)) where
  first_falling : (trees : Trees) (rows : List Row) → AreApart key (trees tree)
      → IsAnswer (record (plain_query (inner tree end) tests project order) { limit = lit (Int (pos 1)) }) (overlay trees []) params rows
      → slice_get rows 0
      ≡ slice_get
      (map (λ r. (shows tree tests project order params r).1) (kept (by_columns key) (passes tree tests project order params) (trees tree)))
      (length (kept (by_columns key) (passes tree tests project order params) (trees tree)) - 1)
  first_falling trees rows apart a =
      let q = plain_query (inner tree end) tests project order in
      let show = shows tree tests project order params in
      let cells = λ (o : Output). o.1 in
      let some = filter (passes tree tests project order params) (trees tree) in
      let sorted = sort_by (by_columns key) some in
      let all = map show sorted in
      let whole : IsAnswer q (overlay trees []) params (map cells a.ordered) =
      record {
        staged = a.staged;
        grouped = a.grouped;
        kept = a.kept;
        distinct = a.distinct;
        ordered = a.ordered;
        same = a.same;
        sorted = a.sorted;
        shown = refl;
      } in
      let it = reads tree tests project order trees params (map cells a.ordered) whole in
      let rise =
      strict-sort (by_columns key)
      (by_columns_total key) some
      (no_ties-out (by_columns key) (by_columns_total key) (passes tree tests project order params) (trees tree) apart) in
      let fall : IsAscending (λ a b. output_cmp q b a ≡ Less) all =
      ascending-map (λ a b. output_cmp q b a
      ≡ Less) show sorted (subst (λ (c : Row → Row → Ordering). IsAscending (λ a b. c b a ≡ Less) sorted) (sym falls) rise) in
      let same : IsPermutation (reverse all) it.ordered =
      IsPermutation-trans _ _ _ (IsPermutation-sym _ _ (IsPermutation-reverse all))
      (IsPermutation-trans _ _ _ (IsPermutation-map show sorted some (IsPermutation-sort_by (by_columns key) (by_columns_total key) some))
      it.same) in
      let ordered : it.ordered ≡ reverse all =
      sorted_unique (output_cmp q) (output_cmp_total q)
      (reverse all) it.ordered (ascending-reverse (λ a b. output_cmp q b a ≡ Less) all fall) same it.sorted in
      ap (λ l. slice_get l 0) a.shown ∙ first_taken (map cells a.ordered) ∙ ap (λ l. slice_get l 0) it.rows_are ∙ slice_get-map cells it.ordered 0
      ∙ ap (option_map cells) (ap (λ l. slice_get l 0) ordered ∙ last_turned all) ∙ sym (slice_get-map cells all (length all - 1))
      ∙ (λ i. slice_get (map-map cells show sorted i) (length-map sorted show i - 1))

-- ---- the last change of a unit

abbrev drawn : ChangeEntry → Row
drawn c = number c.number ∷ []

last_found : (u : Name) (old new : State) → AreBooks old.now → (rows : List Row) → Shown SELECT_LAST_CHANGE.now (Text u ∷ []) old new rows
    → slice_get rows 0 ≡ option_map drawn (slice_get (rows_seen u old.now.trees Changes) (length (rows_seen u old.now.trees Changes) - 1))
last_found u old new books rows h =
    let got =
    reads_as SELECT_LAST_CHANGE.now (Text u
    ∷ []) old new books_schema books.same_schema _ last_change.is last_change.plain last_change.unlisted rows h in
    let key : List ℕ = 1 ∷ 2 ∷ [] in
    let show = λ (r : Row). (shows 17 by_unit (col 1 2 ∷ []) falling_2 (Text u ∷ []) r).1 in
    let passing =
    filter_same (passes 17 by_unit (col 1 2 ∷ []) falling_2 (Text u ∷ [])) (is_of u) (λ r. one_test (column r 1) u) (old.now.trees 17) in
    let rows_kept = kept (by_columns key) (is_of u) (old.now.trees 17) in
    first_falling 17 by_unit (col 1 2 ∷ []) falling_2 key (Text u ∷ []) refl old.now.trees rows (books.tidy Changes).apart (got.answer Null)
    ∙ ap (λ l. slice_get (map show (sort_by (by_columns key) l)) (length (sort_by (by_columns key) l) - 1)) passing
    ∙ (λ i. slice_get (shown_kept change_shape (good Changes) show drawn (λ id v x. refl) (is_of u) (old.now.trees 17) (books.tidy Changes).each i)
    (sym (length-map rows_kept change_shape.read) i - 1))
    ∙ slice_get-map drawn (rows_seen u old.now.trees Changes) _

one_came : (o : Option ChangeEntry) (row : Row) (n : ℕ) → Some row ≡ option_map drawn o → column row 0 ≡ number n
    → n ≡ unwrap_or (option_map change_number o) 0
one_came None row n is at = absurd (cc is)
one_came (Some x) row n is at =
    let same : row ≡ number x.number ∷ [] = cc in
    let value : number n ≡ number x.number = sym at ∙ ap (λ r. column r 0) same in
    let numbers : n ≡ x.number = cc in
    numbers

none_came : (o : Option ChangeEntry) → None ≡ option_map drawn o → 0 ≡ unwrap_or (option_map change_number o) 0
none_came None is = refl
none_came (Some x) is = absurd (cc is)

-- the number of the last change, from the row that came, and where none came
pub last_came : (u : Name) (old new : State) → AreBooks old.now → (rows : List Row) → Shown SELECT_LAST_CHANGE.now (Text u ∷ []) old new rows → (row : Row)
    → Some row ≡ slice_get rows 0 → (n : ℕ) → column row 0 ≡ number n → n ≡ last_number (rows_seen u old.now.trees Changes)
last_came u old new books rows h row first n at = one_came _ row n (first ∙ last_found u old new books rows h) at

pub no_last_came : (u : Name) (old new : State) → AreBooks old.now → (rows : List Row) → Shown SELECT_LAST_CHANGE.now (Text u ∷ []) old new rows
    → None ≡ slice_get rows 0 → 0 ≡ last_number (rows_seen u old.now.trees Changes)
no_last_came u old new books rows h first = none_came _ (first ∙ last_found u old new books rows h)
