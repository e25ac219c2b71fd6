-- What the statements of one table do, whatever its shape.
use Rattle.std.specs.{Cmp.{IsTotalOrder}, List.{AllByRecursion}}
use Rattle.std.proofs.Common.{◌≡◌, ◌≢◌, ℕ, ℤ, Bool, true, false, not, ◌&&◌, cond, List, [], ◌∷◌, ◌++◌, map, filter, slice_get, None, Some, Ok, refl, sym, ap, ap₂, ◌∙◌, subst, Ordering, is_eq}
use Rattle.sqlite.specs.{Cast.{cast_all}, Collation.TheVariants.{Binary}, Command.TheVariants.{Delete, Select}, Effect.{Database}}
use Rattle.sqlite.specs.{Listing.{understood, reads_listing}, Query.{inner, end, output_cmp}, Schema.{Schema}, State.{State, Executes, Shown}}
use Rattle.sqlite.{specs.{Term.{Term, col}, Tree.{rowid}}, proofs.Callers.{IsPlain, command_of, reads_as}}
use Rattle.sqlite_keyed.{specs.Lists.{sort_by}, proofs.ListLemmas.{filter_same}}
use Rattle.sqlite_rules.specs.Keys.{conflicts}
use Rattle.sqlite_schema.specs.Rules.{equal, agree}
use Rattle.sqlite_value.specs.{Keys.{plain}, Order.{Row, column, bytes}, declared.{keys.Key.{Key}, value.Value.{Value}}}
use Rattle.sqlite_value.specs.declared.value.Value.TheVariants.{Null, Int, Text}
use Rattle.plant_types.specs.KeyedRows.{put_row, remove_row, IsInOrder}
use Rattle.plant_store_columns.specs.Kept.{taken_out, by_columns, plain_query, kept, is_of}
use Rattle.plant_store_columns.specs.{Shape.{Shape, table_in, row_in, IsRowIn, rows_in, rows_passing}, Tidy.{AreRows, AreApart, IsTidy}}
use Rattle.plant_store_columns.proofs.Shared.{tidy-put, tidy-out, put_mine, put_other, out_mine, out_other, rising as risen}
use Rattle.plant_store_columns.proofs.public.{Bridge.{AreRising, IsInOrder-rising}, Changes.{HasNoReferences, KeepsOthers, deletes}}
use Rattle.plant_store_columns.proofs.public.Kept.{all-kept, filter_and, sort-filter}
use Rattle.plant_store_columns.proofs.public.{Keys.{HasKey, agree_is, by_columns_total}, Laws.{removes, passes, shows, reads, one_answer}}

-- what is to be shown of one shape
pub record IsShape {X K : Type 0} (s : Shape X K) : Type 0 where
  pub total : IsTotalOrder s.order
  -- what is written is read back
  pub back : (id : Value) (u : List ℕ) (x : X) → s.read (row_in s id u x) ≡ x
  -- the order of the key columns is the order of the keys
  pub agrees : (id jd : Value) (u v : List ℕ) (x y : X) → s.order (s.key x) (s.key y) ≡ by_columns s.keys (row_in s id u x) (row_in s jd v y)
  -- no column of the key is NULL
  pub keyed : (id : Value) (u : List ℕ) (x : X) → HasKey (1 ∷ s.keys) (row_in s id u x)
  -- no cell is cast
  pub fits : (u : List ℕ) (x : X) → cast_all s.columns (Text u ∷ s.cells x) ≡ Text u ∷ s.cells x

-- the schema has the table, and no other uniqueness for it but its key's
pub record IsListed {X K : Type 0} (schema : Schema) (s : Shape X K) : Type 0 where
  pub at : slice_get schema.tables s.place ≡ Some (table_in s)
  pub alone : (cells r : Row) (id : Value) → equal Binary (rowid r) id ≡ false
      → conflicts None schema.indexes (table_in s) (id ∷ cells) r ≡ agree plain (1 ∷ s.keys) r (1 ∷ s.keys) (id ∷ cells)

-- a row is put into one table, or taken out of it
pub record PutsRow {X K : Type 0} (schema : Schema) (s : Shape X K) (u : List ℕ) (x : X) (old new : Database) : Type 0 where
  pub id : ℤ
  pub rows : new.trees s.tree ≡ taken_out (by_columns (1 ∷ s.keys)) (row_in s (Int id) u x) (old.trees s.tree) ++ row_in s (Int id) u x ∷ []
  pub are : AreRows (new.trees s.tree)
  pub others : KeepsOthers schema s.tree old.trees new.trees
  pub same_schema : new.schema ≡ schema

pub record RemovesRow {X K : Type 0} (schema : Schema) (s : Shape X K) (u : List ℕ) (x : X) (old new : Database) : Type 0 where
  pub rows : new.trees s.tree ≡ taken_out (by_columns (1 ∷ s.keys)) (row_in s Null u x) (old.trees s.tree)
  pub are : AreRows (new.trees s.tree)
  pub others : KeepsOthers schema s.tree old.trees new.trees
  pub same_schema : new.schema ≡ schema

-- what that leaves: the rows of one unit are changed so, and no others
pub record ChangesRows {X K : Type 0} (schema : Schema) (s : Shape X K) (u : List ℕ) (change : List X → List X) (old new : Database) : Type 0 where
  pub tidy : IsTidy (IsRowIn s) (1 ∷ s.keys) (new.trees s.tree)
  pub mine : rows_in s u (new.trees s.tree) ≡ change (rows_in s u (old.trees s.tree))
  pub other_units : (v : List ℕ) → v ≢ u → rows_in s v (new.trees s.tree) ≡ rows_in s v (old.trees s.tree)
  pub others : KeepsOthers schema s.tree old.trees new.trees
  pub same_schema : new.schema ≡ schema

module _ {X K : Type 0} (s : Shape X K) (good : IsShape s) where
  pub named : (r : Row) → IsRowIn s r → column r 1 ≡ Text (bytes (column r 1))
  named r h = ap (λ (r : Row). column r 1) h

  pub agrees_in : (a b : Row) → IsRowIn s a → IsRowIn s b → s.order (s.key (s.read a)) (s.key (s.read b)) ≡ by_columns s.keys a b
  agrees_in a b h k = good.agrees (rowid a) (rowid b) (bytes (column a 1)) (bytes (column b 1)) (s.read a) (s.read b)
      ∙ sym (ap₂ (by_columns s.keys) h k)

  pub is_row : (id : Value) (u : List ℕ) (x : X) → IsRowIn s (row_in s id u x)
  is_row id u x = ap (λ y. row_in s id u y) (sym (good.back id u x))

  module _ (schema : Schema) (free : HasNoReferences schema) (listed : IsListed schema s) where
    pub removes_row : (text : List ℕ) (tests : List Term)
        → command_of (understood schema text) ≡ Delete s.place (record { lets = []; body = plain_query (inner s.tree end) tests (col 1 0 ∷ []) [] })
        → IsPlain (understood schema text)
        → (params : Row) (u : List ℕ) (x : X)
        → ((r : Row) → passes s.tree tests (col 1 0 ∷ []) [] params r ≡ agree plain (1 ∷ s.keys) r (1 ∷ s.keys) (row_in s Null u x))
        → (old new : State) → old.now.schema ≡ schema → AreRows (old.now.trees s.tree) → (count : ℕ) → Executes text params old new (Ok count)
        → RemovesRow schema s u x old.now new.now
    removes_row text tests is plain_text params u x same old new has are count h =
        let it = deletes schema free text params old new s.place (table_in s) _ has listed.at is plain_text count h in
        let done = removes schema s.name s.tree s.columns (1 ∷ s.keys) tests params old.now new.now are it in
        let taken =
        filter_same (λ r. not (passes s.tree tests (col 1 0 ∷ []) [] params r)) (λ r. not (is_eq (by_columns (1 ∷ s.keys) (row_in s Null u x) r)))
        (λ r. ap not (same r ∙ agree_is (1 ∷ s.keys) r (row_in s Null u x) (good.keyed Null u x))) (old.now.trees s.tree) in
        record { rows = done.0 ∙ taken; are = done.1; others = it.others; same_schema = it.same_schema }

  -- a query in the order of the key answers the rows that pass, in the order of the key
  pub finds_rows : (schema : Schema) (text : List ℕ) (tests project : List Term) (order : List (Term × Key)) (names : List (List ℕ))
      → command_of (understood schema text) ≡ Select (record { lets = []; body = plain_query (inner s.tree end) tests project order }) names
      → reads_listing schema text ≡ false → IsPlain (understood schema text) → (params : Row)
      → ◌≡◌ {A = Row → Row → Ordering}
      (λ a b. output_cmp (plain_query (inner s.tree end) tests project order) (shows s.tree tests project order params a)
      (shows s.tree tests project order params b)) (by_columns (1 ∷ s.keys))
      → (p : Row → Bool) → ((r : Row) → passes s.tree tests project order params r ≡ p r)
      → (old new : State) → old.now.schema ≡ schema → AreApart (1 ∷ s.keys) (old.now.trees s.tree) → (rows : List Row)
      → Shown text params old new rows
      → rows ≡ map (λ r. (shows s.tree tests project order params r).1) (kept (by_columns (1 ∷ s.keys)) p (old.now.trees s.tree))
  finds_rows schema text tests project order names is lists plain_text params ordered p same old new has apart rows h =
      let got = reads_as text params old new schema has _ is plain_text lists rows h in
      let it = reads s.tree tests project order old.now.trees params rows (got.answer Null) in
      one_answer s.tree tests project order (1 ∷ s.keys) params ordered old.now.trees rows apart it
      ∙ ap (λ l. map (λ r. (shows s.tree tests project order params r).1) (sort_by (by_columns (1 ∷ s.keys)) l))
      (filter_same (passes s.tree tests project order params) p same (old.now.trees s.tree))

  -- what is shown of rows is what is shown of the values that they are read as
  show_all : {Y : Type 0} (show : Row → Y) (told : X → Y) → ((id : Value) (u : List ℕ) (x : X) → show (row_in s id u x) ≡ told x) → (rows : List Row)
      → AllByRecursion (IsRowIn s) rows → map show rows ≡ map told (map s.read rows)
  show_all show told same [] all = refl
  show_all show told same (r ∷ rows) all =
      ap₂ ◌∷◌ (ap show all.0 ∙ same (rowid r) (bytes (column r 1)) (s.read r)) (show_all show told same rows all.1)

  pub shown_kept : {Y : Type 0} (show : Row → Y) (told : X → Y) → ((id : Value) (u : List ℕ) (x : X) → show (row_in s id u x) ≡ told x)
      → (p : Row → Bool) (rows : List Row) → AllByRecursion (IsRowIn s) rows
      → map show (kept (by_columns (1 ∷ s.keys)) p rows) ≡ map told (rows_passing s p rows)
  shown_kept show told same p rows all =
      show_all show told same _ (all-kept (by_columns (1 ∷ s.keys)) (by_columns_total (1 ∷ s.keys)) (IsRowIn s) p rows all)

  -- a test of columns after the unit's, as a test of rows
  filter_read : (p : Row → Bool) (q : X → Bool) → ((id : Value) (u : List ℕ) (x : X) → p (row_in s id u x) ≡ q x) → (rows : List Row)
      → AllByRecursion (IsRowIn s) rows → map s.read (filter p rows) ≡ filter q (map s.read rows)
  filter_read p q same [] all = refl
  filter_read p q same (r ∷ rows) all =
      rw (ap p all.0 ∙ same (rowid r) (bytes (column r 1)) (s.read r))
      (elim (q (s.read r)) as (λ b. map s.read (cond b (r ∷ filter p rows) (filter p rows))
      ≡ cond b (s.read r ∷ filter q (map s.read rows)) (filter q (map s.read rows))) [
        | true ↦ ap (λ l. s.read r ∷ l) (filter_read p q same rows all.1)
        | false ↦ filter_read p q same rows all.1
      ])

  pub some_kept : (p : Row → Bool) (q : X → Bool) → ((id : Value) (u : List ℕ) (x : X) → p (row_in s id u x) ≡ q x)
      → (unit : List ℕ) (rows : List Row) → AllByRecursion (IsRowIn s) rows
      → rows_passing s (λ r. is_of unit r && p r) rows ≡ filter q (rows_in s unit rows)
  some_kept p q same unit rows all =
      let cmp = by_columns (1 ∷ s.keys) in
      let total = by_columns_total (1 ∷ s.keys) in
      ap (map s.read) (ap (sort_by cmp) (filter_and (is_of unit) p rows) ∙ sort-filter cmp total p (filter (is_of unit) rows))
      ∙ filter_read p q same (kept cmp (is_of unit) rows) (all-kept cmp total (IsRowIn s) (is_of unit) rows all)

  pub rising : (u : List ℕ) (rows : List Row) → IsTidy (IsRowIn s) (1 ∷ s.keys) rows → AreRising s.order s.key (rows_in s u rows)
  rising u rows tidy = risen s.keys (IsRowIn s) s.order good.total s.key s.read named agrees_in u rows tidy

  pub rises : (u : List ℕ) (rows : List Row) → IsTidy (IsRowIn s) (1 ∷ s.keys) rows → IsInOrder s.order s.key (rows_in s u rows)
  rises u rows tidy = IsInOrder-rising s.order s.key _ (rising u rows tidy)

  -- ---- the rows of one table, after a put or a remove

  pub put_changes : (schema : Schema) (u : List ℕ) (x : X) (old new : Database) → PutsRow schema s u x old new
      → IsTidy (IsRowIn s) (1 ∷ s.keys) (old.trees s.tree) → ChangesRows schema s u (put_row s.order s.key x) old new
  put_changes schema u x old new it tidy =
      let row = row_in s (Int it.id) u x in
      record {
        tidy = subst (IsTidy (IsRowIn s) (1 ∷ s.keys)) (sym it.rows)
            (tidy-put s.keys (IsRowIn s) row (old.trees s.tree) (is_row (Int it.id) u x) tidy (subst AreRows it.rows it.are));
        mine = ap (rows_in s u) it.rows
            ∙ put_mine s.keys (IsRowIn s) s.order good.total s.key s.read named agrees_in u row (old.trees s.tree) refl (is_row (Int it.id) u x) tidy
            ∙ ap (λ y. put_row s.order s.key y (rows_in s u (old.trees s.tree))) (good.back (Int it.id) u x);
        other_units = λ v other. ap (rows_in s v) it.rows
            ∙ put_other s.keys (IsRowIn s) s.order good.total s.key s.read named agrees_in u v row (old.trees s.tree) refl other;
        others = it.others;
        same_schema = it.same_schema;
      }

  pub remove_changes : (schema : Schema) (u : List ℕ) (x : X) (old new : Database) → RemovesRow schema s u x old new
      → IsTidy (IsRowIn s) (1 ∷ s.keys) (old.trees s.tree) → ChangesRows schema s u (remove_row s.order s.key (s.key x)) old new
  remove_changes schema u x old new it tidy =
      let row = row_in s Null u x in
      record {
        tidy = subst (IsTidy (IsRowIn s) (1 ∷ s.keys)) (sym it.rows)
            (tidy-out s.keys (IsRowIn s) row (old.trees s.tree) tidy (subst AreRows it.rows it.are));
        mine = ap (rows_in s u) it.rows
            ∙ out_mine s.keys (IsRowIn s) s.order good.total s.key s.read named agrees_in u row (old.trees s.tree) refl (is_row Null u x) tidy
            ∙ ap (λ y. remove_row s.order s.key (s.key y) (rows_in s u (old.trees s.tree))) (good.back Null u x);
        other_units = λ v other. ap (rows_in s v) it.rows
            ∙ out_other s.keys (IsRowIn s) s.order good.total s.key s.read named agrees_in u v row (old.trees s.tree) refl other;
        others = it.others;
        same_schema = it.same_schema;
      }
