-- What a plain INSERT of one row does: where it succeeds, no row had the key.
use Rattle.std.specs.List.{AllByRecursion, list_any}
use Rattle.std.proofs.Common.{◌≡◌, ◌≢◌, inl, ℕ, ℤ, ◌/◌, length, Bool, true, false, not, ◌&&◌, ◌||◌, fold, List, [], ◌∷◌, ◌++◌, slice_get, None, Some, Ok, refl, sym, ap, ap₂, subst, ◌∙◌, true≢false, is_eq, Less}
use Rattle.std.proofs.lemmas.Bool.{false_from_ne_true, and_from}
use Rattle.sqlite.specs.{Cast.{cast, cast_row}, Collation.TheVariants.{Binary}, Command.TheVariants.{Insert}, Does.{Tally, Does, OnRows, AtPlace}}
use Rattle.sqlite.specs.{Edit.{edit_of}, Effect.{Database, value_rows}, Kind.TheVariants.{Integer}, Listing.{understood}, Order.{Row}}
use Rattle.sqlite.specs.{Rowids.TheVariants.{Chosen}, Rows.{Written, Task, Then, Gives, Edited, Counts, count_of, higher, last_id, stamped}}
use Rattle.sqlite.specs.{Schema.{Schema}, Source.TheVariants.{Values}, State.{State, mode_of, Executes}, Table.{Table}, Term.{Term}}
use Rattle.sqlite.{specs.Tree.{Trees, rowid, put_row, IsTable}, proofs.Callers.{IsPlain, command_of, statement_of, runs_as}}
use Rattle.sqlite_keyed.proofs.ListLemmas.{all-append, filter_all}
use Rattle.sqlite_rules.specs.{Edit.{id_in, next_rowid, with_rowid}, Keys.{shares}, Lists.{Has}}
use Rattle.sqlite_rules.proofs.{ListLemmas.{all_has, all_from, some_has, some_from, test_has, has_got, has_left, has_right}, TableLemmas.{int_is}}
use Rattle.sqlite_schema.specs.{Rules.{agree, clashes, differ, equal, guards, passes, Fits}, declared.schema.Column.{Column}}
use Rattle.sqlite_schema.specs.declared.schema.Constraint.TheVariants.{Unique, ForeignKey}
use Rattle.sqlite_sql.specs.Ops.{binary}
use Rattle.sqlite_trees.{specs.View.{is_int}, proofs.TreeLemmas.{IsTable-put_row}}
use Rattle.sqlite_value.specs.{Keys.{plain, first_key}, Order.{value_cmp}, declared.value.Value.{Value, TheVariants.{Null, Int, Text}}}
use Rattle.plant_store_columns.specs.{Forms.{table_of}, Kept.{taken_out, by_columns}, Shape.{Shape, table_in, row_in}, Tidy.{AreRows}}
use Rattle.plant_store_columns.proofs.{Rows.{below_next, put_last}, public.Changes.{went, same_value, KeepsOthers, HasNoReferences, lone_step}}
use Rattle.plant_store_columns.proofs.public.{Keys.{agree_is, equal_is}, Laws.{cast_null}, Shapes.{IsShape, IsListed, PutsRow}}

-- The new row is put in with the next rowid, and each rule holds of what is then there.
record HasInserted (schema : Schema) (table : Table) (source : Row) (old new : Database) : Type 0 where
  pub rows : new.trees table.tree ≡ put_row (with_rowid Chosen (old.trees table.tree) (cast_row table source)) (old.trees table.tree)
  pub fits : Fits schema new.trees
  pub others : KeepsOthers schema table.tree old.trees new.trees
  pub same_schema : new.schema ≡ schema

module _ (schema : Schema) (free : HasNoReferences schema) (name : List ℕ) (tree : ℕ) (columns : List Column) (key : List ℕ) where
  inserts : (text : List ℕ) (params : Row) (old new : State) (at : ℕ) (terms : List Term) (width : ℕ) (source : Row) → old.now.schema ≡ schema
      → slice_get schema.tables at ≡ Some (table_of name tree columns key)
      → command_of (understood schema text) ≡ Insert at (Values terms width) → IsPlain (understood schema text)
      → value_rows (stamped (table_of name tree columns key) params) width (length terms / width) terms ≡ source ∷ []
      → (count : ℕ) → Executes text params old new (Ok count) → HasInserted schema (table_of name tree columns key) source old.now new.now
  inserts text params old new at terms width source has listed is plain values count h =
      let command = Insert at (Values terms width) in
      let db = old.now.trees in
      let table = table_of name tree columns key in
      let task : Task = record { limit = old.step_limit; keys = (mode_of old).keys; schema = schema; table = table; params = params } in
      let w = runs_as text params old new schema has command is plain count h in
      let sql = statement_of text (understood schema text) in
      let does =
      subst (λ s. Does old.step_limit (mode_of old) params (record old.now { schema = s }) sql None command (Ok (w.tally, new.now))) has
      w.changed in
      let on = subst
      (λ o. AtPlace (λ t. OnRows (record {
        limit = old.step_limit;
        keys = (mode_of old).keys;
        schema = schema;
        table = t;
        params = params;
      }) (mode_of old) None command db) o (Ok (w.tally, new.now))) listed does in
      let done = went on in
      let now = ap (λ (p : Tally × Database). p.1) (same_value (went (went done.2).2).2) in
      let source_rows = went done.1 in
      let counter = went source_rows.2 in
      let went_in = went (subst (λ rows. Then (Edited schema (mode_of old).keys db (edit_of db table [] Chosen 0 rows)) (λ mid.
      Then (Counts task mid counter.0 (fold higher (count_of counter.0) (edit_of db table [] Chosen 0 rows).news))
      (λ next. Gives (record {
        trees = next;
        rows = (edit_of db table [] Chosen 0 rows).news;
        last = last_id (edit_of db table [] Chosen 0 rows).news;
      }))) (Ok done.0)) (source_rows.1.1 ∙ values) counter.2) in
      let step = lone_step schema free (mode_of old).keys db went_in.0 (edit_of db table [] Chosen 0 (source ∷ [])) went_in.1 in
      let counted = went went_in.2 in
      let same : new.now.trees ≡ went_in.0 = ap (λ (d : Database). d.trees) now ∙ ap (λ (it : Written). it.trees) (same_value counted.2)
      ∙ same_value counted.1 in
      record {
        rows = ap (λ (t : Trees). t tree) same ∙ step.rows;
        fits = subst (Fits schema) (sym same) step.fits;
        others = subst (KeepsOthers schema tree db) (sym same) step.tables;
        same_schema = ap (λ (d : Database). d.schema) now;
      }

not_unique : Unique ≢ ForeignKey
not_unique e = cc

-- an index that the row shares guards the table, and the rows agree under it
sharing : (g a : Bool) → (g && true && a) ≡ true → (g ≡ true) × (a ≡ true)
sharing true true h = (refl, refl)
sharing true false h = absurd (true≢false (sym h))
sharing false a h = absurd (true≢false (sym h))

or_last : (a b : Bool) → a ≡ false → (a || b) ≡ true → b ≡ true
or_last true b e h = absurd (true≢false e)
or_last false b e h = h

-- no rule is broken, so no two rows that a unique index guards agree
none_agrees : (schema : Schema) (table : Table) (trees : Trees) → Fits schema trees → Has schema.tables table → (row r : Row)
    → Has (trees table.tree) row → Has (trees table.tree) r → differ (rowid r) (rowid row) ≡ true
    → list_any (shares None table row r) schema.indexes ≡ true → ⊥
none_agrees schema table trees fits listed row r has_row has_r apart met =
    let one = some_has (shares None table row r) schema.indexes met in
    let kept : passes Unique schema trees table row ≡ true =
    all_has (λ row. passes Unique schema trees table row ≡ true)
    (trees table.tree) row (all_has (λ t. AllByRecursion (λ row. passes Unique schema trees t row
    ≡ true) (trees t.tree)) schema.tables table (fits.rules Unique not_unique) listed) has_row in
    let lone = test_has (λ i. not (guards i table && clashes i.order i.columns (trees table.tree) row)) schema.indexes one.0 kept one.1 in
    let i = one.0 in
    let split = sharing (guards one.0 table) (agree one.0.order one.0.columns r one.0.columns row) one.2 in
    let clash =
    some_from (λ other. agree one.0.order one.0.columns other one.0.columns row && differ (rowid other) (rowid row))
    (trees table.tree) r has_r (and_from _ _ split.1 apart) in
    true≢false (sym lone ∙ ap not (and_from (guards one.0 table) _ split.0 clash))

differs : (m n : ℤ) → value_cmp (Int m) (Int n) ≡ Less → differ (Int m) (Int n) ≡ true
unfolding binary
differs m n h = rw h refl

module _ {X K : Type 0} (s : Shape X K) (good : IsShape s) (schema : Schema) (listed : IsListed schema s) where
  -- a row that went in had a key that was free, so to put it in is to add it
  adds : (u : List ℕ) (x : X) (old new : Database) → AreRows (old.trees s.tree) → HasInserted schema (table_in s) (row_in s Null u x) old new
      → PutsRow schema s u x old new
  unfolding first_key
  adds u x old new are it =
      let rows = old.trees s.tree in
      let key = 1 ∷ s.keys in
      let id = next_rowid rows in
      let row : Row = row_in s (Int id) u x in
      let below = below_next rows are in
      let int_at : (r : Row) → Has rows r → rowid r ≡ Int (id_in (rowid r)) = λ r h. int_is (rowid r) (all_has _ rows r are.ints h) in
      let casts : (v : Value) → cast Integer v ≡ v → cast_row (table_in s) (row_in s v u x) ≡ row_in s v u x = λ v h. ap₂ ◌∷◌ h (good.fits u x) in
      let whole : new.trees s.tree ≡ rows ++ row ∷ [] = it.rows ∙ ap (λ r. put_row (with_rowid Chosen rows r) rows) (casts Null cast_null)
      ∙ put_last row rows below in
      let has_row : Has (new.trees s.tree) row = subst (λ l. Has l row) (sym whole) (has_right rows (row ∷ []) row (inl refl)) in
      let free : (r : Row) → Has rows r → is_eq (by_columns key row r) ≡ false = λ r h. false_from_ne_true _ (λ tie.
      let less = all_has _ rows r below h in
      let unequal : equal Binary (rowid r) (Int id) ≡ false = equal_is (rowid r) (Int id) refl ∙ ap is_eq less in
      let met = listed.alone (Text u ∷ s.cells x) r (Int id) unequal ∙ agree_is key r row (good.keyed (Int id) u x) ∙ tie in
      none_agrees schema (table_in s) new.trees it.fits (has_got schema.tables s.place (table_in s) listed.at) row r has_row
      (subst (λ l. Has l r) (sym whole) (has_left rows (row ∷ []) r h))
      (subst (λ v. differ v (Int id)
      ≡ true) (sym (int_at r h)) (differs (id_in (rowid r)) id (subst (λ v. value_cmp v (Int id) ≡ Less) (int_at r h) less))) (or_last (agree plain (0
      ∷ []) r (0 ∷ []) row) _ (ap (λ b. b && true) unequal) met)) in
      let same : taken_out (by_columns key) row rows ≡ rows =
      filter_all _ rows (all_from (λ r. not (is_eq (by_columns key row r)) ≡ true) rows (λ r h. ap not (free r h))) in
      let stays : rows ++ row ∷ [] ≡ taken_out (by_columns key) row rows ++ row ∷ [] = ap (λ l. l ++ row ∷ []) (sym same) in
      let last : put_row row rows ≡ rows ++ row ∷ [] = put_last row rows below in
      record {
        id = id;
        rows = whole ∙ stays;
        are = subst AreRows (sym whole)
            (record {
              rise = subst IsTable last (IsTable-put_row row rows are.rise);
              ints = all-append (λ r. is_int (rowid r) ≡ true) rows (row ∷ []) are.ints (refl, tt);
            });
        others = it.others;
        same_schema = it.same_schema;
      }

  pub adds_row : HasNoReferences schema → (text : List ℕ) (terms : List Term) (width : ℕ)
      → command_of (understood schema text) ≡ Insert s.place (Values terms width) → IsPlain (understood schema text)
      → (u : List ℕ) (x : X) → value_rows (stamped (table_in s) (Text u ∷ s.cells x)) width (length terms / width) terms ≡ row_in s Null u x ∷ []
      → (old new : State) → old.now.schema ≡ schema → AreRows (old.now.trees s.tree) → (count : ℕ)
      → Executes text (Text u ∷ s.cells x) old new (Ok count) → PutsRow schema s u x old.now new.now
  adds_row free text terms width is plain_text u x values old new has are count h =
      adds u x old.now new.now are (inserts schema free s.name s.tree s.columns (1 ∷ s.keys) text (Text u
      ∷ s.cells x) old new s.place terms width (row_in s Null u x) has listed.at is plain_text values count h)
