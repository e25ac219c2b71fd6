-- What an UPDATE of the one row of a key does.
use Rattle.std.specs.{Cmp.{IsTotalOrder}, List.{AllByRecursion}, Ordering.{match_ordering, ordering_reverse}}
use Rattle.std.proofs.Common.{◌≡◌, ◌≢◌, inl, inr, ℕ, Bool, true, false, not, cond, List, [], ◌∷◌, ◌++◌, append-nil, map, filter, slice_get, None, Some, Ok, refl, sym, ap, ap₂, subst, ◌∙◌, true≢false, is_eq, Ordering, Less, Equal, Greater, IsPermutation, length, nat_eq, unwrap_or}
use Rattle.std.proofs.lemmas.{Bool.{false_from_ne_true, not-true}, Cmp.{alike_right}}
use Rattle.std.proofs.lemmas.List.{length-map, nil_from_length, Elements.{filter-append}, Sorted.{length_permutation}}
use Rattle.sqlite.specs.{Cast.{cast, cast_row}, Command.TheVariants.{Update}, Does.{Tally, Does, OnRows, AtPlace}, Edit.{edit_of}, Effect.{Database}}
use Rattle.sqlite.specs.{Kind.TheVariants.{Integer}, Listing.{understood}, Order.{Row}, Program.{overlay}}
use Rattle.sqlite.specs.{Query.{Query, IsAnswer, Output, inner, end}, Rowids.TheVariants.{Given}, Rows.{Written}, Schema.{Schema}}
use Rattle.sqlite.specs.{State.{State, mode_of, Executes}, Table.{Table}, Term.{Term}, Tree.{Trees, rowid, put_row}}
use Rattle.sqlite.proofs.Callers.{IsPlain, command_of, statement_of, runs_as, one_permutation}
use Rattle.sqlite_keyed.{specs.Lists.{sort_by, insert_sorted}, proofs.ListLemmas.{all-filter, all_weaker, ascending-filter, filter_none, filter_same}}
use Rattle.sqlite_rules.specs.{Calls.{ids_of}, Edit.{id_in, numbered, put_all, without_all}, Lists.{Has}}
use Rattle.sqlite_rules.proofs.{ListLemmas.{all_has, all_from, has_kept, has_filtered}, PlaceLemmas.{given, tied_same}, TableLemmas.{int_is}}
use Rattle.sqlite_trees.{specs.View.{is_int}, proofs.TreeLemmas.{IsTable-put_row, all-put_row}}
use Rattle.sqlite_value.specs.{Order.{bytes, column, value_cmp}, declared.value.Value.{Value, TheVariants.{Null}}}
use Rattle.plant_store_columns.specs.{Kept.{taken_out, by_columns, is_of, kept, plain_query}, Shape.{Shape, table_in, row_in, IsRowIn, rows_in}}
use Rattle.plant_store_columns.{specs.Tidy.{AreRows, AreApart, IsTidy}, proofs.{Rows.{AreFound, without_found}, Shared.{put_mine, put_other}}}
use Rattle.plant_store_columns.proofs.public.Changes.{went, same_value, KeepsOthers, HasNoReferences, lone_step}
use Rattle.plant_store_columns.proofs.public.Bridge.{alike_left}
use Rattle.plant_store_columns.proofs.public.Kept.{HasNoTies, apart_from, no_ties-out, sort_push, tied_turns}
use Rattle.plant_store_columns.proofs.public.{Keys.{by_columns_total}, Laws.{cast_int, reads, passes, shows}}
use Rattle.plant_store_columns.proofs.public.Shapes.{ChangesRows, IsShape, IsListed, agrees_in, is_row, named}
use Rattle.plant_types.proofs.public.KeyedRowLaws.{tied}
use Rattle.plant_types.specs.KeyedRows as model

-- The rows that are answered are taken out by their rowids, and what is to stand for them is put in.
pub record HasUpdated (schema : Schema) (table : Table) (q : Query) (params : Row) (count : ℕ) (old new : Database) : Type 0 where
  pub found : List Row
  pub counted : count ≡ length found
  pub answer : IsAnswer q (overlay old.trees []) params found
  pub rows : new.trees table.tree ≡ put_all (without_all (old.trees table.tree) (ids_of found))
      (map (λ s. cast_row table (Rattle.std.proofs.Common.drop 1 s)) found)
  pub others : KeepsOthers schema table.tree old.trees new.trees
  pub same_schema : new.schema ≡ schema

pub updates : (schema : Schema) → HasNoReferences schema → (text : List ℕ) (params : Row) (old new : State) (at : ℕ) (table : Table) (q : Query)
    → old.now.schema ≡ schema → slice_get schema.tables at ≡ Some table
    → command_of (understood schema text) ≡ Update at (record { lets = []; body = q }) → IsPlain (understood schema text)
    → (count : ℕ) → Executes text params old new (Ok count) → HasUpdated schema table q params count old.now new.now
updates schema free text params old new at table q has listed is plain count h =
    let command = Update at (record { lets = []; body = q }) in
    let db = old.now.trees in
    let w = runs_as text params old new schema has command is plain count h in
    let sql = statement_of text (understood schema text) in
    let does =
    subst (λ s. Does old.step_limit (mode_of old) params (record old.now { schema = s }) sql None command (Ok (w.tally, new.now))) has
    w.changed in
    let on = subst
    (λ o. AtPlace (λ t. OnRows (record {
      limit = old.step_limit;
      keys = (mode_of old).keys;
      schema = schema;
      table = t;
      params = params;
    }) (mode_of old) None command db) o (Ok (w.tally, new.now))) listed does in
    let done = went on in
    let now = ap (λ (p : Tally × Database). p.1) (same_value (went (went done.2).2).2) in
    let got = went done.1 in
    let written = went got.2 in
    let trees : done.0.trees ≡ written.0 = ap (λ (it : Written). it.trees) (same_value written.2) in
    let step = lone_step schema free (mode_of old).keys db written.0 (edit_of db table (ids_of got.0) Given 1 got.0) written.1 in
    let all : new.now.trees ≡ written.0 = ap (λ (d : Database). d.trees) now ∙ trees in
    let left = without_all (db table.tree) (ids_of got.0) in
    let news : List Row = map (λ (s : Row). cast_row table (Rattle.std.proofs.Common.drop 1 s)) got.0 in
    let placed : put_all left (numbered Given left news) ≡ put_all left news = ap (put_all left) (given left news) in
    let told : w.tally.rows ≡ Some (length done.0.rows) = ap (λ (p : Tally × Database). p.0.rows) (same_value (went (went done.2).2).2) in
    let shown : done.0.rows ≡ news = ap (λ (it : Written). it.rows) (same_value written.2) ∙ given left news in
    record {
      found = got.0;
      counted = w.counted ∙ ap (λ r. unwrap_or r 0) told ∙ ap length shown
          ∙ length-map got.0 (λ (s : Row). cast_row table (Rattle.std.proofs.Common.drop 1 s));
      answer = got.1.answer Null;
      rows = ap (λ (t : Trees). t table.tree) all ∙ step.rows ∙ placed;
      others = subst (KeepsOthers schema table.tree db) (sym all) step.tables;
      same_schema = ap (λ (d : Database). d.schema) now;
    }

-- ---- a row put where its rowid says

module _ (cmp : Row → Row → Ordering) (total : IsTotalOrder cmp) (p : Row → Bool) (x : Row) where
  pushed : (l : List Row) → AllByRecursion (λ z. is_eq (cmp x z) ≡ false) l → (b : Bool)
      → sort_by cmp (cond b (x ∷ filter p l) (filter p l)) ≡ sort_by cmp (filter p l ++ cond b (x ∷ []) [])
  pushed l apart true = sym (sort_push cmp total x (filter p l) (all-filter _ p l apart))
  pushed l apart false = ap (sort_by cmp) (sym (append-nil (filter p l)))

  -- sorted, a row that lies elsewhere lies in its place all the same
  pub kept-placed : (zs : List Row) → AllByRecursion (λ z. is_eq (value_cmp (rowid z) (rowid x)) ≡ false) zs
      → AllByRecursion (λ z. is_eq (cmp x z) ≡ false) zs → kept cmp p (put_row x zs) ≡ kept cmp p (zs ++ x ∷ [])
  kept-placed [] far apart = refl
  kept-placed (z ∷ zs) far apart = go (value_cmp (rowid z) (rowid x)) refl (kept-placed zs far.1 apart.1)
    where
      go : (o : Ordering) → value_cmp (rowid z) (rowid x) ≡ o → kept cmp p (put_row x zs) ≡ kept cmp p (zs ++ x ∷ [])
          → kept cmp p (match_ordering o (z ∷ put_row x zs) (x ∷ zs) (x ∷ z ∷ zs)) ≡ kept cmp p (z ∷ zs ++ x ∷ [])
      go Less e more =
          elim (p z) as (λ b. sort_by cmp (cond b (z ∷ filter p (put_row x zs)) (filter p (put_row x zs)))
          ≡ sort_by cmp (cond b (z ∷ filter p (zs ++ x ∷ [])) (filter p (zs ++ x ∷ []))))
          [ true ↦ ap (insert_sorted cmp z) more | false ↦ more ]
      go Equal e more = absurd (true≢false (sym (ap is_eq e) ∙ far.0))
      go Greater e more = pushed (z ∷ zs) apart (p x) ∙ sym (ap (sort_by cmp) (filter-append p (z ∷ zs) (x ∷ [])))

  -- those that tie with x are one
  pub lone : (rows : List Row) → HasNoTies cmp total rows → (r : Row) → Has rows r → is_eq (cmp x r) ≡ true
      → filter (λ y. is_eq (cmp x y)) rows ≡ r ∷ []
  lone [] apart r h tie = absurd h
  lone (y ∷ ys) apart r (inl e) tie =
      let first : is_eq (cmp x y) ≡ true = subst (λ z. is_eq (cmp x z) ≡ true) e tie in
      let none : filter (λ y. is_eq (cmp x y)) ys ≡ [] =
      filter_none _ ys (all_weaker _ (λ z. is_eq (cmp x z) ≡ false) (λ z far. ap is_eq (alike_left cmp (λ r. r) total x y z (tied _ _ first refl))
      ∙ far) ys apart.0) in
      rw (first, none) (ap (λ z. z ∷ []) (sym e))
  lone (y ∷ ys) apart r (inr h) tie =
      let far : is_eq (cmp y r) ≡ false = all_has _ ys r apart.0 h in
      let second : is_eq (cmp x y) ≡ false =
      false_from_ne_true _ (λ k. true≢false (sym tie ∙ ap is_eq (alike_left cmp (λ r. r) total x y r (tied _ _ k refl)) ∙ far)) in
      rw second (lone ys apart.1 r h tie)

pub no_ties-placed : (cmp : Row → Row → Ordering) (total : IsTotalOrder cmp) (x : Row) (zs : List Row)
    → AllByRecursion (λ z. is_eq (cmp x z) ≡ false) zs → HasNoTies cmp total zs → HasNoTies cmp total (put_row x zs)
no_ties-placed cmp total x [] far apart = (tt, tt)
no_ties-placed cmp total x (z ∷ zs) far apart = go (value_cmp (rowid z) (rowid x)) (no_ties-placed cmp total x zs far.1 apart.1)
  where
    go : (o : Ordering) → HasNoTies cmp total (put_row x zs) → HasNoTies cmp total (match_ordering o (z ∷ put_row x zs) (x ∷ zs) (x ∷ z ∷ zs))
    go Less more = (all-put_row (λ y. is_eq (cmp z y) ≡ false) x zs (tied_turns cmp total x z far.0) apart.0, more)
    go Equal more = (far.1, apart.1)
    go Greater more = (far, apart)

-- ---- the row of one key of a table, changed where it lies

pub record SetsRow {X K : Type 0} (schema : Schema) (s : Shape X K) (u : List ℕ) (x : X) (old new : Database) : Type 0 where
  pub id : Value
  pub far : AllByRecursion (λ z. is_eq (value_cmp (rowid z) id) ≡ false) (taken_out (by_columns (1 ∷ s.keys)) (row_in s id u x) (old.trees s.tree))
  pub rows : new.trees s.tree ≡ put_row (row_in s id u x) (taken_out (by_columns (1 ∷ s.keys)) (row_in s id u x) (old.trees s.tree))
  pub are : AreRows (new.trees s.tree)
  pub others : KeepsOthers schema s.tree old.trees new.trees
  pub same_schema : new.schema ≡ schema

module _ {X K : Type 0} (s : Shape X K) (good : IsShape s) (schema : Schema) (free : HasNoReferences schema) (listed : IsListed schema s) where
  -- The tests find the rows of the key of x, one is there, and what is shown of it is its rowid and x in its place.
  pub sets_row : (text : List ℕ) (tests project : List Term)
      → command_of (understood schema text) ≡ Update s.place (record { lets = []; body = plain_query (inner s.tree end) tests project [] })
      → IsPlain (understood schema text)
      → (params : Row) (u : List ℕ) (x : X) (old new : State) → old.now.schema ≡ schema → AreRows (old.now.trees s.tree)
      → AreApart (1 ∷ s.keys) (old.now.trees s.tree)
      → (r : Row) → ((y : Row) → passes s.tree tests project [] params y ≡ is_eq (by_columns (1 ∷ s.keys) (row_in s (rowid r) u x) y))
      → Has (old.now.trees s.tree) r → is_eq (by_columns (1 ∷ s.keys) (row_in s (rowid r) u x) r) ≡ true
      → (shows s.tree tests project [] params r).1 ≡ rowid r ∷ row_in s (rowid r) u x
      → (count : ℕ) → Executes text params old new (Ok count) → SetsRow schema s u x old.now new.now
  sets_row text tests project is plain_text params u x old new has are apart r same there tie shown count h =
      let it = updates schema free text params old new s.place (table_in s)
      (plain_query (inner s.tree end) tests project []) has listed.at is plain_text count h in
      let key = 1 ∷ s.keys in
      let cmp = by_columns key in
      let rows = old.now.trees s.tree in
      let p = λ (y : Row). is_eq (cmp (row_in s (rowid r) u x) y) in
      let show = shows s.tree tests project [] params in
      let one : filter p rows ≡ r ∷ [] = lone cmp (by_columns_total key) p (row_in s (rowid r) u x) rows apart r there tie in
      let read = reads s.tree tests project [] old.now.trees params it.found it.answer in
      let ordered : read.ordered ≡ show r ∷ [] =
      one_permutation (show r) read.ordered
      (subst (λ l. IsPermutation (map show l) read.ordered) (filter_same (passes s.tree tests project [] params) p same rows ∙ one) read.same) in
      let found : it.found ≡ (rowid r ∷ row_in s (rowid r) u x) ∷ [] = read.rows_are ∙ ap (map (λ (o : Output). o.1)) ordered
      ∙ ap (λ (y : Row). y ∷ []) shown in
      let ids : ids_of it.found ≡ ids_of ((rowid r ∷ []) ∷ []) = ap ids_of found in
      let met : AreFound p rows ((rowid r ∷ []) ∷ []) = record {
        sound = λ y e. (r, there, tie, from_one y (rowid r ∷ []) e);
        complete = λ y e k. inl (ap (λ (z : Row). rowid z ∷ []) (from_one y r (subst (λ l. Has l y) one (has_kept p rows y e k))));
      } in
      let left : without_all rows (ids_of it.found) ≡ filter (λ y. not (p y)) rows = ap (without_all rows) ids
      ∙ without_found p rows ((rowid r ∷ []) ∷ []) are met in
      let casts : cast_row (table_in s) (row_in s (rowid r) u x) ≡ row_in s (rowid r) u x =
      ap₂ ◌∷◌ (subst (λ v. cast Integer v ≡ v) (sym (int_is (rowid r) (all_has _ rows r are.ints there))) (cast_int (id_in (rowid r))))
      (good.fits u x) in
      let news : map (λ (s' : Row). cast_row (table_in s) (Rattle.std.proofs.Common.drop 1 s')) it.found ≡ row_in s (rowid r) u x ∷ [] =
      ap (map (λ (s' : Row). cast_row (table_in s) (Rattle.std.proofs.Common.drop 1 s'))) found ∙ ap (λ (y : Row). y ∷ []) casts in
      let whole : new.now.trees s.tree ≡ put_row (row_in s (rowid r) u x) (filter (λ y. not (p y)) rows) = it.rows ∙ ap₂ put_all left news in
      let kept_are : AreRows (filter (λ y. not (p y)) rows) =
      record { rise = ascending-filter _ (λ y. not (p y)) rows are.rise; ints = all-filter _ (λ y. not (p y)) rows are.ints } in
      record {
        id = rowid r;
        far = all_from _ (filter (λ y. not (p y)) rows) (λ y e.
            let k = has_filtered (λ y. not (p y)) rows y e in
            false_from_ne_true _ (λ q. true≢false (sym tie ∙ ap p (sym (tied_same rows y r are.rise k.0 there (tied _ _ q refl)))
            ∙ not-true (p y) k.1)));
        rows = whole;
        are = subst AreRows (sym whole) (record {
          rise = IsTable-put_row (row_in s (rowid r) u x) _ kept_are.rise;
          ints = all-put_row (λ r. is_int (rowid r) ≡ true) (row_in s (rowid r) u x) _ (all_has _ rows r are.ints there) kept_are.ints;
        });
        others = it.others;
        same_schema = it.same_schema;
      }
    where
      from_one : (y z : Row) → Has (z ∷ []) y → y ≡ z
      from_one y z (inl e) = e
      from_one y z (inr h) = absurd h

-- ---- where no row passes, none is changed

module _ {X K : Type 0} (s : Shape X K) (schema : Schema) (free : HasNoReferences schema) (listed : IsListed schema s) where
  -- the count is that of the rows that pass
  pub counts : (text : List ℕ) (tests project : List Term)
      → command_of (understood schema text) ≡ Update s.place (record { lets = []; body = plain_query (inner s.tree end) tests project [] })
      → IsPlain (understood schema text)
      → (params : Row) (old new : State) → old.now.schema ≡ schema → (count : ℕ) → Executes text params old new (Ok count)
      → count ≡ length (filter (passes s.tree tests project [] params) (old.now.trees s.tree))
  counts text tests project is plain_text params old new has count h =
      let it = updates schema free text params old new s.place (table_in s)
      (plain_query (inner s.tree end) tests project []) has listed.at is plain_text count h in
      let read = reads s.tree tests project [] old.now.trees params it.found it.answer in
      let some = filter (passes s.tree tests project [] params) (old.now.trees s.tree) in
      it.counted ∙ ap length read.rows_are ∙ length-map read.ordered (λ (o : Output). o.1)
      ∙ length_permutation (map (shows s.tree tests project [] params) some) read.ordered read.same
      ∙ length-map some (shows s.tree tests project [] params)

  pub leaves : (text : List ℕ) (tests project : List Term)
      → command_of (understood schema text) ≡ Update s.place (record { lets = []; body = plain_query (inner s.tree end) tests project [] })
      → IsPlain (understood schema text)
      → (params : Row) (old new : State) → old.now.schema ≡ schema → Executes text params old new (Ok 0)
      → IsTidy (IsRowIn s) (1 ∷ s.keys) (old.now.trees s.tree) → (u : List ℕ) → ChangesRows schema s u (λ rows. rows) old.now new.now
  leaves text tests project is plain_text params old new has h tidy u =
      let it = updates schema free text params old new s.place (table_in s)
      (plain_query (inner s.tree end) tests project []) has listed.at is plain_text 0 h in
      let none : it.found ≡ [] = nil_from_length it.found (sym it.counted) in
      let same = it.rows
      ∙ ap (λ (found : List Row). put_all (without_all (old.now.trees s.tree) (ids_of found))
      (map (λ (s' : Row). cast_row (table_in s) (Rattle.std.proofs.Common.drop 1 s')) found)) none in
      record {
        tidy = subst (IsTidy (IsRowIn s) (1 ∷ s.keys)) (sym same) tidy;
        mine = ap (rows_in s u) same;
        other_units = λ v other. ap (rows_in s v) same;
        others = it.others;
        same_schema = it.same_schema;
      }

-- ---- the row of a key is changed where it lies, if there is one

module _ {X K : Type 0} (s : Shape X K) (good : IsShape s) (schema : Schema) (free : HasNoReferences schema) (listed : IsListed schema s) where
  -- the tests find the rows of the key of x, and of a row with that key x is shown, behind its rowid
  pub sets_some : (text : List ℕ) (tests project : List Term)
      → command_of (understood schema text) ≡ Update s.place (record { lets = []; body = plain_query (inner s.tree end) tests project [] })
      → IsPlain (understood schema text)
      → (params : Row) (u : List ℕ) (x : X)
      → ((id : Value) (y : Row) → passes s.tree tests project [] params y ≡ is_eq (by_columns (1 ∷ s.keys) (row_in s id u x) y))
      → ((id : Value) (v : List ℕ) (y : X) → is_eq (by_columns (1 ∷ s.keys) (row_in s id u x) (row_in s id v y)) ≡ true
      → (shows s.tree tests project [] params (row_in s id v y)).1 ≡ id ∷ row_in s id u x)
      → (old new : State) → old.now.schema ≡ schema → IsTidy (IsRowIn s) (1 ∷ s.keys) (old.now.trees s.tree) → (count : ℕ) → nat_eq count 0 ≡ false
      → Executes text params old new (Ok count) → SetsRow schema s u x old.now new.now
  sets_some text tests project is plain_text params u x same shown old new has tidy count some h =
      go (filter (passes s.tree tests project [] params) (old.now.trees s.tree))
      (λ r k. has_filtered (passes s.tree tests project [] params) (old.now.trees s.tree) r k)
      (counts s schema free listed text tests project is plain_text params old new has count h)
    where
      go : (l : List Row) → ((r : Row) → Has l r → Has (old.now.trees s.tree) r × (passes s.tree tests project [] params r ≡ true)) → count ≡ length l
          → SetsRow schema s u x old.now new.now
      go [] back many = absurd (true≢false (sym (ap (λ (n : ℕ). nat_eq n 0) many) ∙ some))
      go (r ∷ l) back many =
          let it = back r (inl refl) in
          let whole : r ≡ row_in s (rowid r) (bytes (column r 1)) (s.read r) = all_has (IsRowIn s) (old.now.trees s.tree) r tidy.each it.0 in
          let tie : is_eq (by_columns (1 ∷ s.keys) (row_in s (rowid r) u x) r) ≡ true = sym (same (rowid r) r) ∙ it.1 in
          let tied : is_eq (by_columns (1 ∷ s.keys) (row_in s (rowid r) u x) (row_in s (rowid r) (bytes (column r 1)) (s.read r))) ≡ true =
          sym (ap (λ (y : Row). is_eq (by_columns (1 ∷ s.keys) (row_in s (rowid r) u x) y)) whole) ∙ tie in
          let there : (shows s.tree tests project [] params r).1 ≡ rowid r ∷ row_in s (rowid r) u x =
          ap (λ (y : Row). (shows s.tree tests project [] params y).1) whole ∙ shown (rowid r) (bytes (column r 1)) (s.read r) tied in
          sets_row s good schema free listed text tests project is plain_text params u x old new has tidy.are tidy.apart r (same (rowid r)) it.0 tie
          there count h

-- ---- what that leaves of the rows of each unit: as if the row had been put anew

module _ {X K : Type 0} (s : Shape X K) (good : IsShape s) (schema : Schema) (u : List ℕ) (x : X) (old new : Database)
    (it : SetsRow schema s u x old new) (tidy : IsTidy (IsRowIn s) (1 ∷ s.keys) (old.trees s.tree)) where
  abbrev cmp : Row → Row → Ordering
  cmp = by_columns (1 ∷ s.keys)

  abbrev row : Row
  row = row_in s it.id u x

  abbrev left : List Row
  left = taken_out (by_columns (1 ∷ s.keys)) (row_in s it.id u x) (old.trees s.tree)

  placed : (v : List ℕ) → rows_in s v (new.trees s.tree) ≡ rows_in s v (left ++ row ∷ [])
  placed v = ap (rows_in s v) it.rows
      ∙ ap (map s.read)
      (kept-placed cmp (by_columns_total (1
      ∷ s.keys)) (is_of v) row left it.far (apart_from cmp (by_columns_total (1 ∷ s.keys)) row (old.trees s.tree)))

  pub set_changes : ChangesRows schema s u (model.put_row s.order s.key x) old new
  set_changes = record {
    tidy = subst (IsTidy (IsRowIn s) (1 ∷ s.keys)) (sym it.rows) (record {
      are = subst AreRows it.rows it.are;
      each = all-put_row (IsRowIn s) row left (is_row s good it.id u x) (all-filter (IsRowIn s) _ (old.trees s.tree) tidy.each);
      apart = no_ties-placed cmp (by_columns_total (1 ∷ s.keys)) row left (apart_from cmp (by_columns_total (1 ∷ s.keys)) row (old.trees s.tree))
          (no_ties-out cmp (by_columns_total (1 ∷ s.keys)) _ (old.trees s.tree) tidy.apart);
    });
    mine = placed u
        ∙ put_mine s.keys (IsRowIn s) s.order good.total s.key s.read (named s good)
        (agrees_in s good) u row (old.trees s.tree) refl (is_row s good it.id u x) tidy
        ∙ ap (λ y. model.put_row s.order s.key y (rows_in s u (old.trees s.tree))) (good.back it.id u x);
    other_units = λ v other. placed v
        ∙ put_other s.keys (IsRowIn s) s.order good.total s.key s.read (named s good) (agrees_in s good) u v row (old.trees s.tree) refl other;
    others = it.others;
    same_schema = it.same_schema;
  }
