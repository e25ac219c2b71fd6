-- The statements that write, table by table.
use Rattle.std.proofs.Common.{Err, OnOk, Result, ◌≡◌, ◌≢◌, ◌⊎◌, inl, inr, ℕ, ◌/◌, length, List, [], ◌∷◌, ◌++◌, Ok, refl, sym, ap, ◌∙◌, subst, arith}
use Rattle.std.proofs.Common.{nat_cmp, false}
use Rattle.std.proofs.lemmas.List.Sums.{fold-append}
use Rattle.sqlite.specs.{Effect.{Database, IsDatabase, value_rows}, Rows.{stamped}, State.{State, Executes}}
use Rattle.sqlite_value.specs.{Keys.{first_key}, declared.value.Value.TheVariants.{Null, Text}}
use Rattle.plant_alarm.specs.declared.event.Event.{Event}
use Rattle.plant_import.specs.Numbers.{event_number, with_events}
use Rattle.plant_model.specs.declared.rows.{GrantRow.{GrantRow}, Key.TheVariants.{Grant as GrantKey, Shelf as ShelfKey}}
use Rattle.plant_model.specs.steps.RowChanges.{changed_by}
use Rattle.plant_model.specs.declared.rows.Row.TheVariants.{Event as EventPut, Unit as UnitPut}
use Rattle.plant_model.specs.declared.rows.{RowEdit.{RowEdit, TheVariants.{Put, PutEvents, Remove}}, ShelfRow.{ShelfRow}, UnitRow.{UnitRow}}
use Rattle.plant_model.specs.declared.rows.UnitRows.{UnitRows}
use Rattle.plant_types.specs.{KeyedRows.{IsInOrder, put_row}, Names.{Name}, declared.role.Role.{Role}}
use Rattle.plant_store_columns.specs.{Codes.{role}, Shape.{rows_in, row_in, table_in}}
use Rattle.plant_store_columns.specs.declared.tables.TableKind.{TableKind, TheVariants.{Units, Grants, Alarms, Shelves, Bands, Cells, Events, Records}}
use Rattle.plant_store_columns.specs.declared.tables.TableKind.TheVariants.{Changes}
use Rattle.plant_store_columns.specs.Tables.{AreBooks, AreSeen, KeyOf, RowOf, books_schema, office_table, own_key, rows_of_table, rows_seen, shape, unit_shape}
use Rattle.sqlite.proofs.Callers.{runs_as}
use Rattle.plant_store_columns.proofs.public.{Changes.{HasNoReferences}, Family.{Edits, edits, kept_at, same_table}, Inserted.{adds_row}}
use Rattle.plant_store_columns.proofs.public.{ShapeLaws.{all_listed, good, listed}, Shapes.{put_changes, remove_changes, removes_row, rises}}
use Rattle.sqlite.specs.{Held.{Held, state}, Values.{bound}, declared.error.Error.{Error}}
use Rattle.sqlite_trees.specs.declared.store.Store.{Ghosts}
use Rattle.sqlite_value.specs.declared.value.ValueRef.{ValueRef}
use Rattle.plant_store_statements.specs.{Changes.{Applies, as_row}, Texts.{put_text}, declared.texts.TheConstants.{DELETE_GRANT, DELETE_SHELF}}
use Rattle.plant_store_statements.proofs.public.Meanings.{by_two, by_three, put_terms, put_width, puts, remove_grant, remove_shelf}

-- what follows where a call succeeded
pub on_ok : {A E P Q : Type 0} (r : Result A E) → (P → Q) → OnOk r P → OnOk r Q
on_ok (Ok x) f h = f h
on_ok (Err e) f h = tt

pub free : HasNoReferences books_schema
free = (refl, (refl, (refl, (refl, (refl, (refl, (refl, (refl, (refl, (refl, tt))))))))))

-- ---- from one table to the changes of a unit

pub office_apart : (i : TableKind) → 0 ≢ (shape i).tree
office_apart Units e = omega arith
office_apart i e = omega arith

pub edits_apply : (i : TableKind) (u : Name) (change : List (RowOf i) → List (RowOf i)) (cs : List RowEdit) (old new : Database)
    → Edits RowOf KeyOf shape books_schema i u change old new
    → ((rows : UnitRows) → AreSeen u old rows → rows_of_table i (changed_by cs rows) ≡ change (rows_of_table i rows))
    → ((rows : UnitRows) (j : TableKind) → j ≢ i → rows_of_table j (changed_by cs rows) ≡ rows_of_table j rows)
    → (IsDatabase old → IsDatabase new) → Applies u cs old new
edits_apply i u change cs old new it here elsewhere database = record {
  books = it.tables;
  mine = λ rows seen j. one rows seen j (same_table RowOf KeyOf shape books_schema all_listed i j);
  others = λ v apart j. other v apart j (same_table RowOf KeyOf shape books_schema all_listed i j);
  office = kept_at books_schema (shape i).tree old.trees new.trees it.others 0 office_table refl (office_apart i);
  database = database;
}
  where
    one : (rows : UnitRows) → AreSeen u old rows → (j : TableKind) → (j ≡ i) ⊎ (j ≢ i)
        → rows_seen u new.trees j ≡ rows_of_table j (changed_by cs rows)
    one rows seen j (inl e) =
        subst (λ k. rows_seen u new.trees k ≡ rows_of_table k (changed_by cs rows)) (sym e) (it.mine ∙ ap change (seen i) ∙ sym (here rows seen))
    one rows seen j (inr apart) = ap (rows_in (shape j) u) (it.other_tables j apart) ∙ seen j ∙ sym (elsewhere rows j apart)

    other : (v : Name) → v ≢ u → (j : TableKind) → (j ≡ i) ⊎ (j ≢ i) → rows_seen v new.trees j ≡ rows_seen v old.trees j
    other v apart j (inl e) = subst (λ k. rows_seen v new.trees k ≡ rows_seen v old.trees k) (sym e) (it.other_units v apart)
    other v apart j (inr away) = ap (rows_in (shape j) v) (it.other_tables j away)

-- the cells of a row that is put, by computing for each table
values : (i : TableKind) (u : Name) (x : RowOf i)
    → value_rows (stamped (table_in (shape i)) (Text u ∷ (shape i).cells x)) (put_width i) (length (put_terms i) / put_width i)
    (put_terms i) ≡ row_in (shape i) Null u x ∷ []
values Units u x = refl
values i u x = refl

-- INSERT of a row of one table
put_in_table : (i : TableKind) (u : Name) (x : RowOf i) (old new : State) → AreBooks old.now → (count : ℕ)
    → Executes (put_text i) (Text u ∷ (shape i).cells x) old new (Ok count)
    → Edits RowOf KeyOf shape books_schema i u (put_row (shape i).order (shape i).key x) old.now new.now
put_in_table i u x old new books count h =
    edits RowOf KeyOf shape books_schema all_listed i u _ old.now new.now books (put_changes (shape i) (good i) books_schema u x old.now new.now
    (adds_row (shape i) (good i) books_schema (listed i) free (put_text i) (put_terms i) (put_width i) (puts i).is (puts i).plain u x
    (values i u x)
    old new books.same_schema (books.tidy i).are count h) (books.tidy i))

-- which leaves a database
put_database : (i : TableKind) (u : Name) (x : RowOf i) (old new : State) → AreBooks old.now → (count : ℕ)
    → Executes (put_text i) (Text u ∷ (shape i).cells x) old new (Ok count) → IsDatabase new.now
put_database i u x old new books count h =
    (runs_as (put_text i) (Text u ∷ (shape i).cells x) old new books_schema books.same_schema _ (puts i).is (puts i).plain count h).sound

-- ---- a unit has one row of its own at most

one_at_most : (r : UnitRow) (rows : List UnitRow) → IsInOrder nat_cmp own_key rows → put_row nat_cmp own_key r rows ≡ r ∷ []
one_at_most r [] h = refl
one_at_most r (x ∷ []) h = refl
one_at_most r (x ∷ y ∷ rows) h = absurd h

-- ---- the puts

-- a unit's rows with others of one table
abbrev pub with_rows : (i : TableKind) → List (RowOf i) → UnitRows → UnitRows
with_rows Units xs rows = record rows { units = xs }
with_rows Grants xs rows = record rows { grants = xs }
with_rows Alarms xs rows = record rows { alarms = xs }
with_rows Shelves xs rows = record rows { shelves = xs }
with_rows Bands xs rows = record rows { bands = xs }
with_rows Cells xs rows = record rows { cells = xs }
with_rows Events xs rows = record rows { events = xs }
with_rows Records xs rows = record rows { records = xs }
with_rows Changes xs rows = record rows { changes = xs }

-- the rows of all other tables stay
away : (i : TableKind) (xs : List (RowOf i)) (rows : UnitRows) (j : TableKind) → j ≢ i
    → rows_of_table j (with_rows i xs rows) ≡ rows_of_table j rows
away Units xs rows Units h = absurd (h refl)
away Grants xs rows Grants h = absurd (h refl)
away Alarms xs rows Alarms h = absurd (h refl)
away Shelves xs rows Shelves h = absurd (h refl)
away Bands xs rows Bands h = absurd (h refl)
away Cells xs rows Cells h = absurd (h refl)
away Events xs rows Events h = absurd (h refl)
away Records xs rows Records h = absurd (h refl)
away Changes xs rows Changes h = absurd (h refl)
away i xs rows j h = refl

-- a put into one table is the put of a unit
pub edited : (i : TableKind) (u : Name) (x : RowOf i) (old new : Database) → AreBooks old
    → Edits RowOf KeyOf shape books_schema i u (put_row (shape i).order (shape i).key x) old new → (IsDatabase old → IsDatabase new)
    → Applies u (Put (as_row i x) ∷ []) old new
edited Units u x old new books it database =
    edits_apply Units u (put_row nat_cmp own_key x) (Put (UnitPut x) ∷ []) old new it
    (λ rows seen. sym
    (one_at_most x rows.units
    (subst (IsInOrder nat_cmp own_key) (seen Units) (rises unit_shape (good Units) u (old.trees 1) (books.tidy Units)))))
    (λ rows. away Units (x ∷ []) rows) database
edited i u x old new books it database =
    edits_apply i u (put_row (shape i).order (shape i).key x) (Put (as_row i x) ∷ []) old new it (λ rows seen. refl)
    (λ rows. away i (put_row (shape i).order (shape i).key x (rows_of_table i rows)) rows) database

-- the statement that puts a row as a new one puts it, if it succeeds
abbrev pub PutsNew : TableKind → Type 1
PutsNew i = (S V : Type 0) (g : Ghosts S) (before after : Held S) (u : Name) (x : RowOf i) (cells : List ValueRef) (said : Result V Error)
    → bound cells ≡ Text u ∷ (shape i).cells x → AreBooks (state g before).now
    → OnOk said ((count : ℕ) × Executes (put_text i) (bound cells) (state g before) (state g after) (Ok count))
    → OnOk said (Applies u (Put (as_row i x) ∷ []) (state g before).now (state g after).now)

pub put_applies : (i : TableKind) → PutsNew i
put_applies i S V g before after u x cells said is books h =
    let old = state g before in
    let new = state g after in
    on_ok said
    (λ it. edited i u x old.now new.now books (put_in_table i u x old new books it.0 it.1) (λ _. put_database i u x old new books it.0 it.1))
    (rw is at h)

-- ---- the removes: a row of the key stands for the one that goes

abbrev grant_with : Name → Role → GrantRow
grant_with p r = record { person = p; role_no = r; end_s = Rattle.std.proofs.Common.None }

abbrev shelf_with : Name → ShelfRow
shelf_with a = record { tag = a; one_shot = false; start_s = 0; until_s = 0; person = []; words = [] }

pub remove_grant_applies : (u p : Name) (r : Role) (old new : State) → AreBooks old.now → (count : ℕ)
    → Executes DELETE_GRANT.now (Text u ∷ Text p ∷ role r ∷ []) old new (Ok count)
    → Applies u (Remove (GrantKey p r) ∷ []) old.now new.now
unfolding first_key
remove_grant_applies u p r old new books count h =
    edits_apply Grants u _ (Remove (GrantKey p r) ∷ []) old.now new.now
    (edits RowOf KeyOf shape books_schema all_listed Grants u _ old.now new.now books
    (remove_changes (shape Grants) (good Grants) books_schema u (grant_with p r) old.now new.now
    (removes_row (shape Grants) (good Grants) books_schema free (listed Grants) DELETE_GRANT.now by_three remove_grant.is remove_grant.plain
    (Text u
    ∷ Text p ∷ role r ∷ []) u (grant_with p r) (λ row. refl) old new books.same_schema (books.tidy Grants).are count h) (books.tidy Grants)))
    (λ rows seen. refl) (λ rows. away Grants _ rows)
    (λ _. (runs_as DELETE_GRANT.now (Text u ∷ Text p ∷ role r
    ∷ []) old new books_schema books.same_schema _ remove_grant.is remove_grant.plain count h).sound)

pub remove_shelf_applies : (u a : Name) (old new : State) → AreBooks old.now → (count : ℕ)
    → Executes DELETE_SHELF.now (Text u ∷ Text a ∷ []) old new (Ok count)
    → Applies u (Remove (ShelfKey a) ∷ []) old.now new.now
unfolding first_key
remove_shelf_applies u a old new books count h =
    edits_apply Shelves u _ (Remove (ShelfKey a) ∷ []) old.now new.now
    (edits RowOf KeyOf shape books_schema all_listed Shelves u _ old.now new.now books
    (remove_changes (shape Shelves) (good Shelves) books_schema u (shelf_with a) old.now new.now
    (removes_row (shape Shelves) (good Shelves) books_schema free (listed Shelves) DELETE_SHELF.now by_two remove_shelf.is remove_shelf.plain
    (Text u
    ∷ Text a ∷ []) u (shelf_with a) (λ row. refl) old new books.same_schema (books.tidy Shelves).are count h) (books.tidy Shelves)))
    (λ rows seen. refl) (λ rows. away Shelves _ rows)
    (λ _. (runs_as DELETE_SHELF.now (Text u ∷ Text a
    ∷ []) old new books_schema books.same_schema _ remove_shelf.is remove_shelf.plain count h).sound)

pub shelf_removed : {S V : Type 0} (g : Ghosts S) (before after : Held S) (u a : Name) (cells : List ValueRef) (said : Result V Error)
    → bound cells ≡ Text u ∷ Text a ∷ [] → AreBooks (state g before).now
    → OnOk said ((count : ℕ) × Executes DELETE_SHELF.now (bound cells) (state g before) (state g after) (Ok count))
    → OnOk said (Applies u (Remove (ShelfKey a) ∷ []) (state g before).now (state g after).now)
shelf_removed g before after u a cells said is books h =
    on_ok said (λ it. remove_shelf_applies u a (state g before) (state g after) books it.0 it.1) (rw is at h)

-- ---- several changes

pub changed_by-append : (xs ys : List RowEdit) (rows : UnitRows) → changed_by (xs ++ ys) rows ≡ changed_by ys (changed_by xs rows)
changed_by-append [] ys rows = refl
changed_by-append (x ∷ xs) ys rows = changed_by-append xs ys (changed_by (x ∷ []) rows)

pub applies_none : (u : Name) (db : Database) → AreBooks db → Applies u [] db db
applies_none u db books = record { books = books; mine = λ rows seen. seen; others = λ other apart i. refl; office = refl; database = λ h. h }

pub applies_then : (u : Name) (xs ys : List RowEdit) (a b c : Database) → Applies u xs a b → Applies u ys b c → Applies u (xs ++ ys) a c
applies_then u xs ys a b c p q = record {
  books = q.books;
  mine = λ rows seen. subst (AreSeen u c) (sym (changed_by-append xs ys rows)) (q.mine (changed_by xs rows) (p.mine rows seen));
  others = λ other apart i. q.others other apart i ∙ p.others other apart i;
  office = q.office ∙ p.office;
  database = λ h. q.database (p.database h);
}

-- one event more
with_one_more : (kept more : List Event) (e : Event) → with_events kept (more ++ e ∷ []) ≡ put_row nat_cmp event_number e (with_events kept more)
with_one_more kept more e = fold-append (λ es x. put_row nat_cmp event_number x es) kept more (e ∷ [])

pub applies_event : (u : Name) (xs : List Event) (e : Event) (a b c : Database) → Applies u (PutEvents xs ∷ []) a b
    → Applies u (Put (EventPut e) ∷ []) b c → Applies u (PutEvents (xs ++ e ∷ []) ∷ []) a c
applies_event u xs e a b c p q = record {
  books = q.books;
  mine = λ rows seen.
      let before : UnitRows = record rows { events = with_events rows.events xs } in
      subst (λ (es : List Event). AreSeen u c (record rows { events = es })) (sym (with_one_more rows.events xs e))
      (q.mine before (p.mine rows seen));
  others = λ other apart i. q.others other apart i ∙ p.others other apart i;
  office = q.office ∙ p.office;
  database = λ h. q.database (p.database h);
}
