-- A row replaces the one with its key if any, and is otherwise inserted.
use Rattle.std.specs.{FinMap.{nat_cmp-IsAntisymmetric}, Ordering.{ordering_then}}
use Rattle.std.proofs.Common.{IfOk, Result, arith, ◌≡◌, ℕ, zero, suc, true, false, List, [], ◌∷◌, drop, Ok, refl, sym, ap, ◌∙◌, subst, is_eq, Ordering, Equal, true≢false, nat_eq}
use Rattle.std.proofs.lemmas.Bool.{and_parts, Decides.{nat_tests}}
use Rattle.sqlite.proofs.Callers.{runs_as}
use Rattle.sqlite.specs.{Effect.{Database}, Held.{Held, state}, State.{State, Executes}, Term.{Term}, Values.{bound}, declared.error.Error.{Error}}
use Rattle.sqlite_trees.specs.declared.store.Store.{Ghosts}
use Rattle.sqlite_schema.specs.Rules.{agree}
use Rattle.sqlite_value.specs.{Keys.{first_key, plain}, Order.{Row, value_cmp}, declared.value.Value.{Value, TheVariants.{Text}}}
use Rattle.sqlite_value.specs.declared.value.ValueRef.{ValueRef}
use Rattle.plant_model.specs.declared.rows.GrantRow.{GrantRow}
use Rattle.plant_model.specs.declared.rows.{RowEdit.{RowEdit, TheVariants.{Put}}, UnitRow.{UnitRow}}
use Rattle.plant_model.specs.steps.RowFacts.{alarm_tag, record_tag, shelf_tag}
use Rattle.plant_types.{specs.{KeyedRows.{put_row}, Names.{Name}, Roles.{role_no}}, proofs.public.KeyedRowLaws.{tied}}
use Rattle.plant_store_columns.specs.{Codes.{number, open_number, role}, Kept.{by_columns}, Shape.{row_in}}
use Rattle.plant_store_columns.specs.declared.tables.TableKind.{TableKind, TheVariants.{Alarms, Changes, Grants, Records, Shelves, Units}}
use Rattle.plant_store_columns.specs.Tables.{AreBooks, KeyOf, RowOf, alarm_shape, books_schema, change_shape, grant_shape, record_shape, shape, shelf_shape, unit_shape}
use Rattle.plant_store_columns.proofs.public.{Family.{Edits, edits}, Keys.{agree_is, same_text, then_tied}, Laws.{passes, shows}}
use Rattle.plant_store_columns.proofs.public.{ShapeLaws.{all_listed, good, listed, numbers}, Updated.{leaves, set_changes, sets_some}}
use Rattle.plant_store_statements.specs.{Changes.{Applies, as_row}, Statements.{changes_written}}
use Rattle.plant_store_statements.specs.declared.texts.TheConstants.{UPDATE_ALARM, UPDATE_CHANGE, UPDATE_RECORD, UPDATE_UNIT}
use Rattle.plant_store_statements.proofs.public.Meanings.{Updates, by_two, by_unit, over_alarm, over_change, over_record, over_unit, over_unit_shows}
use Rattle.plant_store_statements.proofs.public.Queries.{if_ok}
use Rattle.plant_store_statements.proofs.public.Writes.{edited, edits_apply, free}

-- ---- cells of a key that tie are the same

same_number : (m n : ℕ) → is_eq (value_cmp (number m) (number n)) ≡ true → m ≡ n
same_number m n h = nat_cmp-IsAntisymmetric m n (sym (numbers m n) ∙ tied _ _ h refl)

both_tie : (a b : Ordering) → is_eq (ordering_then a b) ≡ true → (is_eq a ≡ true) × (is_eq b ≡ true)
both_tie a b h = and_parts _ _ (sym (then_tied a b) ∙ h)

-- ---- in one table

written_over : (i : TableKind) (text : List ℕ) (tests terms : List Term) → Updates (shape i) text tests terms
    → (u : Name) (x : RowOf i)
    → ((id : Value) (y : Row)
    → passes (shape i).tree tests terms [] (Text u ∷ (shape i).cells x) y ≡ agree plain (1 ∷ (shape i).keys) y (1 ∷ (shape i).keys)
    (row_in (shape i) id u x))
    → ((id : Value) (v : Name) (y : RowOf i) → is_eq (by_columns (1 ∷ (shape i).keys) (row_in (shape i) id u x) (row_in (shape i) id v y)) ≡ true
    → (shows (shape i).tree tests terms [] (Text u ∷ (shape i).cells x) (row_in (shape i) id v y)).1 ≡ id ∷ row_in (shape i) id u x)
    → (old new : State) → AreBooks old.now → (count : ℕ) → nat_eq count 0 ≡ false → Executes text (Text u ∷ (shape i).cells x) old new (Ok count)
    → Edits RowOf KeyOf shape books_schema i u (put_row (shape i).order (shape i).key x) old.now new.now
written_over i text tests terms over u x same shown old new books count some h =
    edits RowOf KeyOf shape books_schema all_listed i u _ old.now new.now books (set_changes (shape i) (good i) books_schema u x old.now new.now
    (sets_some (shape i) (good i) books_schema free (listed i) text tests terms over.is over.plain (Text u ∷ (shape i).cells x) u x
    (λ id y. same id y
    ∙ agree_is (1 ∷ (shape i).keys) y (row_in (shape i) id u x)
    ((good i).keyed id u x)) shown old new books.same_schema (books.tidy i) count some h) (books.tidy i))

none_written : (i : TableKind) (text : List ℕ) (tests terms : List Term) → Updates (shape i) text tests terms
    → (u : Name) (params : Row) (old new : State) → AreBooks old.now → Executes text params old new (Ok 0) → Applies u [] old.now new.now
none_written i text tests terms over u params old new books h =
    edits_apply i u (λ rows. rows) [] old.now new.now
    (edits RowOf KeyOf shape books_schema all_listed i u _ old.now new.now books
    (leaves (shape i) books_schema free (listed i) text tests terms over.is over.plain params old new books.same_schema h (books.tidy i) u))
    (λ rows seen. refl) (λ rows j other. refl)
    (λ _. (runs_as text params old new books_schema books.same_schema _ over.is over.plain 0 h).sound)

not_zero : (n : ℕ) → nat_eq (suc n) 0 ≡ false
not_zero n = grind (arith, nat_tests)

-- if the statement that writes over the row of a key succeeds, that row is replaced, if any
abbrev pub PutsOver : TableKind → List ℕ → Type 1
PutsOver i text = (S : Type 0) (g : Ghosts S) (before after : Held S) (u : Name) (x : RowOf i) (cells : List ValueRef) (said : Result ℕ Error)
    → bound cells ≡ Text u ∷ (shape i).cells x → AreBooks (state g before).now
    → IfOk said (λ count. Executes text (bound cells) (state g before) (state g after) (Ok count))
    → IfOk said (λ count. Applies u (changes_written count (Put (as_row i x))) (state g before).now (state g after).now)

puts_over : (i : TableKind) (text : List ℕ) (tests terms : List Term) → Updates (shape i) text tests terms
    → ((u : Name) (x : RowOf i) (id : Value) (y : Row)
    → passes (shape i).tree tests terms [] (Text u ∷ (shape i).cells x) y ≡ agree plain (1 ∷ (shape i).keys) y (1 ∷ (shape i).keys)
    (row_in (shape i) id u x))
    → ((u : Name) (x : RowOf i) (id : Value) (v : Name) (y : RowOf i)
    → is_eq (by_columns (1 ∷ (shape i).keys) (row_in (shape i) id u x) (row_in (shape i) id v y)) ≡ true
    → (shows (shape i).tree tests terms [] (Text u ∷ (shape i).cells x) (row_in (shape i) id v y)).1 ≡ id ∷ row_in (shape i) id u x) → PutsOver i text
puts_over i text tests terms over same shown S g before after u x cells said is books h = if_ok said each (rw is at h)
  where
    each : (count : ℕ) → Executes text (Text u ∷ (shape i).cells x) (state g before) (state g after) (Ok count)
        → Applies u (changes_written count (Put (as_row i x))) (state g before).now (state g after).now
    each zero done = none_written i text tests terms over u (Text u ∷ (shape i).cells x) (state g before) (state g after) books done
    each (suc n) done =
        edited i u x (state g before).now (state g after).now books
        (written_over i text tests terms over u x (same u x) (shown u x) (state g before) (state g after) books (suc n) (not_zero n) done)
        (λ _. (runs_as text (Text u
        ∷ (shape i).cells x) (state g before) (state g after) books_schema books.same_schema _ over.is over.plain (suc n) done).sound)

is_zero : (n : ℕ) → nat_eq n 0 ≡ true → n ≡ 0
is_zero n e = grind (arith, nat_tests)

pub one_put : (u : Name) (change : RowEdit) (old new : Database) (count : ℕ) → nat_eq count 0 ≡ false
    → Applies u (changes_written count change) old new → Applies u (change ∷ []) old new
one_put u change old new zero some it = absurd (true≢false some)
one_put u change old new (suc n) some it = it

pub none_put : (u : Name) (change : RowEdit) (old new : Database) (count : ℕ) → nat_eq count 0 ≡ true
    → Applies u (changes_written count change) old new → Applies u [] old new
none_put u change old new count none it = subst (λ (n : ℕ). Applies u (changes_written n change) old new) (is_zero count none) it

-- ---- a unit's own row

unit_shown : (u : Name) (x : UnitRow) (id : Value) (v : Name) (y : UnitRow)
    → is_eq (by_columns (1 ∷ []) (row_in unit_shape id u x) (row_in unit_shape id v y)) ≡ true
    → (shows 1 by_unit over_unit_shows [] (Text u ∷ unit_shape.cells x) (row_in unit_shape id v y)).1 ≡ id ∷ row_in unit_shape id u x
unit_shown u x id v y tie =
    let unit : v ≡ u = sym (same_text u v (both_tie (value_cmp (Text u) (Text v)) Equal tie).0) in
    ap (λ w. (shows 1 by_unit over_unit_shows [] (Text u ∷ unit_shape.cells x) (row_in unit_shape id w y)).1) unit

pub unit_over : PutsOver Units UPDATE_UNIT.now
unfolding first_key
unit_over = puts_over Units UPDATE_UNIT.now by_unit _ over_unit (λ u x id y. refl) unit_shown

-- ---- where the key is the unit and a name or a number

two_shown : {X : Type 0} (cell : X → Value) → ((x y : X) → is_eq (value_cmp (cell x) (cell y)) ≡ true → cell x ≡ cell y) → (rest : X → Row)
    → (u : Name) (x : X) (id : Value) (v : Name) (y : X)
    → is_eq (ordering_then (value_cmp (Text u) (Text v)) (ordering_then (value_cmp (cell x) (cell y)) Equal)) ≡ true
    → id ∷ id ∷ Text v ∷ cell y ∷ rest x ≡ id ∷ id ∷ Text u ∷ cell x ∷ rest x
two_shown cell same rest u x id v y tie =
    let both = both_tie (value_cmp (Text u) (Text v)) (ordering_then (value_cmp (cell x) (cell y)) Equal) tie in
    let unit : v ≡ u = sym (same_text u v both.0) in
    let key : cell y ≡ cell x = sym (same x y (both_tie (value_cmp (cell x) (cell y)) Equal both.1).0) in
    λ i. id ∷ id ∷ Text (unit i) ∷ key i ∷ rest x

tag_shown : {X : Type 0} (tag : X → Name) (rest : X → Row)
    → (u : Name) (x : X) (id : Value) (v : Name) (y : X)
    → is_eq (ordering_then (value_cmp (Text u) (Text v)) (ordering_then (value_cmp (Text (tag x)) (Text (tag y))) Equal)) ≡ true
    → id ∷ id ∷ Text v ∷ Text (tag y) ∷ rest x ≡ id ∷ id ∷ Text u ∷ Text (tag x) ∷ rest x
tag_shown tag rest = two_shown (λ x. Text (tag x)) (λ x y tie. ap Text (same_text (tag x) (tag y) tie)) rest

-- ---- an alarm

pub alarm_over : PutsOver Alarms UPDATE_ALARM.now
unfolding first_key
alarm_over = puts_over Alarms UPDATE_ALARM.now by_two _ over_alarm (λ u x id y. refl) (tag_shown alarm_tag (λ x. drop 1 (alarm_shape.cells x)))

-- ---- a record

pub record_over : PutsOver Records UPDATE_RECORD.now
unfolding first_key
record_over = puts_over Records UPDATE_RECORD.now by_two _ over_record (λ u x id y. refl) (tag_shown record_tag (λ x. drop 1 (record_shape.cells x)))

-- ---- a change

pub change_over : PutsOver Changes UPDATE_CHANGE.now
unfolding first_key
change_over =
    puts_over Changes UPDATE_CHANGE.now by_two _ over_change (λ u x id y. refl)
    (two_shown (λ x. number x.number) (λ x y tie. ap number (same_number x.number y.number tie)) (λ x. drop 1 (change_shape.cells x)))
