-- The statements that read one unit's rows of one table.
use Rattle.std.specs.Cmp.{eq_by_cmp_equiv, Lexicographic.{nat_list_cmp_total}}
use Rattle.std.proofs.Common.{◌≡◌, ℕ, Bool, true, false, ◌&&◌, ◌||◌, List, [], ◌∷◌, drop, length, filter, Ok, Err, Result, IfOk, refl, sym, ap, ap₂, ◌∙◌, is_eq}
use Rattle.std.proofs.lemmas.{Bool.{or_right}, Cmp.{nat_cmp_total}, List.{length-map}}
use Rattle.sqlite.specs.{Collation.TheVariants.{Binary}, State.{State, Shown}}
use Rattle.sqlite_keyed.proofs.ListLemmas.{filter_same}
use Rattle.sqlite_schema.specs.Rules.{equal}
use Rattle.sqlite_tied.proofs.RuleLemmas.{and_true}
use Rattle.sqlite_value.specs.{Order.{Row, column, value_cmp}, declared.value.Value.{Value, TheVariants.{Text}}}
use Rattle.sqlite_value.proofs.OrderLemmas.{value_cmp-Text}
use Rattle.plant_model.{specs.Histories.{same_number}, proofs.public.PartLists.{filter-true}}
use Rattle.plant_types.specs.Names.{Name, same_name}
use Rattle.plant_store_columns.specs.{Codes.{number}, Kept.{is_of}}
use Rattle.plant_store_columns.specs.declared.tables.TableKind.{TableKind, TheVariants.{Units, Grants, Alarms, Shelves, Bands, Cells, Records, Changes}}
use Rattle.plant_store_columns.specs.Tables.{AreBooks, KeyOf, RowOf, books_schema, shape, rows_seen, grant_shape, alarm_shape, shelf_shape, band_shape, cell_shape, record_shape, change_shape}
use Rattle.plant_store_columns.proofs.public.{Keys.{equal_is}, ShapeLaws.{good, numbers}, Shapes.{finds_rows}}
use Rattle.plant_store_statements.specs.Statements.{Reads}
use Rattle.plant_store_statements.specs.{Texts.{rows_text}, declared.texts.TheConstants.{SELECT_OWN_GRANTS, SELECT_ALARM, SELECT_SHELF, SELECT_SHELF_TAGS, SELECT_RECORD, SELECT_MATRIX_BANDS, SELECT_MATRIX_CELLS, SELECT_CHANGE}}
use Rattle.plant_store_statements.proofs.public.Meanings.{by_key, by_unit, lists_alarm, lists_all, lists_bands, lists_cells, lists_change, lists_own_grants, lists_record, lists_shelf, shelf_tags}
use Rattle.plant_store_statements.proofs.public.Reading.{reads_all, reads_some}

pub if_ok : {A E : Type 0} {P Q : A → Type 0} (r : Result A E) → ((x : A) → P x → Q x) → IfOk r P → IfOk r Q
if_ok (Ok x) f h = f x h
if_ok (Err e) f h = tt

-- ---- the tests

pub one_test : (v : Value) (u : List ℕ) → (equal Binary v (Text u) && true) ≡ is_eq (value_cmp v (Text u))
one_test v u = and_true _ ∙ equal_is v (Text u) refl

pub two_tests : (v w : Value) (u p : List ℕ)
    → (equal Binary v (Text u) && (equal Binary w (Text p) && true)) ≡ (is_eq (value_cmp v (Text u)) && is_eq (value_cmp w (Text p)))
two_tests v w u p = ap₂ ◌&&◌ (equal_is v (Text u) refl) (one_test w p)

number_tests : (v w : Value) (u : List ℕ) (n : ℕ)
    → (equal Binary v (Text u) && (equal Binary w (number n) && true)) ≡ (is_eq (value_cmp v (Text u)) && is_eq (value_cmp w (number n)))
number_tests v w u n = ap₂ ◌&&◌ (equal_is v (Text u) refl) (and_true _ ∙ equal_is w (number n) refl)

-- the second column has this name
abbrev pub is_named : List ℕ → Row → Bool
is_named name r = is_eq (value_cmp (column r 2) (Text name))

pub named_same : (a b : Name) → is_eq (value_cmp (Text a) (Text b)) ≡ same_name b a
named_same a b = ap is_eq (value_cmp-Text a b) ∙ (eq_by_cmp_equiv nat_list_cmp_total).symm a b

-- the second column has this number
abbrev pub is_numbered : ℕ → Row → Bool
is_numbered n r = is_eq (value_cmp (column r 2) (number n))

numbered_same : (m n : ℕ) → is_eq (value_cmp (number m) (number n)) ≡ same_number n m
numbered_same m n = ap is_eq (numbers m n) ∙ (eq_by_cmp_equiv nat_cmp_total).symm m n

-- ---- all rows of a unit

-- how many columns a table has of its own
abbrev pub own_width : TableKind → ℕ
own_width i = length (drop 1 (shape i).columns)

-- by computing, for each table
pub all_read : (i : TableKind) (u : Name) → Reads (own_width i) (shape i).cells (λ trees. rows_seen u trees i) (Text u ∷ []) (rows_text i)
all_read Units u =
    reads_all RowOf KeyOf shape good books_schema Units _ (λ x. refl) _ (lists_all Units) u refl (λ r. one_test (column r 1) u) (λ id v x. refl)
all_read i u = reads_all RowOf KeyOf shape good books_schema i _ (λ x. refl) _ (lists_all i) u refl (λ r. one_test (column r 1) u) (λ id v x. refl)

-- ---- those of one person, of one tag, or of one number

pub own_grants_read : (u p : Name)
    → Reads 3 grant_shape.cells (λ trees. filter (λ g. same_name p g.person) (rows_seen u trees Grants)) (Text u ∷ Text p ∷ []) SELECT_OWN_GRANTS.now
own_grants_read u p =
    reads_some RowOf KeyOf shape good books_schema Grants 3 (λ x. refl) SELECT_OWN_GRANTS.now lists_own_grants u (Text p) refl (is_named p)
    (λ r. two_tests (column r 1) (column r 2) u p) (λ id v x. refl)
    (λ g. same_name p g.person) (λ id v x. named_same x.person p)

pub alarm_read : (u a : Name)
    → Reads 11 alarm_shape.cells (λ trees. filter (λ r. same_name a r.tag) (rows_seen u trees Alarms)) (Text u ∷ Text a ∷ []) SELECT_ALARM.now
alarm_read u a =
    reads_some RowOf KeyOf shape good books_schema Alarms 11 (λ x. refl) SELECT_ALARM.now lists_alarm u (Text a) refl (is_named a)
    (λ r. two_tests (column r 1) (column r 2) u a) (λ id v x. refl)
    (λ r. same_name a r.tag) (λ id v x. named_same x.tag a)

pub shelf_read : (u a : Name)
    → Reads 6 shelf_shape.cells (λ trees. filter (λ r. same_name a r.tag) (rows_seen u trees Shelves)) (Text u ∷ Text a ∷ []) SELECT_SHELF.now
shelf_read u a =
    reads_some RowOf KeyOf shape good books_schema Shelves 6 (λ x. refl) SELECT_SHELF.now lists_shelf u (Text a) refl (is_named a)
    (λ r. two_tests (column r 1) (column r 2) u a) (λ id v x. refl)
    (λ r. same_name a r.tag) (λ id v x. named_same x.tag a)

pub record_read : (u a : Name)
    → Reads 4 record_shape.cells (λ trees. filter (λ r. same_name a r.tag) (rows_seen u trees Records)) (Text u ∷ Text a ∷ []) SELECT_RECORD.now
record_read u a =
    reads_some RowOf KeyOf shape good books_schema Records 4 (λ x. refl) SELECT_RECORD.now lists_record u (Text a) refl (is_named a)
    (λ r. two_tests (column r 1) (column r 2) u a) (λ id v x. refl)
    (λ r. same_name a r.tag) (λ id v x. named_same x.tag a)

pub bands_at_read : (u : Name) (n : ℕ)
    → Reads 3 band_shape.cells (λ trees. filter (λ r. same_number n r.matrix_no) (rows_seen u trees Bands)) (Text u ∷ number n ∷ []) SELECT_MATRIX_BANDS.now
bands_at_read u n =
    reads_some RowOf KeyOf shape good books_schema Bands 3 (λ x. refl) SELECT_MATRIX_BANDS.now lists_bands u (number n) refl (is_numbered n)
    (λ r. number_tests (column r 1) (column r 2) u n) (λ id v x. refl)
    (λ r. same_number n r.matrix_no) (λ id v x. numbered_same x.matrix_no n)

pub cells_at_read : (u : Name) (n : ℕ)
    → Reads 4 cell_shape.cells (λ trees. filter (λ r. same_number n r.matrix_no) (rows_seen u trees Cells)) (Text u ∷ number n ∷ []) SELECT_MATRIX_CELLS.now
cells_at_read u n =
    reads_some RowOf KeyOf shape good books_schema Cells 4 (λ x. refl) SELECT_MATRIX_CELLS.now lists_cells u (number n) refl (is_numbered n)
    (λ r. number_tests (column r 1) (column r 2) u n) (λ id v x. refl)
    (λ r. same_number n r.matrix_no) (λ id v x. numbered_same x.matrix_no n)

pub change_read : (u : Name) (n : ℕ)
    → Reads 15 change_shape.cells (λ trees. filter (λ r. same_number n r.number) (rows_seen u trees Changes)) (Text u ∷ number n ∷ []) SELECT_CHANGE.now
change_read u n =
    reads_some RowOf KeyOf shape good books_schema Changes 15 (λ x. refl) SELECT_CHANGE.now lists_change u (number n) refl (is_numbered n)
    (λ r. number_tests (column r 1) (column r 2) u n) (λ id v x. refl)
    (λ r. same_number n r.number) (λ id v x. numbered_same x.number n)

-- ---- how many alarms and how many shelves a unit has

pub alarms_counted : (u : Name) (old new : State) → AreBooks old.now → (rows : List Row) → Shown (rows_text Alarms) (Text u ∷ []) old new rows
    → length rows ≡ length (rows_seen u old.now.trees Alarms)
alarms_counted u old new books rows h =
    let found =
    finds_rows alarm_shape (good Alarms) books_schema (rows_text Alarms) by_unit _ (by_key alarm_shape) _ (lists_all Alarms).is
    (lists_all Alarms).unlisted (lists_all Alarms).plain (Text u ∷ []) refl (is_of u) (λ r. one_test (column r 1) u)
    old new books.same_schema (books.tidy Alarms).apart rows h in
    ap length found ∙ length-map _ _ ∙ sym (length-map _ alarm_shape.read)

pub shelves_counted : (u : Name) (old new : State) → AreBooks old.now → (rows : List Row) → Shown SELECT_SHELF_TAGS.now (Text u ∷ []) old new rows
    → length rows ≡ length (rows_seen u old.now.trees Shelves)
shelves_counted u old new books rows h =
    let found =
    finds_rows shelf_shape (good Shelves) books_schema SELECT_SHELF_TAGS.now by_unit _ (by_key shelf_shape) _ shelf_tags.is shelf_tags.unlisted
    shelf_tags.plain (Text u ∷ []) refl (is_of u) (λ r. one_test (column r 1) u)
    old new books.same_schema (books.tidy Shelves).apart rows h in
    ap length found ∙ length-map _ _ ∙ sym (length-map _ shelf_shape.read)

-- ---- which rows a call looks at

pub passing_none : {A : Type 0} (xs : List A) → filter (λ x. false) xs ≡ []
passing_none [] = refl
passing_none (x ∷ xs) = passing_none xs

pub every_one : {A : Type 0} (all : Bool) → all ≡ true → (f : A → Bool) (xs : List A) → xs ≡ filter (λ x. f x || all) xs
every_one all h f xs = sym (filter_same (λ x. f x || all) (λ x. true) (λ x. or_right (f x) all h) xs ∙ filter-true xs)
