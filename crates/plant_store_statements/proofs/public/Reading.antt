-- What the queries of one table read: all rows of a unit, or those with a value in the second column of the key.
use Rattle.std.proofs.Common.{IfOk, Result, ◌≡◌, ℕ, Bool, ◌&&◌, List, [], ◌∷◌, map, filter, refl, sym, ap, ◌∙◌, subst, Ordering}
use Rattle.std.proofs.lemmas.Result.{IfOk-weaker}
use Rattle.sqlite.specs.{Command.{Command}, Effect.{Database, Reads as Answers}, Listing.{understood}, Query.{inner, end, output_cmp}, Values.{bound}}
use Rattle.sqlite.{specs.{Schema.{Schema}, State.{State, Shown}, Term.{Term}, Tree.{Trees}}, proofs.Callers.{command_of, reads_as}}
use Rattle.sqlite_keyed.{specs.Lists.{sort_by}, proofs.ListLemmas.{filter_same, map-map, map_back, map_same}}
use Rattle.sqlite_value.specs.{Order.{Row}, declared.{value.Value.{Value, TheVariants.{Null, Text}}, value.ValueRef.{ValueRef}}}
use Rattle.plant_store_columns.specs.{Kept.{by_columns, is_of, plain_query}, Shape.{AreTables, Shape, row_in, rows_passing, seen}, Shown.{columns}}
use Rattle.plant_store_columns.specs.declared.tables.TableKind.{TableKind}
use Rattle.plant_store_columns.proofs.public.{Laws.{one_answer, passes, reads, shows}, Shapes.{IsShape, shown_kept, some_kept}}
use Rattle.plant_store_statements.{specs.Statements.{ReadsIn}, proofs.public.Meanings.{Lists, by_key, by_two, by_unit, own_columns}}
use Rattle.plant_types.specs.Names.{Name}

-- ---- what was shown is read back

pub told : {X : Type 0} (cells : X → Row) (back : Row → X) → ((x : X) → back (cells x) ≡ x) → (lines : List Row) (read : List X)
    → lines ≡ map cells read → read ≡ map back lines
told cells back is lines read shown = sym (map_back cells back is read) ∙ ap (map back) (sym shown)

told_back : {X K : Type 0} (s : Shape X K) → IsShape s → (n : ℕ) → ((x : X) → columns n (s.cells x) ≡ s.cells x)
    → (rows : List Row) (xs read : List X) → rows ≡ map s.cells xs → map (columns n) rows ≡ map s.cells read → read ≡ xs
told_back s is n whole rows xs read shown shows =
    let back = λ (r : Row). s.read (Null ∷ Text [] ∷ r) in
    told s.cells back (is.back Null []) _ read shows
    ∙ ap (map back) (ap (map (columns n)) shown ∙ map-map (columns n) s.cells xs ∙ map_same (λ x. columns n (s.cells x)) s.cells whole xs)
    ∙ sym (told s.cells back (is.back Null []) _ xs refl)

-- ---- what the statement of a text shows

pub shown_decoded : {schema : Schema} {AreIts : Database → Type 0} {X : Type 0} {width : ℕ} {cells : X → Row} {rows : Trees → List X} {params : Row}
    {text : List ℕ} → ReadsIn schema AreIts width cells rows params text
    → (old new : State) → old.now.schema ≡ schema → AreIts old.now → (lines : List Row) → Shown text params old new lines → (read : List X)
    → map (columns width) lines ≡ map cells read → read ≡ rows old.now.trees
shown_decoded {schema} {AreIts} {X} {width} {cells} {rows} {params} {text} it old new has are lines shown read decoded =
    it.decoded old.now are lines (reads_as text params old new schema has (command_of (understood schema text)) refl it.plain it.unlisted lines shown)
    read decoded

-- and so what is decoded after one question is what its text reads
pub loads : {schema : Schema} {AreIts : Database → Type 0} {X E : Type 0} {width : ℕ} {cells : X → Row} {rows : Trees → List X} {params : Row}
    {text : List ℕ} → ReadsIn schema AreIts width cells rows params text
    → (values : List ValueRef) (old new : State) (said : Result (List X) E) → bound values ≡ params
    → IfOk said (λ read. (lines : List Row) × (Shown text (bound values) old new lines × (map (columns width) lines ≡ map cells read)))
    → old.now.schema ≡ schema → AreIts old.now → IfOk said (λ read. read ≡ rows old.now.trees)
loads it values old new said is h has are =
    IfOk-weaker said _ _ (λ read shown. shown_decoded it old new has are shown.0 (rw is at shown.1.0) read shown.1.1) h

-- ---- over any tables

module _ (X K : TableKind → Type 0) (s : (i : TableKind) → Shape (X i) (K i)) (good : (i : TableKind) → IsShape (s i)) (schema : Schema) where
  -- the rows that pass the tests of a query, in the order of the key
  answered : (i : TableKind) (text : List ℕ) (tests : List Term) → Lists (s i) schema text tests → (params : Row)
      → ◌≡◌ {A = Row → Row → Ordering}
      (λ a b. output_cmp (plain_query (inner (s i).tree end) tests (own_columns (s i)) (by_key (s i)))
      (shows (s i).tree tests (own_columns (s i)) (by_key (s i)) params a)
      (shows (s i).tree tests (own_columns (s i)) (by_key (s i)) params b)) (by_columns (1 ∷ (s i).keys))
      → (p : Row → Bool) → ((r : Row) → passes (s i).tree tests (own_columns (s i)) (by_key (s i)) params r ≡ p r)
      → ((id : Value) (v : List ℕ) (x : X i)
      → (shows (s i).tree tests (own_columns (s i)) (by_key (s i)) params (row_in (s i) id v x)).1 ≡ (s i).cells x)
      → (db : Database) → AreTables X K s schema db → (lines : List Row) → Answers (command_of (understood schema text)) db params lines
      → lines ≡ map (s i).cells (rows_passing (s i) p (db.trees (s i).tree))
  answered i text tests lists params ordered p same shown db are lines h =
      let got = subst (λ (command : Command). Answers command db params lines) lists.is h in
      let tree = (s i).tree in
      let project = own_columns (s i) in
      let order = by_key (s i) in
      let key = 1 ∷ (s i).keys in
      one_answer tree tests project order key params ordered db.trees lines (are.tidy i).apart
      (reads tree tests project order db.trees params lines (got.answer Null))
      ∙ ap (λ (l : List Row). map (λ (r : Row). (shows tree tests project order params r).1) (sort_by (by_columns key) l))
      (filter_same (passes tree tests project order params) p same (db.trees tree))
      ∙ shown_kept (s i) (good i) _ (s i).cells shown p (db.trees tree) (are.tidy i).each

  pub reads_all : (i : TableKind) (width : ℕ) → ((x : X i) → columns width ((s i).cells x) ≡ (s i).cells x) → (text : List ℕ)
      → Lists (s i) schema text by_unit → (u : Name)
      → ◌≡◌ {A = Row → Row → Ordering}
      (λ a b. output_cmp (plain_query (inner (s i).tree end) by_unit (own_columns (s i)) (by_key (s i)))
      (shows (s i).tree by_unit (own_columns (s i)) (by_key (s i)) (Text u ∷ []) a)
      (shows (s i).tree by_unit (own_columns (s i)) (by_key (s i)) (Text u ∷ []) b)) (by_columns (1 ∷ (s i).keys))
      → ((r : Row) → passes (s i).tree by_unit (own_columns (s i)) (by_key (s i)) (Text u ∷ []) r ≡ is_of u r)
      → ((id : Value) (v : List ℕ) (x : X i)
      → (shows (s i).tree by_unit (own_columns (s i)) (by_key (s i)) (Text u ∷ []) (row_in (s i) id v x)).1 ≡ (s i).cells x)
      → ReadsIn schema (AreTables X K s schema) width (s i).cells (λ trees. seen X K s u trees i) (Text u ∷ []) text
  reads_all i width whole text lists u ordered same shown = record {
    plain = lists.plain;
    unlisted = lists.unlisted;
    decoded =
        λ db are lines h read shows. told_back (s i)
        (good i) width whole lines (seen X K s u db.trees i) read (answered i text by_unit lists (Text u
        ∷ []) ordered (is_of u) same shown db are lines h) shows;
  }

  pub reads_some : (i : TableKind) (width : ℕ) → ((x : X i) → columns width ((s i).cells x) ≡ (s i).cells x) → (text : List ℕ)
      → Lists (s i) schema text by_two → (u : Name) (value : Value)
      → ◌≡◌ {A = Row → Row → Ordering}
      (λ a b. output_cmp (plain_query (inner (s i).tree end) by_two (own_columns (s i)) (by_key (s i)))
      (shows (s i).tree by_two (own_columns (s i)) (by_key (s i)) (Text u ∷ value ∷ []) a)
      (shows (s i).tree by_two (own_columns (s i)) (by_key (s i)) (Text u ∷ value ∷ []) b)) (by_columns (1 ∷ (s i).keys))
      → (second : Row → Bool)
      → ((r : Row) → passes (s i).tree by_two (own_columns (s i)) (by_key (s i)) (Text u ∷ value ∷ []) r ≡ (is_of u r && second r))
      → ((id : Value) (v : List ℕ) (x : X i)
      → (shows (s i).tree by_two (own_columns (s i)) (by_key (s i)) (Text u ∷ value ∷ []) (row_in (s i) id v x)).1 ≡ (s i).cells x)
      → (test : X i → Bool) → ((id : Value) (v : List ℕ) (x : X i) → second (row_in (s i) id v x) ≡ test x)
      → ReadsIn schema (AreTables X K s schema) width (s i).cells (λ trees. filter test (seen X K s u trees i)) (Text u ∷ value ∷ []) text
  reads_some i width whole text lists u value ordered second same shown test tested = record {
    plain = lists.plain;
    unlisted = lists.unlisted;
    decoded = λ db are lines h read shows. told_back (s i) (good i) width whole lines (filter test (seen X K s u db.trees i)) read
        (answered i text by_two lists (Text u ∷ value ∷ []) ordered (λ r. is_of u r && second r) same shown db are lines h
        ∙ ap (map (s i).cells) (some_kept (s i) (good i) second test tested u (db.trees (s i).tree) (are.tidy i).each)) shows;
  }
