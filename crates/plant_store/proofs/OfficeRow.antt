-- What the question for the office's row shows, wherever the office's table stands.
use Rattle.std.specs.List.{position_or_len}
use Rattle.std.proofs.Common.{◌≡◌, refl, sym, ap, subst, ◌∙◌, ℕ, List, [], ◌∷◌, length, ltb, map, false, true, inl, inr, codes, IsPermutation, ◌↔◌, Option, None, Some, slice_get, unwrap_or, is_some, option_and_then, option_map}
use Rattle.std.proofs.lemmas.{Bool.{and_parts, cases_Bool, false≢true, ltb-true}, Iterator.Adapters.{position_from-zero}}
use Rattle.std.proofs.lemmas.{List.Sorted.{IsPermutation-map, IsPermutation-sym}, Option.{slice_get-get_or}}
use Rattle.sqlite.specs.{Kind.TheVariants.{Integer}, Query.{Output}, Schema.{Schema}, State.{State, Shown}, Table.{Table}, Term.{col}}
use Rattle.sqlite.proofs.Callers.{IsPlain, command_of, one_permutation, reads_as}
use Rattle.sqlite_keyed.proofs.ListLemmas.{map-map}
use Rattle.sqlite_schema.specs.Names.{column_named, place_of, same_name, table_named}
use Rattle.sqlite_typing.specs.Types.{accepts_program}
use Rattle.sqlite_value.specs.{Order.{Row, column}, declared.value.Value.TheVariants.{Null}}
use Rattle.plant_books.specs.Contents.{Content}
use Rattle.plant_store_columns.{specs.{Forms.{column_of}, Shown.{columns}, Tables.{office_table}}, proofs.public.Laws.{reads, shows}}
use Rattle.plant_store_statements.specs.Keeping.{HasContent}
use Rattle.plant_store.specs.Opening.{IsOffice, IsThisOffice, has_office, is_office, office_cells, office_in, office_shown, place_named}
use Rattle.plant_store_statements.specs.declared.texts.TheConstants.{SELECT_OFFICE}
use Rattle.plant_store.proofs.{OfficeMeaning.{is_refused, is_understood, query}, ThreeColumns.{IsColumn}}
use Rattle.plant_model.proofs.public.PartLists.{filter-true}
use Rattle.plant_types.specs.Names.{Name}

-- ---- a table and its columns are found by their names

found_table : (schema : Schema) (t : Table) (o : Option ℕ) → option_and_then (slice_get schema.tables) o ≡ Some t
    → (k : ℕ) × (o ≡ Some k) × (slice_get schema.tables k ≡ Some t)
found_table schema t None h = absurd cc
found_table schema t (Some k) h = (k, refl, h)

has_found : (o : Option Table) → unwrap_or (option_map is_office o) false ≡ true → (t : Table) × (o ≡ Some t) × (is_office t ≡ true)
has_found None h = absurd (false≢true h)
has_found (Some t) h = (t, refl, h)

pub office_there : (schema : Schema) → has_office schema ≡ true → (t : Table) × (office_in schema ≡ Some t) × (is_office t ≡ true)
office_there schema h = has_found (office_in schema) h

found_column : (t : Table) (n : Name) → is_some (column_named t n) ≡ true → IsColumn t n
found_column t n h =
    let p = λ (c : Rattle.sqlite_schema.specs.declared.schema.Column.Column). same_name c.name n in
    let at = position_or_len p t.columns in
    elim (cases_Bool (ltb at (length t.columns))) [
      | inl within ↦ record {
        at = at;
        column = _;
        has = sym (position_from-zero p t.columns) ∙ rw within;
        it = slice_get-get_or t.columns at (column_of [] Integer) (ltb-true at (length t.columns) within);
      }
      | inr past ↦ absurd (let e : column_named t n ≡ None = sym (position_from-zero p t.columns) ∙ rw past in false≢true (sym (ap is_some e) ∙ h))
    ]

-- ---- what is shown

abbrev three : ℕ → ℕ → ℕ → Row → Row
three a b c r = column r a ∷ column r b ∷ column r c ∷ []

-- rows in some order, of which one is shown
one_shown : (x : Row) (all rows : List Row) → map (columns 3) all ≡ all → IsPermutation all rows → (map (columns 3) rows ≡ x ∷ []) ↔ (all ≡ x ∷ [])
one_shown x all rows same order = (
  λ e.
      let turned : IsPermutation all (x ∷ []) =
      subst (IsPermutation all) e (subst (λ l. IsPermutation l (map (columns 3) rows)) same (IsPermutation-map (columns 3) all rows order)) in
      one_permutation x all (IsPermutation-sym all (x ∷ []) turned),
  λ e.
      let turned : IsPermutation (x ∷ []) (map (columns 3) rows) =
      subst (λ l. IsPermutation l (map (columns 3) rows)) (same ∙ e) (IsPermutation-map (columns 3) all rows order) in
      one_permutation x (map (columns 3) rows) turned,
)

module _ (n : ℕ) (admin : Name) (old new : State) (t : Table) (is_there : office_in old.now.schema ≡ Some t) (has : is_office t ≡ true)
    (rows : List Row) (h : Shown SELECT_OFFICE.now [] old new rows) where
  id : IsColumn t (codes "id")
  id = found_column t (codes "id") (and_parts _ _ has).0

  schema_no : IsColumn t (codes "schema_no")
  schema_no = found_column t (codes "schema_no") (and_parts _ _ (and_parts _ _ has).1).0

  by : IsColumn t (codes "admin")
  by = found_column t (codes "admin") (and_parts _ _ (and_parts _ _ has).1).1

  spot : (k : ℕ) × (table_named old.now.schema (codes "office") ≡ Some k) × (slice_get old.now.schema.tables k ≡ Some t)
  spot = found_table old.now.schema t (table_named old.now.schema (codes "office")) is_there

  abbrev asks : Rattle.sqlite.specs.Query.Query
  asks = query old.now.schema spot.0 t spot.1 spot.2 id schema_no by

  -- an answer is given to a query that is understood
  accepted : accepts_program old.now.schema [] asks [] ≡ true
  unfolding Shown
  accepted = elim (cases_Bool (accepts_program old.now.schema [] asks [])) [
    | inl fits ↦ fits
    | inr refused ↦ absurd (let e = sym (is_refused old.now.schema spot.0 t spot.1 spot.2 id schema_no by refused) ∙ h.1.is in cc)
  ]

  abbrev a : ℕ
  a = place_of t id.at

  abbrev b : ℕ
  b = place_of t schema_no.at

  abbrev c : ℕ
  c = place_of t by.at

  some_order : IsPermutation (map (three a b c) (old.now.trees t.tree)) rows
  some_order =
      let known = is_understood old.now.schema spot.0 t spot.1 spot.2 id schema_no by accepted in
      let got =
      reads_as SELECT_OFFICE.now [] old new old.now.schema refl _ (ap command_of known.0)
      (subst IsPlain (sym known.0) (refl, refl)) known.1 rows h in
      let it = reads t.tree [] (col 1 a ∷ col 1 b ∷ col 1 c ∷ []) [] old.now.trees [] rows (got.answer Null) in
      let show = shows t.tree [] (col 1 a ∷ col 1 b ∷ col 1 c ∷ []) [] [] in
      let all = subst (λ rs. IsPermutation (map show rs) it.ordered) (filter-true (old.now.trees t.tree)) it.same in
      subst (λ l. IsPermutation l rows) (map-map (λ (o : Output). o.1) show (old.now.trees t.tree))
      (subst (IsPermutation (map (λ (o : Output). o.1) (map show (old.now.trees t.tree)))) (sym it.rows_are)
      (IsPermutation-map (λ (o : Output). o.1) _ _ all))

  by_names : (rs : List Row) → map (office_shown t) rs ≡ map (three a b c) rs
  by_names rs =
      ap (λ o. map (three (place_of t (unwrap_or o 0)) (place_named t (codes "schema_no")) (place_named t (codes "admin"))) rs) id.has
      ∙ ap (λ o. map (three a (place_of t (unwrap_or o 0)) (place_named t (codes "admin"))) rs) schema_no.has
      ∙ ap (λ o. map (three a b (place_of t (unwrap_or o 0))) rs) by.has

  this_row : (map (columns 3) rows ≡ office_cells n admin ∷ []) ↔ (map (office_shown t) (old.now.trees t.tree) ≡ office_cells n admin ∷ [])
  this_row =
      let it = one_shown (office_cells n admin)
      (map (three a b c) (old.now.trees t.tree)) rows (map-map (columns 3) (three a b c) (old.now.trees t.tree)) some_order in
      (λ e. by_names (old.now.trees t.tree) ∙ it.0 e, λ e. it.1 (sym (by_names (old.now.trees t.tree)) ∙ e))

  -- the rows that are shown determine whether it is this office
  pub office_told : (map (columns 3) rows ≡ office_cells n admin ∷ []) ↔ IsOffice n admin old.now
  office_told = (
    λ e. record { table = t; is_there = is_there; has_columns = has; row = this_row.0 e },
    λ it.
        let same : it.table ≡ t = let e = sym it.is_there ∙ is_there in cc in
        this_row.1 (subst (λ (u : Table). map (office_shown u) (old.now.trees u.tree) ≡ office_cells n admin ∷ []) same it.row),
  )

-- ---- the books of this office

pub is_this_office : (s : State) (m : Content) → HasContent s m → IsThisOffice m.admin s.now
unfolding same_name
is_this_office s m k =
    record { table = office_table; is_there = rw k.books.same_schema; has_columns = refl; row = ap (map (office_shown office_table)) k.office }
