-- Rows that rise are the same after they were put into tables without rows; and units are taken over one after another.
use Rattle.std.specs.{Cmp.{IsTotalOrder}, FinMap.{contains_key, get}, List.{AllByRecursion}}
use Rattle.std.specs.Ordering.{ordering_reverse}
use Rattle.std.proofs.Common.{◌≡◌, ◌≢◌, ℕ, ◌<◌, get_or, zero, suc, Bool, true, false, cond, List, [], ◌∷◌, ◌++◌, map, filter, take, length, refl, sym, ap, ap₂, ◌∙◌, subst, true≢false, Ordering, Less, Greater, is_eq, nat_cmp, arith, unwrap_or, ◌||◌}
use Rattle.std.proofs.Math.Bool.{or-false}
use Rattle.std.proofs.lemmas.{Bool.{or_left, or_right}, List.{append-nil, append_assoc, Folds.{list_any-append}}}
use Rattle.sqlite.specs.{Effect.{Database}, Tree.{Trees}}
use Rattle.sqlite_keyed.{specs.Lists.{sort_by}, proofs.ListLemmas.{all-append, all_weaker, ascending-map}}
use Rattle.sqlite_trees.specs.Tree.{IsAscending}
use Rattle.sqlite_value.specs.{Order.{Row, bytes, column, value_cmp}, declared.value.Value.TheVariants.{Text}}
use Rattle.sqlite_value.proofs.OrderLemmas.{then-Equal, value_cmp-Text}
use Rattle.plant_books.specs.Contents.{Content, rows_in}
use Rattle.plant_store_columns.specs.{Kept.{by_columns, is_of}, Shape.{IsRowIn, rows_in as rows_of}}
use Rattle.plant_store_columns.specs.declared.tables.TableKind.{TableKind, TheVariants.{Alarms, Bands, Cells, Changes, Events, Grants, Records, Shelves}}
use Rattle.plant_store_columns.specs.declared.tables.TableKind.TheVariants.{Units}
use Rattle.plant_store_columns.specs.Tables.{AreSeen, RowOf, rows_of_table, shape}
use Rattle.plant_store_columns.proofs.public.{Bridge.{AreRising as Rise}, Kept.{all-sort, sort-filter, strict-sort}}
use Rattle.plant_store_columns.proofs.public.{Keys.{by_columns_total}, ShapeLaws.{good}, Shapes.{named, rising}}
use Rattle.plant_model.specs.declared.rows.Row.TheVariants.{Unit as UnitPut}
use Rattle.plant_model.specs.steps.{RowChanges.{changed_by, no_rows}, RowFacts.{pair_of}}
use Rattle.plant_model.specs.declared.rows.{RowEdit.{RowEdit, TheVariants.{Put}}, UnitRow.{UnitRow}, UnitRows.{UnitRows}}
use Rattle.plant_store_statements.specs.{Changes.{Applies, IsOfficeOf}, Keeping.{HaveRows, has_any}, Making.{AreNew}}
use Rattle.plant_store_migration.specs.OldTables.{AreOldBooks, old_rows, old_unit_shape}
use Rattle.plant_store_migration.specs.Upgrading.{AreTakenOver, HaveOldRows, IsCopyOf, is_among, old_codes, puts_all, puts_of, upgraded_grant, upgraded_rows, upgraded_unit}
use Rattle.plant_store_statements.specs.Changes.{as_row}
use Rattle.plant_store_migration.{specs.declared.old_rows.CodeLine.{CodeLine}, proofs.OldQueries.{old_good, old_unit_good}}
use Rattle.plant_store_statements.proofs.public.Writes.{changed_by-append, with_rows}
use Rattle.plant_model.proofs.public.PartLists.{filter-true}
use Rattle.plant_store_statements.proofs.public.Contents.{differs, no_some, nothing_at, same_codes}
use Rattle.plant_types.specs.{KeyedRows.{put_row}, Names.{Name, name_cmp, same_name}, Roles.{pair_cmp}}

-- ---- rows that rise, put one after another

module _ {K X : Type 0} (R : K → K → Ordering) (key : X → K) where
  abbrev filled : List X → List X → List X
  filled [] ys = ys
  filled (x ∷ xs) ys = filled xs (put_row R key x ys)

  module _ (o : IsTotalOrder R) where
    at_end : (x : X) (ys : List X) → AllByRecursion (λ y. R (key y) (key x) ≡ Less) ys → put_row R key x ys ≡ ys ++ x ∷ []
    at_end x [] all = refl
    at_end x (y ∷ ys) all =
        let up : R (key x) (key y) ≡ Greater = o.antisymm (key x) (key y) ∙ ap ordering_reverse all.0 in
        rw up (ap (λ l. y ∷ l) (at_end x ys all.1))

    filled_end : (xs ys : List X) → AllByRecursion (λ y. AllByRecursion (λ x. R (key y) (key x) ≡ Less) xs) ys → Rise R key xs
        → filled xs ys ≡ ys ++ xs
    filled_end [] ys across up = sym (append-nil ys)
    filled_end (x ∷ xs) ys across up =
        ap (filled xs) (at_end x ys (all_weaker _ (λ y. R (key y) (key x) ≡ Less) (λ y h. h.0) ys across))
        ∙ filled_end xs (ys ++ x ∷ [])
        (all-append (λ y. AllByRecursion (λ z. R (key y) (key z) ≡ Less) xs) ys (x
        ∷ []) (all_weaker _ (λ y. AllByRecursion (λ z. R (key y) (key z) ≡ Less) xs) (λ y h. h.1) ys across) (up.0, tt)) up.1
        ∙ append_assoc ys (x ∷ []) xs

    pub filled_none : (xs : List X) → Rise R key xs → filled xs [] ≡ xs
    filled_none xs up = filled_end xs [] tt up

-- ---- the puts of each table's rows

puts_units : (xs : List UnitRow) → Rise nat_cmp (λ (r : UnitRow). 0) xs
    → changed_by (map (λ r. Put (UnitPut r)) xs) no_rows ≡ record no_rows { units = xs }
puts_units [] up = refl
puts_units (x ∷ []) up = refl
puts_units (x ∷ y ∷ xs) up = absurd (cc up.0.0)

-- of any other table
puts_into : (i : TableKind) → i ≢ Units → (xs : List (RowOf i)) (rows : UnitRows)
    → changed_by (map (λ r. Put (as_row i r)) xs) rows ≡ with_rows i (filled (shape i).order (shape i).key xs (rows_of_table i rows)) rows
puts_into Units apart xs rows = absurd (apart refl)
puts_into i apart [] rows = refl
puts_into i apart (x ∷ xs) rows = puts_into i apart xs (with_rows i (put_row (shape i).order (shape i).key x (rows_of_table i rows)) rows)

-- into one without rows
puts_rising : (i : TableKind) → i ≢ Units → (xs : List (RowOf i)) → Rise (shape i).order (shape i).key xs → (rows : UnitRows)
    → rows_of_table i rows ≡ []
    → changed_by (map (λ r. Put (as_row i r)) xs) rows ≡ with_rows i xs rows
puts_rising i apart xs up rows none =
    puts_into i apart xs rows
    ∙ ap (λ l. with_rows i l rows)
    (ap (filled (shape i).order (shape i).key xs) none ∙ filled_none (shape i).order (shape i).key (good i).total xs up)

-- the rows of each table rise
abbrev AreRising : UnitRows → Type 0
AreRising rows = (i : TableKind) → Rise (shape i).order (shape i).key (rows_of_table i rows)

then : (xs ys : List RowEdit) (a b c : UnitRows) → changed_by xs a ≡ b → changed_by ys b ≡ c → changed_by (xs ++ ys) a ≡ c
then xs ys a b c p q = changed_by-append xs ys a ∙ ap (changed_by ys) p ∙ q

pub all_put : (rows : UnitRows) → AreRising rows → changed_by (puts_all rows) no_rows ≡ rows
all_put rows up =
    let r1 : UnitRows = record no_rows { units = rows.units } in
    let r2 : UnitRows = record r1 { grants = rows.grants } in
    let r3 : UnitRows = record r2 { alarms = rows.alarms } in
    let r4 : UnitRows = record r3 { shelves = rows.shelves } in
    let r5 : UnitRows = record r4 { bands = rows.bands } in
    let r6 : UnitRows = record r5 { cells = rows.cells } in
    let r7 : UnitRows = record r6 { events = rows.events } in
    let r8 : UnitRows = record r7 { records = rows.records } in
    then (puts_of rows Units) _ no_rows r1 rows (puts_units rows.units (up Units))
    (then (puts_of rows Grants) _ r1 r2 rows (puts_rising Grants (λ e. cc) rows.grants (up Grants) r1 refl)
    (then (puts_of rows Alarms) _ r2 r3 rows (puts_rising Alarms (λ e. cc) rows.alarms (up Alarms) r2 refl)
    (then (puts_of rows Shelves) _ r3 r4 rows (puts_rising Shelves (λ e. cc) rows.shelves (up Shelves) r3 refl)
    (then (puts_of rows Bands) _ r4 r5 rows (puts_rising Bands (λ e. cc) rows.bands (up Bands) r4 refl)
    (then (puts_of rows Cells) _ r5 r6 rows (puts_rising Cells (λ e. cc) rows.cells (up Cells) r5 refl)
    (then (puts_of rows Events) _ r6 r7 rows (puts_rising Events (λ e. cc) rows.events (up Events) r6 refl)
    (then (puts_of rows Records) _ r7 r8 rows (puts_rising Records (λ e. cc) rows.records (up Records) r7 refl)
    (then (puts_of rows Changes) [] r8 rows rows (puts_rising Changes (λ e. cc) rows.changes (up Changes) r8 refl) refl))))))))

-- ---- the rows of a store of schema 1 rise

old_rise : (u : Name) (db : Database) → AreOldBooks db → AreRising (upgraded_rows u db.trees)
old_rise u db books Units =
    ascending-map (λ (a b : UnitRow). nat_cmp 0 0 ≡ Less) upgraded_unit (old_rows u db.trees Units)
    (rising _ (old_good Units) u (db.trees 1) (books.tidy Units))
old_rise u db books Grants =
    ascending-map (λ a b. pair_cmp (pair_of a) (pair_of b) ≡ Less) upgraded_grant (old_rows u db.trees Grants)
    (rising _ (old_good Grants) u (db.trees 3) (books.tidy Grants))
old_rise u db books i = rising _ (old_good i) u (db.trees (shape i).tree) (books.tidy i)

-- a unit without rows has, after the puts, the rows that it had in the old store
pub unit_taken : (u : Name) (db : Database) → AreOldBooks db → (old new : Database) → AreSeen u old no_rows
    → Applies u (puts_all (upgraded_rows u db.trees)) old new → AreSeen u new (upgraded_rows u db.trees)
unit_taken u db books old new none it = subst (AreSeen u new) (all_put (upgraded_rows u db.trees) (old_rise u db books)) (it.mine no_rows none)

-- ---- the codes of the units

abbrev code : Row → Name
code r = bytes (column r 1)

abbrev unit_key : List ℕ
unit_key = 1 ∷ []

module _ (db : Database) (books : AreOldBooks db) where
  abbrev sorted : List Row
  sorted = sort_by (by_columns unit_key) (db.trees 1)

  well_formed : AllByRecursion (IsRowIn old_unit_shape) sorted
  well_formed = all-sort (by_columns unit_key) (by_columns_total unit_key) (IsRowIn old_unit_shape) (db.trees 1) (books.tidy Units).each

  codes_are : old_codes db.trees ≡ map code sorted
  codes_are = ap (λ rs. map code (sort_by (by_columns unit_key) rs)) (filter-true (db.trees 1))

  name_at : (r : Row) → IsRowIn old_unit_shape r → column r 1 ≡ Text (code r)
  name_at r h = named old_unit_shape old_unit_good r h

  -- a code is among them exactly where the unit has a row of its own
  among : (u : Name) (rs : List Row) → AllByRecursion (IsRowIn old_unit_shape) rs
      → is_among (map code rs) u ≡ has_any (map old_unit_shape.read (filter (is_of u) rs))
  among u [] all = refl
  among u (r ∷ rs) all =
      let same : is_of u r ≡ same_name (code r) u = ap (λ v. is_eq (value_cmp v (Text u))) (name_at r all.0)
      ∙ ap is_eq (value_cmp-Text (code r) u) in
      go (same_name (code r) u) (is_of u r) same (among u rs all.1)
    where
      go : (b c : Bool) → c ≡ b → is_among (map code rs) u ≡ has_any (map old_unit_shape.read (filter (is_of u) rs))
          → (b || is_among (map code rs) u) ≡ has_any (map old_unit_shape.read (cond c (r ∷ filter (is_of u) rs) (filter (is_of u) rs)))
      go true true e more = refl
      go true false e more = absurd (true≢false (sym e))
      go false true e more = absurd (true≢false e)
      go false false e more = more

  pub code_known : (u : Name) → is_among (old_codes db.trees) u ≡ has_any (old_rows u db.trees Units)
  code_known u =
      ap (λ cs. is_among cs u) codes_are ∙ among u sorted well_formed
      ∙ ap (λ rs. has_any (map old_unit_shape.read rs))
      (sym (sort-filter (by_columns unit_key) (by_columns_total unit_key) (is_of u) (db.trees 1)))

  less_code : (a b : Row) → IsRowIn old_unit_shape a → IsRowIn old_unit_shape b → by_columns unit_key a b ≡ Less
      → name_cmp (code a) (code b) ≡ Less
  less_code a b p q h = sym (then-Equal _ ∙ ap₂ value_cmp (name_at a p) (name_at b q) ∙ value_cmp-Text (code a) (code b)) ∙ h

  codes_up : (rs : List Row) → AllByRecursion (IsRowIn old_unit_shape) rs → IsAscending (λ a b. by_columns unit_key a b ≡ Less) rs
      → IsAscending (λ a b. name_cmp a b ≡ Less) (map code rs)
  codes_up [] all up = tt
  codes_up (r ∷ rs) all up = (above rs all.1 up.0, codes_up rs all.1 up.1)
    where
      above : (qs : List Row) → AllByRecursion (IsRowIn old_unit_shape) qs → AllByRecursion (λ q. by_columns unit_key r q ≡ Less) qs
          → AllByRecursion (λ c. name_cmp (code r) c ≡ Less) (map code qs)
      above [] all h = tt
      above (q ∷ qs) more h = (less_code r q all.0 more.0 h.0, above qs more.1 h.1)

  pub codes_rise : IsAscending (λ a b. name_cmp a b ≡ Less) (old_codes db.trees)
  codes_rise =
      subst (IsAscending (λ a b. name_cmp a b ≡ Less)) (sym codes_are)
      (codes_up sorted well_formed (strict-sort (by_columns unit_key) (by_columns_total unit_key) (db.trees 1) (books.tidy Units).apart))

-- ---- one unit after another

abbrev pub units_of : List CodeLine → List Name
units_of lines = map (λ (l : CodeLine). l.unit) lines

-- a code that comes later is not among those before it
pub not_before : (lines : List CodeLine) (k : ℕ) (d : CodeLine) → IsAscending (λ a b. name_cmp a b ≡ Less) (units_of lines) → k < length lines
    → is_among (units_of (take k lines)) (get_or lines k d).unit ≡ false
not_before [] k d up h = absurd (omega arith)
not_before (l ∷ ls) zero d up h = refl
not_before (l ∷ ls) (suc k) d up h =
    let far : name_cmp l.unit (get_or ls k d).unit ≡ Less = reach ls k up.0 (omega arith) in
    rw far (not_before ls k d up.1 (omega arith))
  where
    reach : (qs : List CodeLine) (n : ℕ) → AllByRecursion (λ c. name_cmp l.unit c ≡ Less) (units_of qs) → n < length qs
        → name_cmp l.unit (get_or qs n d).unit ≡ Less
    reach [] n all h = absurd (omega arith)
    reach (q ∷ qs) zero all h = all.0
    reach (q ∷ qs) (suc n) all h = reach qs n all.1 (omega arith)

among_more : (us : List Name) (x u : Name) → is_among (us ++ x ∷ []) u ≡ (is_among us u || same_name x u)
among_more us x u = list_any-append (λ k. same_name k u) us (x ∷ []) ∙ ap (λ b. is_among us u || b) (or-false (same_name x u))

pub taken_next : (us : List Name) (x : Name) (db : Database) → AreOldBooks db → (old new : Database) → is_among us x ≡ false
    → AreTakenOver us db.trees old → Applies x (puts_all (upgraded_rows x db.trees)) old new
    → AreTakenOver (us ++ x ∷ []) db.trees new
taken_next us x db books old new fresh so_far it = record {
  books = it.books;
  database = it.database so_far.database;
  taken = λ u h. taken u (same_name x u) (is_among us u) refl refl (sym (among_more us x u) ∙ h);
  others = λ u h. others u (same_name x u) (is_among us u) refl refl (sym (among_more us x u) ∙ h);
}
  where
    mine : AreSeen x new (upgraded_rows x db.trees)
    mine = unit_taken x db books old new (so_far.others x fresh) it

    taken : (u : Name) (b c : Bool) → same_name x u ≡ b → is_among us u ≡ c → (is_among us u || same_name x u) ≡ true
        → AreSeen u new (upgraded_rows u db.trees)
    taken u true c e f h = subst (λ y. AreSeen y new (upgraded_rows y db.trees)) (same_codes x u e) mine
    taken u false true e f h = λ i. it.others u (differs x u e) i ∙ so_far.taken u f i
    taken u false false e f h = absurd (true≢false (sym (sym (ap₂ ◌||◌ f e) ∙ h)))

    others : (u : Name) (b c : Bool) → same_name x u ≡ b → is_among us u ≡ c → (is_among us u || same_name x u) ≡ false → AreSeen u new no_rows
    others u true c e f h = absurd (true≢false (sym (or_right (is_among us u) (same_name x u) e) ∙ h))
    others u false true e f h = absurd (true≢false (sym (or_left (is_among us u) (same_name x u) f) ∙ h))
    others u false false e f h = λ i. it.others u (differs x u e) i ∙ so_far.others u f i

pub none_taken : (admin : Name) (trees : Trees) (db : Database) → AreNew admin db → AreTakenOver [] trees db
none_taken admin trees db it = record {
  books = it.books;
  database = it.database;
  taken = λ u h. absurd (true≢false (sym h));
  others = λ u h i. ap (rows_of (shape i) u) (it.empty i) ∙ nothing_at i;
}

-- ---- all units

any_map : {A B : Type 0} (f : A → B) (xs : List A) → has_any (map f xs) ≡ has_any xs
any_map f [] = refl
any_map f (x ∷ xs) = refl

pub all_taken : (m : Content) (db new : Database) → HaveOldRows m db → AreTakenOver (old_codes db.trees) db.trees new → IsOfficeOf m.admin new
    → HaveRows m new
all_taken m db new h it office = record {
  books = it.books;
  office = office;
  seen = λ u. seen u (is_among (old_codes db.trees) u) refl;
  opened = h.opened;
}
  where
    known : (u : Name) → is_among (old_codes db.trees) u ≡ contains_key m.units u
    known u = code_known db h.books u ∙ sym (any_map upgraded_unit (old_rows u db.trees Units))
        ∙ ap (λ (rows : UnitRows). has_any rows.units) (h.seen u) ∙ sym (h.opened u)

    seen : (u : Name) (b : Bool) → is_among (old_codes db.trees) u ≡ b → AreSeen u new (rows_in m u)
    seen u true e = subst (AreSeen u new) (h.seen u) (it.taken u e)
    seen u false e = subst (AreSeen u new) (sym (ap (λ o. unwrap_or o no_rows) (no_some (get m.units u) (sym (known u) ∙ e)))) (it.others u e)

pub copied_rows : (m : Content) (db new : Database) (admin : Name) → m.admin ≡ admin → HaveOldRows m db → IsCopyOf admin db.trees new
    → HaveRows m new
copied_rows m db new admin is h it = all_taken m db new h it.taken (subst (λ (a : Name). IsOfficeOf a new) (sym is) it.office)
