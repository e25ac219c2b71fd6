-- What a join of grants with another table returns: each row of a unit there, with each grant of the person in the
-- unit.
use Rattle.std.specs.{FinMap.{contains_key, contains_key-keys, entries, entries_sorted, get, keys}, List.{AllByRecursion, list_all, list_any}, List.Sorted.{IsStrictlySortedBy}, Ordering.{ordering_then}}
use Rattle.std.proofs.Common.{◌≡◌, ◌&&◌, ◌||◌, ℕ, Bool, true, false, cond, List, [], ◌∷◌, ◌++◌, drop, map, filter, flat_map, subst, IsPermutation, Option, None, Some, refl, sym, ap, ap₂, ◌∙◌, true≢false, Ordering, Less, Equal, Greater, is_eq, is_gt, is_some, option_and_then, unwrap_or}
use Rattle.std.proofs.lemmas.{Bool.{and_parts}, Cmp.{tied_itself}, List.{Concat.{flat_map-append}, Sorted.{IsPermutation-map}}}
use Rattle.sqlite.specs.{Collation.TheVariants.{Binary}, Query.{or_nulls}, State.{State, Shown}, Term.{col, holds}}
use Rattle.sqlite.proofs.Callers.{reads_as}
use Rattle.sqlite_keyed.specs.Lists.{insert_sorted, sort_by}
use Rattle.sqlite_keyed.proofs.ListLemmas.{all-filter, all_map, all_of, all_weaker, ascending_weaker, filter_all, filter_none, filter_same, flat_map-map, flat_map_same_on, map-flat_map, map-map}
use Rattle.sqlite_rules.{specs.Lists.{Has}, proofs.ListLemmas.{all_from, all_has, has_kept}}
use Rattle.sqlite_schema.specs.Rules.{equal}
use Rattle.sqlite_tied.proofs.RuleLemmas.{and_true}
use Rattle.sqlite_trees.specs.Tree.{IsAscending}
use Rattle.sqlite_value.specs.{Order.{Row, bytes, column, value_cmp}, declared.value.Value.{Value, TheVariants.{Null, Text}}}
use Rattle.sqlite_value.proofs.OrderLemmas.{value_cmp_total, value_cmp-Text}
use Rattle.plant_books.specs.Contents.{Content, rows_in}
use Rattle.plant_store_columns.specs.{Codes.{flag_in, open_number_in, number_in, role_in}, Kept.{by_columns, is_of}, Shape.{IsRowIn, Shape, row_in}, Shown.{columns}}
use Rattle.plant_store_columns.specs.{Tables.{RowOf, alarm_shape, books_schema, grant_shape, rows_of_table, rows_seen, shape, shelf_shape}, declared.tables.TableKind.{TableKind, TheVariants.{Alarms, Grants, Shelves, Units}}}
use Rattle.plant_store_columns.proofs.public.{Keys.{by_columns_total, same_text}, Kept.{all-sort, sort-filter, strict-sort}, ShapeLaws.{flag_back, good, open_number_back, role_back}}
use Rattle.plant_store_columns.proofs.public.Shapes.{IsShape, named, some_kept}
use Rattle.plant_model.specs.declared.rows.{AlarmRow.{AlarmRow}, GrantRow.{GrantRow}, ShelfRow.{ShelfRow}, UnitRows.{UnitRows}}
use Rattle.plant_model.specs.steps.{RowChanges.{no_rows}, RowFacts.{alarm_tag, last_return_in}}
use Rattle.plant_model.proofs.public.PartLists.{row_at-filter}
use Rattle.plant_store_statements.specs.Keeping.{HasContent, has_any}
use Rattle.plant_store.specs.declared.{mine.UnitGrant.{UnitGrant}, shelves.ShelfGrant.{ShelfGrant}, texts.TheConstants.{SELECT_SHELF_LINES, SELECT_UNIT_LINES}}
use Rattle.plant_store.specs.Mine.{lines_of, shelf_line, shelf_line_cells, unit_line, unit_line_cells}
use Rattle.plant_store.specs.Mine as mine
use Rattle.plant_store.proofs.{Blocks.{blocks, is_known}, Holdings.{rising}, Joins.{joins, pair_shown, passing}, LeftJoins.{first_row, left_joins, line_shown, one_by_two}}
use Rattle.plant_store_statements.proofs.public.{Queries.{is_named, named_same, two_tests}, Reading.{told}}
use Rattle.plant_store.proofs.JoinMeanings.{alarm_tests, grant_shows, joined_order, joined_tests, shelf_lines, shelf_shows, unit_lines, unit_order}
use Rattle.plant_types.specs.Names.{Name, name_cmp, same_name}

abbrev grant_key : List ℕ
grant_key = 1 ∷ 2 ∷ 3 ∷ []

abbrev by_grant : Row → Row → Ordering
by_grant = by_columns (1 ∷ 2 ∷ 3 ∷ [])

thens : (a b c d : Ordering)
    → ordering_then a (ordering_then b (ordering_then c d)) ≡ ordering_then (ordering_then a (ordering_then b (ordering_then c Equal))) d
thens Less b c d = refl
thens Greater b c d = refl
thens Equal Less c d = refl
thens Equal Greater c d = refl
thens Equal Equal Less d = refl
thens Equal Equal Greater d = refl
thens Equal Equal Equal d = refl

flat_map-flat_map : {A B C : Type 0} (f : B → List C) (g : A → List B) (xs : List A)
    → flat_map f (flat_map g xs) ≡ flat_map (λ x. flat_map f (g x)) xs
flat_map-flat_map f g [] = refl
flat_map-flat_map f g (x ∷ xs) = flat_map-append f (g x) (flat_map g xs) ∙ ap (λ l. flat_map f (g x) ++ l) (flat_map-flat_map f g xs)

none_of_two : (a : Bool) → (a && false) ≡ false
none_of_two true = refl
none_of_two false = refl

any_inserted : {B : Type 0} (f : Row → B) (cmp : Row → Row → Ordering) (x : Row) (xs : List Row) → has_any (map f (insert_sorted cmp x xs)) ≡ true
any_inserted f cmp x [] = refl
any_inserted f cmp x (y ∷ ys) =
    elim (is_gt (cmp x y)) as (λ b. has_any (map f (cond b (y ∷ insert_sorted cmp x ys) (x ∷ y ∷ ys))) ≡ true) [ true ↦ refl | false ↦ refl ]

any_sorted : {B : Type 0} (f : Row → B) (cmp : Row → Row → Ordering) (xs : List Row) (r : Row) → Has xs r → has_any (map f (sort_by cmp xs)) ≡ true
any_sorted f cmp [] r h = absurd h
any_sorted f cmp (x ∷ xs) r h = any_inserted f cmp x (sort_by cmp xs)

-- ---- grants in the order of their key are those of each unit, unit by unit

names_rise : (ks : List Name) → IsStrictlySortedBy name_cmp ks → IsAscending (λ a b. value_cmp a b ≡ Less) (map Text ks)
unfolding IsStrictlySortedBy
names_rise [] up = tt
names_rise (k ∷ ks) up = (
  all_map (λ v. value_cmp (Text k) v
      ≡ Less) Text ks (all_weaker _ (λ b. value_cmp (Text k) (Text b) ≡ Less) (λ b less. value_cmp-Text k b ∙ less) ks up.0),
  names_rise ks up.1,
)

among_names : (q : Name) (ks : List Name) → list_any (λ u. is_eq (value_cmp (Text q) u)) (map Text ks) ≡ list_any (same_name q) ks
among_names q [] = refl
among_names q (k ∷ ks) = ap₂ ◌||◌ (ap is_eq (value_cmp-Text q k)) (among_names q ks)

not_after : (a b : Ordering) → ordering_then a b ≡ Less → is_gt a ≡ false
not_after Less b h = refl
not_after Equal b h = refl
not_after Greater b h = absurd (cc h)

-- ---- rows of one unit

module _ {X K : Type 0} (shape_of : Shape X K) (good_one : IsShape shape_of) (u : Name) where
  of_unit : (r : Row) → IsRowIn shape_of r → is_of u r ≡ true → r ≡ row_in shape_of (column r 0) u (shape_of.read r)
  of_unit r wf own =
      let same : bytes (column r 1) ≡ u =
      same_text (bytes (column r 1)) u (sym (ap (λ v. is_eq (value_cmp v (Text u))) (named shape_of good_one r wf)) ∙ own) in
      wf ∙ ap (λ n. row_in shape_of (column r 0) n (shape_of.read r)) same

  -- what is shown of them is what is shown of the values that they are read as
  show_own : {Y : Type 0} (show : Row → Y) (line : X → Y) → ((id : Value) (x : X) → show (row_in shape_of id u x) ≡ line x)
      → (rows : List Row) → AllByRecursion (IsRowIn shape_of) rows → AllByRecursion (λ r. is_of u r ≡ true) rows
      → map show rows ≡ map line (map shape_of.read rows)
  show_own show line same [] all own = refl
  show_own show line same (r ∷ rows) all own =
      ap₂ ◌∷◌ (ap show (of_unit r all.0 own.0) ∙ same (column r 0) (shape_of.read r)) (show_own show line same rows all.1 own.1)

module _ (s : State) (m : Content) (k : HasContent s m) where
  abbrev sorted : List Row
  sorted = sort_by (by_columns (1 ∷ 2 ∷ 3 ∷ [])) (s.now.trees 3)

  opened : (q : Name) → has_any (rows_seen q s.now.trees Grants) ≡ true → contains_key m.units q ≡ true
  opened q any = go (get m.units q) refl
    where
      go : (o : Option UnitRows) → get m.units q ≡ o → is_some (get m.units q) ≡ true
      go (Some rows) e = ap is_some e
      go None e = absurd (true≢false (sym any ∙ ap has_any (k.seen q Grants ∙ ap (λ o. (unwrap_or o no_rows).grants) e)))

  known : (r : Row) → Has (s.now.trees 3) r → is_known value_cmp value_cmp_total (λ r. column r 1) (map Text (keys m.units)) r ≡ true
  known r h =
      let wf : IsRowIn grant_shape r = all_has (IsRowIn grant_shape) (s.now.trees 3) r (k.books.tidy Grants).each h in
      let q = bytes (column r 1) in
      let name : column r 1 ≡ Text q = named grant_shape (good Grants) r wf in
      let own : is_of q r ≡ true = ap (λ v. is_eq (value_cmp v (Text q))) name ∙ ap is_eq (tied_itself value_cmp_total (Text q)) in
      let any : has_any (rows_seen q s.now.trees Grants) ≡ true =
      any_sorted grant_shape.read by_grant (filter (is_of q) (s.now.trees 3)) r (has_kept (is_of q) (s.now.trees 3) r h own) in
      ap (λ v. list_any (λ u. is_eq (value_cmp v u)) (map Text (keys m.units))) name ∙ among_names q (keys m.units)
      ∙ sym (contains_key-keys m.units q) ∙ opened q any

  unit_by_unit : sort_by (by_columns (1 ∷ 2 ∷ 3 ∷ []))
      (s.now.trees 3) ≡ flat_map (λ q. filter (is_of q) (sort_by (by_columns (1 ∷ 2 ∷ 3 ∷ [])) (s.now.trees 3))) (keys m.units)
  unit_by_unit =
      let total = by_columns_total (1 ∷ 2 ∷ 3 ∷ []) in
      let test = is_known value_cmp value_cmp_total (λ (r : Row). column r 1) (map Text (keys m.units)) in
      let rise =
      ascending_weaker (λ a b. by_grant a b ≡ Less) (λ a b. is_gt (value_cmp (column a 1) (column b 1)) ≡ false)
      (λ a b less. not_after (value_cmp (column a 1) (column b 1)) (by_columns (2 ∷ 3 ∷ []) a b) less) sorted
      (strict-sort by_grant total (s.now.trees 3) (k.books.tidy Grants).apart) in
      sym (filter_all test sorted (all-sort by_grant total (λ r. test r
      ≡ true) (s.now.trees 3) (all_from (λ r. test r ≡ true) (s.now.trees 3) known)))
      ∙ sym (blocks value_cmp value_cmp_total (λ r. column r 1) (map Text (keys m.units))
      (names_rise (keys m.units) (rising (entries m.units) (entries_sorted m.units))) sorted rise)
      ∙ flat_map-map (λ u. filter (λ r. is_eq (value_cmp (column r 1) u)) sorted) Text (keys m.units)

  -- what is shown of a grant and of a row of its unit is this line
  module _ (i : TableKind) (p : Name) (shown : Row → Row → Row) {L : Type 0} (back : Row → L) (line : Name → GrantRow → RowOf i → L)
      (shows : (id jd : Value) (u : Name) (g : GrantRow) (x : RowOf i)
      → back (shown (row_in grant_shape id u g) (row_in (shape i) jd u x)) ≡ line u g x) where
    abbrev others : Row → Row → Ordering
    others = by_columns (1 ∷ (shape i).keys)

    abbrev rest : List Row
    rest = s.now.trees (shape i).tree

    abbrev meet : Row → Row → Bool
    meet g u = list_all (holds ((Text p ∷ []) ∷ g ∷ u ∷ [])) joined_tests

    abbrev beside : Row → List L
    beside g = map (λ u. back (shown g u)) (filter (meet g) (sort_by others rest))

    abbrev seen : Name → List (RowOf i)
    seen u = rows_seen u s.now.trees i

    one_grant : (id : Value) (u : Name) (g : GrantRow) → beside (row_in grant_shape id u g) ≡ cond (same_name p g.person) (map (line u g) (seen u)) []
    one_grant id u g =
        let r = row_in grant_shape id u g in
        ap (map (λ x. back (shown r x)))
        (filter_same (meet r) (λ x. is_of u x && same_name p g.person) (λ x. two_tests (column x 1) (Text g.person) u p
        ∙ ap (λ b. is_of u x && b) (named_same g.person p)) (sort_by others rest))
        ∙ by (same_name p g.person)
      where
        by : (b : Bool)
            → map (λ x. back (shown (row_in grant_shape id u g) x)) (filter (λ x. is_of u x && b) (sort_by others rest))
            ≡ cond b (map (line u g) (seen u)) []
        by true =
            let total = by_columns_total (1 ∷ (shape i).keys) in
            ap (map (λ x. back (shown (row_in grant_shape id u g) x)))
            (filter_same (λ x. is_of u x && true) (is_of u) (λ x. and_true (is_of u x)) (sort_by others rest))
            ∙ show_own (shape i) (good i) u (λ x. back (shown (row_in grant_shape id u g) x)) (line u g) (λ jd x. shows id jd u g x)
            (filter (is_of u) (sort_by others rest))
            (all-filter (IsRowIn (shape i)) (is_of u) (sort_by others rest) (all-sort others total (IsRowIn (shape i)) rest (k.books.tidy i).each))
            (passing (is_of u) (sort_by others rest))
            ∙ ap (λ rs. map (line u g) (map (shape i).read rs)) (sym (sort-filter others total (is_of u) rest))
        by false =
            ap (map (λ x. back (shown (row_in grant_shape id u g) x)))
            (filter_none (λ x. is_of u x
            && false) (sort_by others rest) (all_of (λ x. (is_of u x && false) ≡ false) (λ x. none_of_two (is_of u x)) (sort_by others rest)))

    one_unit : (u : Name) (rs : List Row) → AllByRecursion (IsRowIn grant_shape) rs → AllByRecursion (λ r. is_of u r ≡ true) rs
        → flat_map beside rs ≡ flat_map (λ g. map (line u g) (seen u)) (filter (λ g. same_name p g.person) (map grant_shape.read rs))
    one_unit u [] all own = refl
    one_unit u (r ∷ rs) all own =
        ap₂ ◌++◌ (ap beside (of_unit grant_shape (good Grants) u r all.0 own.0)
        ∙ one_grant (column r 0) u (grant_shape.read r)) (one_unit u rs all.1 own.1)
        ∙ by (same_name p (grant_shape.read r).person)
      where
        by : (b : Bool)
            → cond b (map (line u (grant_shape.read r)) (seen u)) [] ++ flat_map (λ g. map (line u g) (seen u))
            (filter (λ g. same_name p g.person) (map grant_shape.read rs))
            ≡ flat_map (λ g. map (line u g) (seen u))
            (cond b (grant_shape.read r
            ∷ filter (λ g. same_name p g.person) (map grant_shape.read rs)) (filter (λ g. same_name p g.person) (map grant_shape.read rs)))
        by true = refl
        by false = refl

    in_unit : (u : Name)
        → flat_map beside (filter (is_of u) sorted) ≡ flat_map (λ g. map (line u g) (rows_of_table i (rows_in m u)))
        (filter (λ g. same_name p g.person) (rows_in m u).grants)
    in_unit u =
        let total = by_columns_total (1 ∷ 2 ∷ 3 ∷ []) in
        one_unit u (filter (is_of u) sorted)
        (all-filter (IsRowIn grant_shape) (is_of u) sorted
        (all-sort by_grant total (IsRowIn grant_shape) (s.now.trees 3) (k.books.tidy Grants).each)) (passing (is_of u) sorted)
        ∙ ap (λ rs. flat_map (λ g. map (line u g) (seen u)) (filter (λ g. same_name p g.person) (map grant_shape.read rs)))
        (sym (sort-filter by_grant total (is_of u) (s.now.trees 3)))
        ∙ ap₂ (λ gs xs. flat_map (λ g. map (line u g) xs) (filter (λ g. same_name p g.person) gs)) (k.seen u Grants) (k.seen u i)

    lines_found : map back (flat_map (λ g. map (shown g) (filter (meet g) (sort_by others rest))) sorted) ≡ lines_of line (rows_of_table i) m p
    lines_found =
        map-flat_map back (λ g. map (shown g) (filter (meet g) (sort_by others rest))) sorted
        ∙ flat_map_same_on _ beside (λ g. map-map back (shown g) (filter (meet g) (sort_by others rest))) sorted
        ∙ ap (flat_map beside) unit_by_unit ∙ flat_map-flat_map beside (λ q. filter (is_of q) sorted) (keys m.units)
        ∙ flat_map_same_on _ _ in_unit (keys m.units)

  -- ---- the two joins

  unit_back : Row → UnitGrant
  unit_back r =
      record { unit = bytes (column r 0); role_no = role_in (column r 1); end_s = open_number_in (column r 2); last_s = number_in (column r 3) }

  pub units_read : (p : Name) (new : State) (rows : List Row) → Shown SELECT_UNIT_LINES.now (Text p ∷ []) s new rows → (read : List UnitGrant)
      → map (columns 4) rows ≡ map unit_line_cells read → read ≡ mine.own_unit_lines m p
  unfolding unit_back
  units_read p new rows h read said =
      let project = grant_shows ++ col 2 2 ∷ [] in
      let got =
      reads_as SELECT_UNIT_LINES.now (Text p ∷ []) s new books_schema k.books.same_schema _ unit_lines.is unit_lines.plain unit_lines.unlisted rows h in
      let ordered =
      λ (g h u v : Row). thens (value_cmp (column g 1) (column h 1)) (value_cmp (column g 2) (column h 2)) (value_cmp (column g 3) (column h 3))
      (by_columns (1 ∷ []) u v) in
      let are =
      joins 3 1 joined_tests project (joined_order []) grant_key (1 ∷ [])
      (Text p ∷ []) ordered s.now.trees rows (k.books.tidy Grants).apart (k.books.tidy Units).apart (got.answer Null) in
      told unit_line_cells unit_back (λ l i. record {
        unit = l.unit;
        role_no = role_back l.role_no i;
        end_s = open_number_back l.end_s i;
        last_s = l.last_s;
      }) _ read said
      ∙ map-map unit_back (columns 4) rows
      ∙ ap (map (λ r. unit_back (columns 4 r))) are
      ∙ lines_found Units p (λ g u. (pair_shown 3 1 joined_tests project (joined_order []) grant_key (1 ∷ []) (Text p ∷ []) g u).1)
      (λ r. unit_back (columns 4 r)) unit_line (λ id jd u g x i. record {
        unit = u;
        role_no = role_back g.role_no i;
        end_s = open_number_back g.end_s i;
        last_s = x.last_s;
      })

  -- ---- a shelf's alarm

  -- among the alarms, the one of this name in this unit
  abbrev alarm_at : Name → Name → List Row
  alarm_at u a = filter (λ r. is_of u r && is_named a r) (s.now.trees 5)

  -- what the last column of the join shows is when it last returned to normal, if it is there
  return_shown : (u a : Name) (l : List Row) → AllByRecursion (IsRowIn alarm_shape) l
      → AllByRecursion (λ r. (is_of u r && is_named a r) ≡ true) l → or_nulls l ≡ first_row l ∷ []
      → open_number_in (column (first_row l) 9) ≡ last_return_in (map alarm_shape.read (sort_by (by_columns (1 ∷ 2 ∷ [])) l)) a
  return_shown u a [] all own lone = refl
  return_shown u a (r ∷ []) all own lone =
      let tag : column r 2 ≡ Text (bytes (column r 2)) = ap (λ (r : Row). column r 2) all.0 in
      let is : same_name a (bytes (column r 2)) ≡ true = sym (ap (λ v. is_eq (value_cmp v (Text a))) tag ∙ named_same (bytes (column r 2)) a)
      ∙ (and_parts _ _ own.0).1 in
      sym (ap (λ b. option_and_then (λ (r : AlarmRow). r.return_s) (cond b (Some (alarm_shape.read r)) None)) is)
  return_shown u a (r ∷ q ∷ l) all own lone = absurd (true≢false (ap (λ l. has_any (drop 1 l)) lone))

  last_returned : (u a : Name) → or_nulls (alarm_at u a) ≡ first_row (alarm_at u a) ∷ []
      → open_number_in (column (first_row (alarm_at u a)) 9) ≡ last_return_in (rows_in m u).alarms a
  last_returned u a lone =
      let test = λ (r : Row). is_of u r && is_named a r in
      let alarms = s.now.trees 5 in
      let each = (k.books.tidy Alarms).each in
      return_shown u a (alarm_at u a) (all-filter (IsRowIn alarm_shape) test alarms each) (passing test alarms) lone
      ∙ ap (λ rows. last_return_in rows a)
      (some_kept alarm_shape (good Alarms) (is_named a) (λ r. same_name a r.tag) (λ id v x. named_same x.tag a) u alarms each
      ∙ ap (filter (λ (r : AlarmRow). same_name a r.tag)) (k.seen u Alarms))
      ∙ ap (option_and_then (λ (r : AlarmRow). r.return_s))
      (row_at-filter name_cmp alarm_tag a (λ r. same_name a r.tag) (λ r h. h) (rows_in m u).alarms)

  shelf_back : Row → ShelfGrant
  shelf_back r = record {
    unit = bytes (column r 0);
    role_no = role_in (column r 1);
    end_s = open_number_in (column r 2);
    shelf = record {
      tag = bytes (column r 3);
      one_shot = flag_in (column r 4);
      start_s = number_in (column r 5);
      until_s = number_in (column r 6);
      person = bytes (column r 7);
      words = bytes (column r 8);
    };
    last_return = open_number_in (column r 9);
  }

  -- the alarms that are joined to a shelf
  abbrev alarms_of : Row → List Row
  alarms_of u = filter (λ r. equal Binary (column r 1) (column u 1) && (equal Binary (column r 2) (column u 2) && true)) (s.now.trees 5)

  abbrev shelf_shown : Name → Row → Row → Row
  shelf_shown p g u = (line_shown 3 7 5 alarm_tests joined_tests shelf_shows unit_order (Text p ∷ []) s.now.trees g u).1

  alone : (u : Row) → or_nulls (alarms_of u) ≡ first_row (alarms_of u) ∷ []
  alone u = one_by_two u (s.now.trees 5) (k.books.tidy Alarms).apart

  shelf_shows_line : (p : Name) (id jd : Value) (u : Name) (g : GrantRow) (x : ShelfRow)
      → shelf_back (columns 10 (shelf_shown p (row_in grant_shape id u g) (row_in shelf_shape jd u x))) ≡ shelf_line m u g x
  unfolding shelf_back
  shelf_shows_line p id jd u g x =
      let row = row_in shelf_shape jd u x in
      let its =
      filter_same (λ r. equal Binary (column r 1) (Text u) && (equal Binary (column r 2) (Text x.tag) && true)) (λ r. is_of u r && is_named x.tag r)
      (λ r. two_tests (column r 1) (column r 2) u x.tag) (s.now.trees 5) in
      let lone = subst (λ l. or_nulls l ≡ first_row l ∷ []) its (alone row) in
      let at : open_number_in (column (first_row (alarms_of row)) 9) ≡ last_return_in (rows_in m u).alarms x.tag =
      ap (λ l. open_number_in (column (first_row l) 9)) its ∙ last_returned u x.tag lone in
      λ i. record {
        unit = u;
        role_no = role_back g.role_no i;
        end_s = open_number_back g.end_s i;
        shelf = record {
          tag = x.tag;
          one_shot = flag_back x.one_shot i;
          start_s = x.start_s;
          until_s = x.until_s;
          person = x.person;
          words = x.words;
        };
        last_return = at i;
      }

  pub shelves_read : (p : Name) (new : State) (rows : List Row) → Shown SELECT_SHELF_LINES.now (Text p ∷ []) s new rows → (read : List ShelfGrant)
      → map (columns 10) rows ≡ map shelf_line_cells read → IsPermutation (mine.own_shelf_lines m p) read
  unfolding shelf_back
  shelves_read p new rows h read said =
      let got =
      reads_as SELECT_SHELF_LINES.now (Text p
      ∷ []) s new books_schema k.books.same_schema _ shelf_lines.is shelf_lines.plain shelf_lines.unlisted rows h in
      let back = λ (r : Row). shelf_back (columns 10 r) in
      let is : read ≡ map back rows =
      told shelf_line_cells shelf_back (λ l i. record {
        unit = l.unit;
        role_no = role_back l.role_no i;
        end_s = open_number_back l.end_s i;
        shelf = record {
          tag = l.shelf.tag;
          one_shot = flag_back l.shelf.one_shot i;
          start_s = l.shelf.start_s;
          until_s = l.shelf.until_s;
          person = l.shelf.person;
          words = l.shelf.words;
        };
        last_return = open_number_back l.last_return i;
      }) _ read said
      ∙ map-map shelf_back (columns 10) rows in
      let found = lines_found Shelves p (shelf_shown p) back (shelf_line m) (shelf_shows_line p) in
      let same =
      left_joins 3 7 5 alarm_tests joined_tests shelf_shows unit_order (Text p ∷ []) s.now.trees (λ g u. alone u) (λ g u r. refl)
      grant_key (1 ∷ 2 ∷ []) rows (got.answer Null) in
      subst (IsPermutation (mine.own_shelf_lines m p)) (sym is) (subst (λ l. IsPermutation l (map back rows)) found (IsPermutation-map back _ _ same))
