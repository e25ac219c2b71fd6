-- Lines of a person's grants merged: by unit, with the roles held; and of one grant of each unit, for its shelves.
use Rattle.std.specs.{Cmp.Lexicographic.{nat_list_cmp_total}, FinMap.{entries, entries_sorted, get, keys}, List.{AllByRecursion, cons_option, dedup, dedup_from, list_any, slice_get}}
use Rattle.std.specs.{List.Sorted.{IsStrictlySortedBy}, Ordering.{nat_cmp, ordering_then}, Prelude.{not, ◌&&◌, ◌||◌}}
use Rattle.std.proofs.Common.{◌≡◌, ◌+◌, ℕ, Bool, true, false, cond, List, [], ◌∷◌, ◌++◌, append_assoc, arith, filter, filter_map, flat_map, length, map, Option, None, Some, refl, sym, ap, ap₂, ◌∙◌, subst, true≢false, Equal, Less, is_eq, is_some, unwrap_or}
use Rattle.std.proofs.lemmas.{Cmp.{nat_cmp_total, tied_itself}, List.Elements.{filter-append}}
use Rattle.sqlite.specs.State.{State}
use Rattle.sqlite_keyed.proofs.ListLemmas.{all_of, all_weaker, ascending-filter, ascending_weaker, flat_map_none, flat_map_same_on}
use Rattle.sqlite_trees.specs.Tree.{IsAscending}
use Rattle.plant_books.specs.{Contents.{Content, is_held_row, is_held_in, mine_as, mine_row, mine_shelves, mine_unit, mine_units, rows_in, shelves_mine}, declared.books.{MineRow.{MineRow}, MineUnit.{MineUnit}}}
use Rattle.plant_store_columns.specs.{Tables.{grant_shape, own_key, unit_shape}, declared.tables.TableKind.TheVariants.{Grants, Units}}
use Rattle.plant_store_columns.proofs.public.{Bridge.{AreRising}, ShapeLaws.{good}, Shapes.{rising as rows_rise}}
use Rattle.plant_model.specs.{Grants.{is_before}, declared.rows.{GrantRow.{GrantRow}, ShelfRow.{ShelfRow}, UnitRow.{UnitRow}, UnitRows.{UnitRows}}}
use Rattle.plant_model.specs.steps.{RowChanges.{no_rows}, RowFacts.{no_unit, pair_of}}
use Rattle.plant_store_statements.specs.Keeping.{HasContent, has_any}
use Rattle.plant_store.specs.declared.{mine.UnitGrant.{UnitGrant}, shelves.ShelfGrant.{ShelfGrant}}
use Rattle.plant_store.specs.Mine.{as_mine, lines_of, put_run, repeats, runs_of, shelf_line, own_shelf_lines, standing_shelves, standing_units, started, unit_line, own_unit_lines}
use Rattle.plant_store.proofs.{Holdings.{own_roles, rising}, LineOrder.{own_rise}}
use Rattle.plant_store_statements.proofs.public.Contents.{same_codes}
use Rattle.plant_types.specs.{Names.{Name, name_cmp, same_name}, Options.{when}, Roles.{pair_cmp, role_no, same_role}, declared.role.Role.{Role}}

itself : (a : Name) → same_name a a ≡ true
itself a = ap is_eq (tied_itself nat_list_cmp_total a)

-- ---- one line more

pub joins_run : (u : MineUnit) (l : UnitGrant) → same_name u.unit l.unit ≡ true → (vs : List MineUnit)
    → put_run (record u { roles = u.roles ++ l.role_no ∷ [] }) vs ≡ put_run u (put_run (started l) vs)
joins_run u l h [] = rw h refl
joins_run u l h (v ∷ vs) = go (same_name l.unit v.unit) refl
  where
    alike : same_name u.unit v.unit ≡ same_name l.unit v.unit
    alike = ap (λ n. same_name n v.unit) (same_codes u.unit l.unit h)

    go : (b : Bool) → same_name l.unit v.unit ≡ b
        → cond (same_name u.unit v.unit) ((record { unit = u.unit; roles = (u.roles ++ l.role_no ∷ []) ++ v.roles; last = u.last }) ∷ vs)
        ((record u { roles = u.roles ++ l.role_no ∷ [] }) ∷ v ∷ vs)
        ≡ put_run u (cond b ((record { unit = l.unit; roles = l.role_no ∷ v.roles; last = l.last_s }) ∷ vs) (started l ∷ v ∷ vs))
    go true e =
        rw (alike, e, h)
        (ap (λ (rs : List Role). (let w : MineUnit = record { unit = u.unit; roles = rs; last = u.last } in w)
        ∷ vs) (append_assoc u.roles (l.role_no ∷ []) v.roles))
    go false e = rw (alike, e, h) refl

-- a line of another unit begins a run of its own
pub other_run : (u : MineUnit) (l : UnitGrant) → same_name u.unit l.unit ≡ false → (vs : List MineUnit)
    → put_run u (put_run (started l) vs) ≡ u ∷ put_run (started l) vs
other_run u l h [] = rw h refl
other_run u l h (v ∷ vs) = go (same_name l.unit v.unit)
  where
    go : (b : Bool)
        → put_run u (cond b ((record { unit = l.unit; roles = l.role_no ∷ v.roles; last = l.last_s }) ∷ vs) (started l ∷ v ∷ vs)) ≡ u
        ∷ cond b ((record { unit = l.unit; roles = l.role_no ∷ v.roles; last = l.last_s }) ∷ vs) (started l ∷ v ∷ vs)
    go true = rw h refl
    go false = rw h refl

-- the line is the first of its unit, or one of the grant whose shelves are listed
abbrev goes_on : Option ShelfGrant → ShelfGrant → Bool
goes_on None l = true
goes_on (Some last) l = not (repeats l last)

-- after this one, the lines of one grant of each unit
abbrev listed_after : Option ShelfGrant → List ShelfGrant → List ShelfGrant
listed_after last [] = []
listed_after last (l ∷ ls) = cond (goes_on last l) (l ∷ listed_after (Some l) ls) (listed_after last ls)

listed_from : (last : ShelfGrant) (ls : List ShelfGrant) → dedup_from repeats last ls ≡ last ∷ listed_after (Some last) ls
listed_from last [] = refl
listed_from last (l ∷ ls) = by (repeats l last) (listed_from last ls) (listed_from l ls)
  where
    by : (b : Bool) → dedup_from repeats last ls ≡ last ∷ listed_after (Some last) ls → dedup_from repeats l ls ≡ l ∷ listed_after (Some l) ls
        → cond b (dedup_from repeats last ls) (last ∷ dedup_from repeats l ls) ≡ last ∷ cond (not b) (l ∷ listed_after (Some l) ls)
        (listed_after (Some last) ls)
    by true same other = same
    by false same other = ap (λ l. last ∷ l) other

listed : (ls : List ShelfGrant) → dedup repeats ls ≡ listed_after None ls
listed [] = refl
listed (l ∷ ls) = listed_from l ls

-- ---- lines of grants that have not ended are those of grants held

own_person : (b c : Bool) → cond b c false ≡ true → b ≡ true
own_person true c h = refl
own_person false c h = absurd (true≢false (sym h))

same_itself : (r : Role) → same_role r r ≡ true
same_itself r = ap is_eq (tied_itself nat_cmp_total (role_no r))

single : (xs : List UnitRow) → AreRising nat_cmp own_key xs → has_any xs ≡ true → (r : UnitRow) × (xs ≡ r ∷ [])
single [] up any = absurd (true≢false (sym any))
single (r ∷ []) up any = (r, refl)
single (r ∷ q ∷ xs) up any = absurd (true≢false (ap is_eq (sym (tied_itself nat_cmp_total 0) ∙ up.0.0)))

filter-flat_map : {A B : Type 0} (q : B → Bool) (f : A → List B) (xs : List A) → filter q (flat_map f xs) ≡ flat_map (λ x. filter q (f x)) xs
filter-flat_map q f [] = refl
filter-flat_map q f (x ∷ xs) = filter-append q (f x) (flat_map f xs) ∙ ap (λ l. filter q (f x) ++ l) (filter-flat_map q f xs)

fresh : (w : MineUnit) (vs : List MineUnit) → AllByRecursion (λ v. same_name w.unit v.unit ≡ false) vs → put_run w vs ≡ w ∷ vs
fresh w [] new = refl
fresh w (v ∷ vs) new = rw new.0 refl

abbrev with_roles : Name → List GrantRow → UnitRow → MineUnit
with_roles u gs r = record { unit = u; roles = map (λ g. g.role_no) gs; last = r.last_s }

run : (u : Name) (r : UnitRow) (gs : List GrantRow) (ls : List UnitGrant) → AllByRecursion (λ v. same_name u v.unit ≡ false) (runs_of ls)
    → runs_of (flat_map (λ g. unit_line u g r ∷ []) gs ++ ls) ≡ cons_option (when (has_any gs) (with_roles u gs r)) (runs_of ls)
run u r [] ls new = refl
run u r (g ∷ []) ls new = fresh (started (unit_line u g r)) (runs_of ls) new
run u r (g ∷ h ∷ gs) ls new = ap (put_run (started (unit_line u g r))) (run u r (h ∷ gs) ls new) ∙ rw (itself u) refl

module _ (t : ℕ) (p : Name) where
  module _ {X L : Type 0} (line : GrantRow → X → L) (end_of : L → Option ℕ) (is : (g : GrantRow) (x : X) → end_of (line g x) ≡ g.end_s) where
    one_grant : (g : GrantRow) (xs : List X)
        → filter (λ l. is_before t (end_of l)) (map (line g) xs) ≡ cond (is_before t g.end_s) (map (line g) xs) []
    one_grant g [] = elim (is_before t g.end_s) as (λ b. [] ≡ cond b (let none : List L = [] in none) []) [ true ↦ refl | false ↦ refl ]
    one_grant g (x ∷ xs) = rw (is g x) (by (is_before t g.end_s) (one_grant g xs))
      where
        by : (b : Bool) → filter (λ l. is_before t (end_of l)) (map (line g) xs) ≡ cond b (map (line g) xs) []
            → cond b (line g x ∷ filter (λ l. is_before t (end_of l)) (map (line g) xs))
            (filter (λ l. is_before t (end_of l)) (map (line g) xs)) ≡ cond b (line g x ∷ map (line g) xs) []
        by true more = ap (λ l. line g x ∷ l) more
        by false more = more

    standing_at : (xs : List X) (gs : List GrantRow)
        → filter (λ l. is_before t (end_of l)) (flat_map (λ g. map (line g) xs) gs) ≡ flat_map (λ g. map (line g) xs)
        (filter (λ g. is_before t g.end_s) gs)
    standing_at xs [] = refl
    standing_at xs (g ∷ gs) =
        filter-append (λ l. is_before t (end_of l)) (map (line g) xs) (flat_map (λ g. map (line g) xs) gs)
        ∙ ap₂ ◌++◌ (one_grant g xs) (standing_at xs gs) ∙ by (is_before t g.end_s)
      where
        by : (b : Bool)
            → cond b (map (line g) xs) [] ++ flat_map (λ g. map (line g) xs) (filter (λ g. is_before t g.end_s) gs) ≡ flat_map (λ g. map (line g) xs)
            (cond b (g ∷ filter (λ g. is_before t g.end_s) gs) (filter (λ g. is_before t g.end_s) gs))
        by true = refl
        by false = refl

  any_kept : (gs : List GrantRow) → list_any (is_held_row t p) gs ≡ has_any (filter (is_held_row t p) gs)
  any_kept [] = refl
  any_kept (g ∷ gs) =
      elim (is_held_row t p g) as (λ b. (b || list_any (is_held_row t p) gs)
      ≡ has_any (cond b (g ∷ filter (is_held_row t p) gs) (filter (is_held_row t p) gs))) [ true ↦ refl | false ↦ any_kept gs ]

  module _ (m : Content) where
    held_lines : {X L : Type 0} (line : Name → GrantRow → X → L) (end_of : L → Option ℕ)
        → ((u : Name) (g : GrantRow) (x : X) → end_of (line u g x) ≡ g.end_s) → (these : UnitRows → List X)
        → filter (λ l. is_before t (end_of l))
        (lines_of line these m p)
        ≡ flat_map (λ u. flat_map (λ g. map (line u g) (these (rows_in m u))) (filter (is_held_row t p) (rows_in m u).grants)) (keys m.units)
    held_lines line end_of is these =
        filter-flat_map (λ l. is_before t (end_of l))
        (λ u. flat_map (λ g. map (line u g) (these (rows_in m u))) (filter (λ g. same_name p g.person) (rows_in m u).grants)) (keys m.units)
        ∙ flat_map_same_on _ _
        (λ u. standing_at (line u) end_of (is u) (these (rows_in m u)) (filter (λ g. same_name p g.person) (rows_in m u).grants)
        ∙ ap (flat_map (λ g. map (line u g) (these (rows_in m u)))) (own_roles t p (rows_in m u).grants)) (keys m.units)

    -- ---- the units

    abbrev units_at : Name → List UnitGrant
    units_at u = flat_map (λ g. map (unit_line u g) (rows_in m u).units) (filter (is_held_row t p) (rows_in m u).grants)

    abbrev units_mine : List Name → List MineUnit
    units_mine us = filter_map (λ u. mine_unit t p u (get m.units u)) us

    others : (u : Name) (us : List Name) → AllByRecursion (λ v. name_cmp u v ≡ Less) us
        → AllByRecursion (λ (v : MineUnit). same_name u v.unit ≡ false) (units_mine us)
    others u [] less = tt
    others u (v ∷ us) less = by (get m.units v) (others u us less.1)
      where
        by : (o : Option UnitRows) → AllByRecursion (λ (v : MineUnit). same_name u v.unit ≡ false) (units_mine us)
            → AllByRecursion (λ (v : MineUnit). same_name u v.unit ≡ false) (cons_option (mine_unit t p v o) (units_mine us))
        by None all = all
        by (Some rows) all =
            elim (is_held_in t p (Some rows)) as (λ b. AllByRecursion (λ (v : MineUnit). same_name u v.unit
            ≡ false) (cons_option (when b (mine_as t p v rows)) (units_mine us))) [ true ↦ (ap is_eq less.0, all) | false ↦ all ]

    module _ (one : (u : Name) (rows : UnitRows) → get m.units u ≡ Some rows → (r : UnitRow) × (rows.units ≡ r ∷ [])) where
      units_merged : (us : List Name) → IsStrictlySortedBy name_cmp us → runs_of (flat_map units_at us) ≡ units_mine us
      unfolding IsStrictlySortedBy
      units_merged [] up = refl
      units_merged (u ∷ us) up = by (get m.units u) refl (units_merged us up.1)
        where
          by : (o : Option UnitRows) → get m.units u ≡ o → runs_of (flat_map units_at us) ≡ units_mine us
              → runs_of (flat_map (λ g. map (unit_line u g) (unwrap_or o no_rows).units) (filter (is_held_row t p) (unwrap_or o no_rows).grants)
              ++ flat_map units_at us) ≡ cons_option (mine_unit t p u o) (units_mine us)
          by None e more = more
          by (Some rows) e more =
              let it = one u rows e in
              let gs = filter (is_held_row t p) rows.grants in
              ap (λ xs. runs_of (flat_map (λ g. map (unit_line u g) xs) gs ++ flat_map units_at us)) it.1
              ∙ run u it.0 gs (flat_map units_at us)
              (subst (AllByRecursion (λ (v : MineUnit). same_name u v.unit ≡ false)) (sym more) (others u us up.0))
              ∙ ap (λ xs. cons_option (when (has_any gs) (with_roles u gs (unwrap_or (slice_get xs 0) no_unit))) (runs_of (flat_map units_at us)))
              (sym it.1)
              ∙ ap (λ b. cons_option (when b (mine_as t p u rows)) (runs_of (flat_map units_at us))) (sym (any_kept rows.grants))
              ∙ ap (cons_option (when (is_held_in t p (Some rows)) (mine_as t p u rows))) more

    -- ---- the shelves

    abbrev shelves_at : Name → List ShelfGrant
    shelves_at u = flat_map (λ g. map (shelf_line m u g) (rows_in m u).shelves) (filter (is_held_row t p) (rows_in m u).grants)

    abbrev shelves_left : List Name → List MineRow
    shelves_left us = flat_map (λ u. shelves_mine t p u (get m.units u)) us

    abbrev is_new : Option ShelfGrant → Name → Bool
    is_new None u = true
    is_new (Some l) u = not (same_name l.unit u)

    begins : (last : Option ShelfGrant) (u : Name) (g : GrantRow) (s : ShelfRow) → is_new last u ≡ true → goes_on last (shelf_line m u g s) ≡ true
    begins None u g s h = refl
    begins (Some l) u g s h = other (same_name l.unit u) (not (same_role l.role_no g.role_no)) h
      where
        other : (a b : Bool) → not a ≡ true → not (a && b) ≡ true
        other false b h = refl
        other true b h = absurd (true≢false (sym h))

    -- once a grant's shelf is listed, no other grant's is
    skips_one : (u : Name) (g h : GrantRow) (s : ShelfRow) → same_role g.role_no h.role_no ≡ false → (ss : List ShelfRow) (ls : List ShelfGrant)
        → listed_after (Some (shelf_line m u g s)) (map (shelf_line m u h) ss ++ ls) ≡ listed_after (Some (shelf_line m u g s)) ls
    skips_one u g h s apart [] ls = refl
    skips_one u g h s apart (x ∷ ss) ls = rw (itself u, apart) (skips_one u g h s apart ss ls)

    skips : (u : Name) (g : GrantRow) (s : ShelfRow) (ss : List ShelfRow) (hs : List GrantRow)
        → AllByRecursion (λ h. same_role g.role_no h.role_no ≡ false) hs → (ls : List ShelfGrant)
        → listed_after (Some (shelf_line m u g s)) (flat_map (λ h. map (shelf_line m u h) ss) hs ++ ls) ≡ listed_after (Some (shelf_line m u g s)) ls
    skips u g s ss [] all ls = refl
    skips u g s ss (h ∷ hs) all ls =
        ap (listed_after (Some (shelf_line m u g s))) (append_assoc (map (shelf_line m u h) ss) (flat_map (λ h. map (shelf_line m u h) ss) hs) ls)
        ∙ skips_one u g h s all.0 ss (flat_map (λ h. map (shelf_line m u h) ss) hs ++ ls) ∙ skips u g s ss hs all.1 ls

    -- and the others of that grant are
    takes : (u : Name) (g : GrantRow) (ss : List ShelfRow) (ls : List ShelfGrant) (z : List MineRow)
        → ((s : ShelfRow) → map as_mine (listed_after (Some (shelf_line m u g s)) ls) ≡ z)
        → (s : ShelfRow)
        → map as_mine (listed_after (Some (shelf_line m u g s)) (map (shelf_line m u g) ss ++ ls)) ≡ map (mine_row u (rows_in m u)) ss ++ z
    takes u g [] ls z same s = same s
    takes u g (x ∷ ss) ls z same s = rw (itself u, same_itself g.role_no) (ap (λ l. mine_row u (rows_in m u) x ∷ l) (takes u g ss ls z same x))

    module _ (apart : (u : Name) (rows : UnitRows) → get m.units u ≡ Some rows
        → IsAscending (λ a b. same_role a.role_no b.role_no ≡ false) (filter (is_held_row t p) rows.grants)) where
      -- the lines of one unit come before others, of which the same is listed whichever line came last
      in_unit : (u : Name) (ls : List ShelfGrant) (z : List MineRow) (last : Option ShelfGrant) → is_new last u ≡ true
          → map as_mine (listed_after last ls) ≡ z
          → ((g : GrantRow) (s : ShelfRow) → map as_mine (listed_after (Some (shelf_line m u g s)) ls) ≡ z)
          → (ss : List ShelfRow) (gs : List GrantRow) → IsAscending (λ a b. same_role a.role_no b.role_no ≡ false) gs
          → map as_mine (listed_after last (flat_map (λ g. map (shelf_line m u g) ss) gs ++ ls)) ≡ cond (has_any gs)
          (map (mine_row u (rows_in m u)) ss) [] ++ z
      in_unit u ls z last new now later ss [] differ = now
      in_unit u ls z last new now later [] (g ∷ gs) differ =
          ap (λ l. map as_mine (listed_after last (l ++ ls))) (flat_map_none (λ (g : GrantRow). map (shelf_line m u g) []) (λ g. refl) (g ∷ gs))
          ∙ now
      in_unit u ls z last new now later (s ∷ ss) (g ∷ gs) differ =
          let more = flat_map (λ (h : GrantRow). map (shelf_line m u h) (s ∷ ss)) gs in
          rw (begins last u g s new)
          (ap (λ l. mine_row u (rows_in m u) s
          ∷ l) (ap (λ l. map as_mine (listed_after (Some (shelf_line m u g s)) l)) (append_assoc (map (shelf_line m u g) ss) more ls)
          ∙ takes u g ss (more ++ ls) z (λ x. ap (map as_mine) (skips u g x (s ∷ ss) gs differ.0 ls) ∙ later g x) s))

      with_unit : (u : Name) (ls : List ShelfGrant) (z : List MineRow) (last : Option ShelfGrant) → is_new last u ≡ true
          → map as_mine (listed_after last ls) ≡ z
          → ((g : GrantRow) (s : ShelfRow) → map as_mine (listed_after (Some (shelf_line m u g s)) ls) ≡ z) → (o : Option UnitRows)
          → get m.units u ≡ o
          → map as_mine
          (listed_after last
          (flat_map (λ g. map (shelf_line m u g) (unwrap_or o no_rows).shelves) (filter (is_held_row t p) (unwrap_or o no_rows).grants) ++ ls))
          ≡ shelves_mine t p u o ++ z
      with_unit u ls z last new now later None e = now
      with_unit u ls z last new now later (Some rows) e =
          in_unit u ls z last new now later rows.shelves (filter (is_held_row t p) rows.grants) (apart u rows e)
          ∙ ap₂ (λ b (o : Option UnitRows). cond b (map (mine_row u (unwrap_or o no_rows)) rows.shelves) [] ++ z) (sym (any_kept rows.grants)) e

      shelves_merged : (us : List Name) → IsStrictlySortedBy name_cmp us → (last : Option ShelfGrant) → AllByRecursion (λ u. is_new last u ≡ true) us
          → map as_mine (listed_after last (flat_map shelves_at us)) ≡ shelves_left us
      unfolding IsStrictlySortedBy
      shelves_merged [] up last new = refl
      shelves_merged (u ∷ us) up last new =
          with_unit u (flat_map shelves_at us) (shelves_left us) last new.0 (shelves_merged us up.1 last new.1)
          (λ g s. shelves_merged us up.1 (Some (shelf_line m u g s)) (all_weaker _ (λ v. not (same_name u v)
          ≡ true) (λ v less. ap (λ o. not (is_eq o)) less) us up.0)) (get m.units u) refl

    module _ (s : State) (k : HasContent s m) where
      abbrev names_up : IsStrictlySortedBy name_cmp (keys m.units)
      names_up = rising (entries m.units) (entries_sorted m.units)

      one_row : (u : Name) (rows : UnitRows) → get m.units u ≡ Some rows → (r : UnitRow) × (rows.units ≡ r ∷ [])
      one_row u rows e =
          single rows.units (subst (AreRising nat_cmp own_key) (k.seen u Units
          ∙ ap (λ o. (unwrap_or o no_rows).units) e) (rows_rise unit_shape (good Units) u (s.now.trees 1) (k.books.tidy Units)))
          (sym (ap (λ o. has_any (unwrap_or o no_rows).units) e) ∙ sym (k.opened u) ∙ ap is_some e)

      pub units_found : runs_of (standing_units t (own_unit_lines m p)) ≡ mine_units m t p
      units_found = ap runs_of (held_lines unit_line (λ l. l.end_s) (λ u g x. refl) (λ rows. rows.units))
          ∙ units_merged one_row (keys m.units) names_up

      differ : (u : Name) (rows : UnitRows) → get m.units u ≡ Some rows
          → IsAscending (λ a b. same_role a.role_no b.role_no ≡ false) (filter (is_held_row t p) rows.grants)
      differ u rows e =
          subst (IsAscending (λ (a b : GrantRow). same_role a.role_no b.role_no ≡ false)) (own_roles t p rows.grants)
          (ascending-filter _ (λ g. is_before t g.end_s) _ (ascending_weaker _ _ (λ a b less. ap is_eq less) _
          (subst (λ o. IsAscending (λ (a b : GrantRow). nat_cmp (role_no a.role_no) (role_no b.role_no)
          ≡ Less) (filter (λ g. same_name p g.person) (unwrap_or o no_rows).grants)) e (own_rise s m k p u))))

      pub shelves_found : map as_mine (dedup repeats (standing_shelves t (own_shelf_lines m p))) ≡ mine_shelves m t p
      shelves_found =
          ap (map as_mine) (listed (standing_shelves t (own_shelf_lines m p)))
          ∙ ap (λ ls. map as_mine (listed_after None ls)) (held_lines (shelf_line m) (λ l. l.end_s) (λ u g x. refl) (λ rows. rows.shelves))
          ∙ shelves_merged differ (keys m.units) names_up None (all_of (λ u. is_new None u ≡ true) (λ u. refl) (keys m.units))
