-- The codes of the units in which a person holds a role, and the person's grants in one unit.
use Rattle.std.specs.FinMap.{get, keys, Entries.{below_all, is_sorted}}
use Rattle.std.specs.List.{AllByRecursion, cons_option, Sorted.{IsStrictlySortedBy}}
use Rattle.std.proofs.Common.{◌≡◌, ℕ, true, false, cond, List, [], ◌∷◌, map, filter, filter_map, Option, None, Some, refl, ap, Less, T, if◌then◌else◌}
use Rattle.plant_books.specs.{Contents.{Content, codes_held, is_held_row, is_held_in, mine_as, mine_unit, mine_units}, declared.books.MineUnit.{MineUnit}}
use Rattle.plant_model.specs.{Grants.{is_before}, declared.rows.{GrantRow.{GrantRow}, UnitRows.{UnitRows}}}
use Rattle.plant_model.proofs.public.RowsFound.{less}
use Rattle.plant_types.{specs.{Names.{Name, name_cmp, same_name}, Options.{when}}, proofs.public.Halves.{first, second}}

-- the keys of a map rise
above : {X : Type 0} (a : Name) (es : List (Name × X)) → T (below_all name_cmp a es) → AllByRecursion (λ b. name_cmp a b ≡ Less) (map (λ e. e.0) es)
above a [] h = tt
above a (e ∷ es) h = (less (name_cmp a e.0) (first _ _ h), above a es (second _ _ h))

pub rising : {X : Type 0} (es : List (Name × X)) → T (is_sorted name_cmp es) → IsStrictlySortedBy name_cmp (map (λ e. e.0) es)
unfolding IsStrictlySortedBy
rising [] h = tt
rising (e ∷ es) h = (above e.0 es (first _ _ h), rising es (second _ _ h))

-- ---- the codes of the units in which the person holds a role

pub codes_of_units : (m : Content) (t : ℕ) (p : Name) → map (λ (u : MineUnit). u.unit) (mine_units m t p) ≡ codes_held m t p
codes_of_units m t p = over (keys m.units)
  where
    told : (u : Name) (o : Option UnitRows) (us : List MineUnit) (codes : List Name) → map (λ (v : MineUnit). v.unit) us ≡ codes
        → map (λ (v : MineUnit). v.unit) (cons_option (mine_unit t p u o) us) ≡ cons_option (when (is_held_in t p o) u) codes
    told u None us codes same = same
    told u (Some rows) us codes same =
        elim (is_held_in t p (Some rows)) as (λ b. map (λ (v : MineUnit). v.unit) (cons_option (when b (mine_as t p u rows)) us)
        ≡ cons_option (when b u) codes) [ true ↦ ap (λ l. u ∷ l) same | false ↦ same ]

    over : (us : List Name) → map (λ (v : MineUnit). v.unit) (filter_map (λ u. mine_unit t p u (get m.units u)) us)
        ≡ filter_map (λ u. when (is_held_in t p (get m.units u)) u) us
    over [] = refl
    over (u ∷ us) = told u (get m.units u) (filter_map (λ v. mine_unit t p v (get m.units v)) us) (filter_map (λ v. when (is_held_in t p (get m.units v)) v) us)
        (over us)

-- ---- a person's grants in one unit

pub own_roles : (t : ℕ) (p : Name) (gs : List GrantRow)
    → filter (λ g. is_before t g.end_s) (filter (λ g. same_name p g.person) gs) ≡ filter (is_held_row t p) gs
own_roles t p [] = refl
own_roles t p (g ∷ gs) =
    elim (same_name p g.person) as (λ b. filter (λ g. is_before t g.end_s) (cond b (g
    ∷ filter (λ g. same_name p g.person) gs) (filter (λ g. same_name p g.person) gs))
    ≡ cond (if b then is_before t g.end_s else false) (g ∷ filter (is_held_row t p) gs) (filter (is_held_row t p) gs)) [
      | true ↦ ap (λ l. cond (is_before t g.end_s) (g ∷ l) l) (own_roles t p gs)
      | false ↦ own_roles t p gs
    ]
