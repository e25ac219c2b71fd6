-- Books in a list of units: what is found in it, and what it has after a put.
use Rattle.std.{specs.{Cmp.{tied_itself}, FinMap.Entries.{below_all, by_order, find as found, is_sorted, put}}, proofs.lemmas.List.{nil_from_length}}
use Rattle.std.specs.{FinMap.{entries, entries-insert, entries_sorted, get, get-entries, keys, len-empty, len-entries}, List.{cons_option}}
use Rattle.std.specs.Ordering.{eq_by_cmp}
use Rattle.std.proofs.Common.{List, Some, T, [], ap, cond, false, map, refl, subst, sym, true, ◌++◌, ◌∙◌, ◌∷◌, ◌≡◌, flat_map, is_eq, is_lt, Err, Ok, OnOk, Option, Result, filter_map, option_map, unwrap_or, Equal, Greater, Less, option_to_list, None}
use Rattle.plant_books.specs.Contents.{Content, after_changes, no_units, part_in, rows_in, with_rows}
use Rattle.plant_books.specs.{Listed.{AreCountable, IsCountable, IsListed, rows_at}, declared.opened.OpenedUnit.{OpenedUnit}}
use Rattle.plant_model.specs.{Worlds.{unit_named}, declared.call.Call.{Call}}
use Rattle.plant_model.specs.steps.{Parts.{part_of}, RowChanges.{changed_by, no_rows}}
use Rattle.plant_model.{specs.declared.rows.{RowEdit.{RowEdit}, UnitRows.{UnitRows}}, proofs.public.RowsFound.{less, turned}}
use Rattle.plant_types.{specs.{KeyedRows.{put_row, row_at}, Names.{Name, name_cmp}, declared.fault.Fault.{Fault}}, proofs.public.Halves.{first}}
use Rattle.plant_types.proofs.public.{Orders.{name_total, same_names}, Halves.{second}}

abbrev entry : OpenedUnit → Name × UnitRows
entry o = (o.unit, o.rows)

-- the rows of a code
found_in : (u : Name) (opened : List OpenedUnit) → rows_at opened u ≡ found name_cmp u (map entry opened)
found_in u [] = refl
found_in u (o ∷ os) =
    elim (eq_by_cmp name_cmp u o.unit) as (λ b. option_map (λ o. o.rows) (cond b (Some o) (row_at name_cmp (λ o. o.unit) u os))
    ≡ cond b (Some o.rows) (found name_cmp u (map entry os))) [
      | true ↦ refl
      | false ↦ found_in u os
    ]

pub rows_listed : (admin u : Name) (opened : List OpenedUnit) (m : Content) → IsListed admin opened m → rows_at opened u ≡ get m.units u
rows_listed admin u opened m h = found_in u opened ∙ ap (found name_cmp u) h.units ∙ sym (get-entries m.units u)

-- a unit is put as the map inserts it
put_entry : (o : OpenedUnit) (os : List OpenedUnit) → map entry (put_row name_cmp (λ o. o.unit) o os) ≡ put name_cmp o.unit o.rows (map entry os)
put_entry o [] = refl
put_entry o (e ∷ es) =
    elim (name_cmp o.unit e.unit) as (λ v. name_cmp o.unit e.unit ≡ v
    → map entry (by_order v (o ∷ e ∷ es) (o ∷ es) (e ∷ put_row name_cmp (λ o. o.unit) o es)) ≡ by_order v (entry o ∷ entry e ∷ map entry es)
    ((e.unit, o.rows) ∷ map entry es) (entry e ∷ put name_cmp o.unit o.rows (map entry es))) [
      | Less ↦ λ p. refl
      | Equal ↦ λ p. ap (λ (k : Name). let pair : Name × UnitRows = (k, o.rows) in pair ∷ map entry es) (same_names _ _ p)
      | Greater ↦ λ p. ap (λ xs. entry e ∷ xs) (put_entry o es)
    ] refl

pub put_listed : (admin u : Name) (rows : UnitRows) (opened : List OpenedUnit) (m : Content) → IsListed admin opened m
    → IsListed admin (put_row name_cmp (λ o. o.unit) record { unit = u; rows = rows } opened) (with_rows m u rows)
put_listed admin u rows opened m h =
    record {
      admin = h.admin;
      units = put_entry record { unit = u; rows = rows } opened ∙ ap (put name_cmp u rows) h.units ∙ sym (entries-insert name_total m.units u rows);
    }

pub none_listed : (admin : Name) (opened : List OpenedUnit) → opened ≡ [] → IsListed admin opened (no_units admin)
none_listed admin opened none =
    record {
      admin = refl;
      units = ap (map entry) none
          ∙ sym (nil_from_length (entries (no_units admin).units) (sym (len-entries (no_units admin).units) ∙ len-empty name_cmp UnitRows));
    }

-- what is said of each code with what is found there, is said of each unit of the list with its rows: each entry is
-- found by a look-up
abbrev AreFound : (Name → Option UnitRows) → List (Name × UnitRows) → Type 0
AreFound g [] = Unit {0}
AreFound g (e ∷ es) = (g e.0 ≡ Some e.1) × AreFound g es

-- a key below the others ties with none of them
apart : (x y : Name) → T (is_lt (name_cmp x y)) → eq_by_cmp name_cmp y x ≡ false
apart x y lt = ap is_eq (turned name_total x y (less (name_cmp x y) lt))

found_past : (x : Name) (r : UnitRows) (es fs : List (Name × UnitRows)) → T (below_all name_cmp x es) → AreFound (λ q. found name_cmp q fs) es
    → AreFound (λ q. found name_cmp q ((x, r) ∷ fs)) es
found_past x r [] fs h a = tt
found_past x r (e ∷ es) fs h a =
    (ap (λ b. cond b (Some r) (found name_cmp e.0 fs)) (apart x e.0 (first _ _ h)) ∙ a.0, found_past x r es fs (second _ _ h) a.1)

are_found : (es : List (Name × UnitRows)) → T (is_sorted name_cmp es) → AreFound (λ q. found name_cmp q es) es
are_found [] h = tt
are_found (e ∷ es) h = (
  ap (λ v. cond (is_eq v) (Some e.1) (found name_cmp e.0 es)) (tied_itself name_total e.0),
  found_past e.0 e.1 es es (first _ _ h)
      (are_found es (second _ _ h)),
)

all_found : {A : Type 0} (f : Name → Option UnitRows → List A) (g : Name → Option UnitRows) (es : List (Name × UnitRows)) → AreFound g es
    → flat_map (λ u. f u (g u)) (map (λ e. e.0) es) ≡ flat_map (λ e. f e.0 (Some e.1)) es
all_found f g [] a = refl
all_found f g (e ∷ es) a = λ i. f e.0 (a.0 i) ++ all_found f g es a.1 i

all_entries : {A : Type 0} (f : Name → Option UnitRows → List A) (opened : List OpenedUnit)
    → flat_map (λ e. f e.0 (Some e.1)) (map entry opened) ≡ flat_map (λ o. f o.unit (Some o.rows)) opened
all_entries f [] = refl
all_entries f (o ∷ os) = ap (λ xs. f o.unit (Some o.rows) ++ xs) (all_entries f os)

pub all_listed : {A : Type 0} (f : Name → Option UnitRows → List A) (admin : Name) (opened : List OpenedUnit) (m : Content) → IsListed admin opened m
    → flat_map (λ o. f o.unit (Some o.rows)) opened ≡ flat_map (λ u. f u (get m.units u)) (keys m.units)
all_listed f admin opened m h =
    let lookup : ◌≡◌ {A = Name → Option UnitRows} (λ q. found name_cmp q (entries m.units)) (get m.units) = λ i q. sym (get-entries m.units q) i in
    sym (all_entries f opened) ∙ ap (flat_map (λ e. f e.0 (Some e.1))) h.units
    ∙ sym (all_found f (get m.units) (entries m.units)
    (subst (λ g. AreFound g (entries m.units)) lookup (are_found (entries m.units) (entries_sorted m.units))))

-- the same for a statement about each code, if there is one
told_by_lists : {A B : Type 0} (f : A → Option B) (xs : List A) → filter_map f xs ≡ flat_map (λ x. option_to_list (f x)) xs
told_by_lists f [] = refl
told_by_lists f (x ∷ xs) =
    elim (f x) as (λ o. cons_option o (filter_map f xs) ≡ option_to_list o
    ++ flat_map (λ x. option_to_list (f x)) xs) [ None ↦ told_by_lists f xs | Some y ↦ ap (λ ys. y ∷ ys) (told_by_lists f xs) ]

pub told_listed : {A : Type 0} (f : Name → Option UnitRows → Option A) (admin : Name) (opened : List OpenedUnit) (m : Content)
    → IsListed admin opened m → filter_map (λ o. f o.unit (Some o.rows)) opened ≡ filter_map (λ u. f u (get m.units u)) (keys m.units)
told_listed f admin opened m h =
    told_by_lists (λ o. f o.unit (Some o.rows)) opened ∙ all_listed (λ u o. option_to_list (f u o)) admin opened m h
    ∙ sym (told_by_lists (λ u. f u (get m.units u)) (keys m.units))

-- the rows of a unit that can be counted, before and after a put
pub found_countable : (u : Name) (opened : List OpenedUnit) (rows : UnitRows) → AreCountable opened → rows_at opened u ≡ Some rows → IsCountable rows
found_countable u [] rows all at = cc
found_countable u (o ∷ os) rows all at =
    elim (eq_by_cmp name_cmp u o.unit) as (λ b. option_map (λ o. o.rows) (cond b (Some o) (row_at name_cmp (λ o. o.unit) u os)) ≡ Some rows
    → IsCountable rows) [
      | true ↦ λ same. let is : o.rows ≡ rows = cc in subst (λ (r : UnitRows). IsCountable r) is all.0
      | false ↦ λ later. found_countable u os rows all.1 later
    ] at

pub put_countable : (o : OpenedUnit) (os : List OpenedUnit) → IsCountable o.rows → AreCountable os → AreCountable (put_row name_cmp (λ o. o.unit) o os)
put_countable o [] one all = (one, tt)
put_countable o (e ∷ es) one all =
    elim (name_cmp o.unit e.unit) as (λ v. AreCountable (by_order v (o ∷ e ∷ es) (o ∷ es) (e ∷ put_row name_cmp (λ o. o.unit) o es))) [
      | Less ↦ (one, all)
      | Equal ↦ (one, all.1)
      | Greater ↦ (all.0, put_countable o es one all.1)
    ]

-- what the keeper answers and leaves, stated about the content
pub part_listed : (admin u v : Name) (opened : List OpenedUnit) (m : Content) (c : Call) → IsListed admin opened m → Some v ≡ unit_named c.request
    → unit_named c.request ≡ Some u → option_map (part_of c) (rows_at opened v) ≡ part_in m c u
part_listed admin u v opened m c h is named =
    let same : v ≡ u = cc in
    ap (option_map (part_of c)) (rows_listed admin v opened m h) ∙ ap (part_in m c) same

pub made_listed : (r : Result (Unit {0}) Fault) (admin u : Name) (opened left : List OpenedUnit) (m : Content) (cs : List RowEdit)
    → IsListed admin opened m
    → OnOk r (left ≡ put_row name_cmp (λ o. o.unit) record { unit = u; rows = changed_by cs (unwrap_or (rows_at opened u) no_rows) } opened)
    → OnOk r (IsListed admin left (after_changes m u cs))
made_listed (Ok x) admin u opened left m cs h is =
    let there = ap (λ o. changed_by cs (unwrap_or o no_rows)) (rows_listed admin u opened m h) in
    subst (λ os. IsListed admin os (after_changes m u cs)) (sym is)
    (subst (λ (rows : UnitRows). IsListed admin (put_row name_cmp (λ o. o.unit) record {
      unit = u;
      rows = rows;
    } opened) (after_changes m u cs)) (sym there)
    (put_listed admin u (changed_by cs (rows_in m u)) opened m h))
made_listed (Err e) admin u opened left m cs h is = tt
