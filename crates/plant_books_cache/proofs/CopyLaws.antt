-- Copies of rows: what is found among them, and how they stay true.
use Rattle.std.specs.{Cmp.{eq_by_cmp_equiv}, FinMap.{get, get-insert}, List.{AllByRecursion, IsDistinct}}
use Rattle.std.specs.{Map.{keys_of, lookup, lookup_entry, remove_entry}, Option.{option_map_or}}
use Rattle.std.proofs.Common.{Bool, Err, IfOk, IfSome, List, None, Ok, Result, Some, [], ap, arith, cond, false, map, not, refl, subst, suc, sym, take, true, zero, ℕ, ◌+◌, ◌-◌, ◌≤◌, ◌∙◌, ◌∷◌, ◌≡◌, Option, is_some, length, option_map, slice_get, unwrap_or, ◌&&◌}
use Rattle.lru.specs.LruCache.{LruCache, last_entry, promoted, put_entries}
use Rattle.plant_books.specs.{Changing.{puts_event}, Contents.{Content, after_changes, mine_row, rows_in, shelves_there, without_events, without_history, without_reviews}}
use Rattle.plant_books.proofs.public.HistoryLaws.{changed_unreviewed, changed_without, part_unreviewed, part_without}
use Rattle.plant_model.specs.steps.{Parts.{part_of, part_of_holder, part_of_stranger}, RowChanges.{changed_by, no_rows}, RowFacts.{holds_by}, Scopes.{looks_at_events, looks_at_reviews}}
use Rattle.plant_model.{specs.declared.{call.Call.{Call}, rows.{RowEdit.{RowEdit}, UnitPart.{UnitPart}, UnitRows.{UnitRows}}}, proofs.public.WorldLaws.{same_of}}
use Rattle.plant_books_cache.specs.{Cache.{AreCopies, Copy, IsCopy, There, row_count, rows_of_all, seen}, declared.cached_unit.CachedUnit.{CachedUnit}}
use Rattle.plant_types.{specs.{Names.{Name, same_name}, declared.fault.Fault.{Fault}}, proofs.public.Orders.{name_total}}

-- ---- what is found exists

pub found_there : (u : Name) (there : There) (es : List Copy) (copy : CachedUnit) → AreCopies there es → lookup (same_name u) es ≡ Some copy
    → IsCopy there (u, copy)
found_there u there [] copy h e = absurd (cc e)
found_there u there (c ∷ es) copy h e =
    elim (same_name u c.0) as (λ b. same_name u c.0 ≡ b → cond b (Some c.1) (lookup (same_name u) es) ≡ Some copy → IsCopy there (u, copy)) [
      | true ↦ λ p q. let same : c.1 ≡ copy = cc q in subst (λ (x : Copy). IsCopy there x) (λ i. (sym (same_of u c.0 p) i, same i)) h.0
      | false ↦ λ p q. found_there u there es copy h.1 q
    ] refl e

entry_there : (u : Name) (there : There) (es : List Copy) (c : Copy) → AreCopies there es → lookup_entry (same_name u) es ≡ Some c
    → IsCopy there c × (same_name u c.0 ≡ true)
entry_there u there [] c h e = absurd (cc e)
entry_there u there (d ∷ es) c h e =
    elim (same_name u d.0) as (λ b. same_name u d.0 ≡ b → cond b (Some d) (lookup_entry (same_name u) es) ≡ Some c
    → IsCopy there c × (same_name u c.0 ≡ true)) [
      | true ↦ λ p q. let same : d ≡ c = cc q in (subst (IsCopy there) same h.0, subst (λ (x : Copy). same_name u x.0 ≡ true) same p)
      | false ↦ λ p q. entry_there u there es c h.1 q
    ] refl e

-- a copy that was taken out is one of its unit
pub taken_there : (u : Name) (there : There) (es : List Copy) (c : Copy) → AreCopies there es → Some c ≡ lookup_entry (same_name u) es
    → (u ≡ c.0) × IsCopy there (u, c.1)
taken_there u there es c h e =
    let it = entry_there u there es c h (sym e) in
    let same : u ≡ c.0 = same_of u c.0 it.1 in
    (same, subst (λ (v : Name). IsCopy there (v, c.1)) (sym same) it.0)

-- ---- a part of true copies is true

pub true_removed : (u : Name) (there : There) (es : List Copy) → AreCopies there es → AreCopies there (remove_entry (same_name u) es)
true_removed u there [] h = tt
true_removed u there (c ∷ es) h =
    elim (same_name u c.0) as (λ b. AreCopies there (cond b es (c ∷ remove_entry (same_name u) es))) [
      | true ↦ h.1
      | false ↦ (h.0, true_removed u there es h.1)
    ]

pub true_taken : (n : ℕ) (there : There) (es : List Copy) → AreCopies there es → AreCopies there (take n es)
true_taken zero there es h = tt
true_taken (suc n) there [] h = tt
true_taken (suc n) there (c ∷ es) h = (h.0, true_taken n there es h.1)

pub true_promoted : (u : Name) (there : There) (es : List Copy) → AreCopies there es → AreCopies there (promoted (same_name u) es)
true_promoted u there es h = by (lookup_entry (same_name u) es) refl
  where
    by : (o : Option Copy) → lookup_entry (same_name u) es ≡ o → AreCopies there (option_map_or (λ c. c ∷ remove_entry (same_name u) es) o es)
    by None e = h
    by (Some c) e = ((entry_there u there es c h e).0, true_removed u there es h)

pub true_put : (there : There) (c : LruCache Name CachedUnit) (u : Name) (copy : CachedUnit) → AreCopies there c.entries → IsCopy there (u, copy)
    → AreCopies there (put_entries same_name c u copy)
true_put there c u copy h is = by (lookup_entry (same_name u) c.entries) refl
  where
    by : (o : Option Copy) → lookup_entry (same_name u) c.entries ≡ o
        → AreCopies there (option_map_or (λ (e : Copy). (e.0, copy) ∷ remove_entry (same_name u) c.entries) o ((u, copy)
        ∷ take (c.cap - 1) c.entries))
    by None e = (is, true_taken (c.cap - 1) there c.entries h)
    by (Some d) e =
        (subst (λ (v : Name). IsCopy there (v, copy)) (same_of u d.0 (entry_there u there c.entries d h e).1) is, true_removed u there c.entries h)

-- ---- without a unit's copy the others stay true where its rows change

still_true : (there after : There) (c : Copy) → after c.0 ≡ there c.0 → IsCopy there c → IsCopy after c
still_true there after c same h = ap (option_map (seen c.1.has_events)) same ∙ h

others_true : (u v : Name) (there after : There) (es : List Copy) → u ≡ v → AllByRecursion (λ w. same_name v w ≡ false) (keys_of es)
    → ((w : Name) → same_name u w ≡ false → after w ≡ there w) → AreCopies there es → AreCopies after es
others_true u v there after [] e apart same h = tt
others_true u v there after (c ∷ es) e apart same h =
    (still_true there after c (same c.0 (ap (λ x. same_name x c.0) e ∙ apart.0)) h.0, others_true u v there after es e apart.1 same h.1)

pub true_without : (u : Name) (there after : There) (es : List Copy) → IsDistinct same_name (keys_of es)
    → ((w : Name) → same_name u w ≡ false → after w ≡ there w) → AreCopies there es → AreCopies after (remove_entry (same_name u) es)
unfolding IsDistinct
true_without u there after [] apart same h = tt
true_without u there after (c ∷ es) apart same h =
    elim (same_name u c.0) as (λ b. same_name u c.0 ≡ b → AreCopies after (cond b es (c ∷ remove_entry (same_name u) es))) [
      | true ↦ λ p. others_true u c.0 there after es (same_of u c.0 p) apart.0 same h.1
      | false ↦ λ p. (still_true there after c (same c.0 p) h.0, true_without u there after es apart.1 same h.1)
    ] refl

-- ---- how many rows there are

pub count_removed : (u : Name) (es : List Copy) (c : Copy) → lookup_entry (same_name u) es ≡ Some c
    → rows_of_all es ≡ row_count c.1.rows + rows_of_all (remove_entry (same_name u) es)
count_removed u [] c e = absurd (cc e)
count_removed u (d ∷ es) c e =
    let here : ◌≡◌ {A = Option Copy} (Some d) (Some c)
    → row_count d.1.rows ≡ row_count c.1.rows = λ q. let same : d ≡ c = cc q in ap (λ (x : Copy). row_count x.1.rows) same in
    grind (arith, here, count_removed u es c)

pub count_promoted : (u : Name) (es : List Copy) → rows_of_all (promoted (same_name u) es) ≡ rows_of_all es
count_promoted u es = grind (arith, count_removed u es)

pub count_taken : (n : ℕ) (es : List Copy) → rows_of_all (take n es) ≤ rows_of_all es
count_taken zero es = omega arith
count_taken (suc n) [] = omega arith
count_taken (suc n) (c ∷ es) = let rest = count_taken n es in omega (arith, rest)

at_last : (n : ℕ) (es : List Copy) (c : Copy) → length es ≡ suc n → Some c ≡ slice_get es n
    → rows_of_all es ≡ rows_of_all (take n es) + row_count c.1.rows
at_last n [] c l e = absurd (omega (arith, l))
at_last zero (d ∷ []) c l e = let same : c ≡ d = cc e in let many = ap (λ (x : Copy). row_count x.1.rows) same in omega (arith, many)
at_last zero (d ∷ f ∷ es) c l e = absurd (omega (arith, l))
at_last (suc n) (d ∷ es) c l e = let rest = at_last n es c (omega (arith, l)) e in omega (arith, rest)

pub count_last : (es : List Copy) (c : Copy) → Some c ≡ last_entry es → rows_of_all es ≡ rows_of_all (take (length es - 1) es) + row_count c.1.rows
count_last [] c e = absurd (cc e)
count_last (d ∷ es) c e =
    let one : length (d ∷ es) - 1 ≡ length es = omega arith in
    subst (λ n. rows_of_all (d ∷ es) ≡ rows_of_all (take n (d ∷ es)) + row_count c.1.rows) (sym one)
    (at_last (length es) (d ∷ es) c refl (subst (λ n. ◌≡◌ {A = Option Copy} (Some c) (slice_get (d ∷ es) n)) one e))

pub count_rest : (u : Name) (es : List Copy) → rows_of_all (remove_entry (same_name u) es) ≤ rows_of_all es
count_rest u [] = omega arith
count_rest u (d ∷ es) = grind (arith, count_rest u es)

pub count_put : (c : LruCache Name CachedUnit) (u : Name) (copy : CachedUnit)
    → rows_of_all (put_entries same_name c u copy) ≤ row_count copy.rows + rows_of_all c.entries
count_put c u copy = by (lookup_entry (same_name u) c.entries) refl
  where
    by : (o : Option Copy) → lookup_entry (same_name u) c.entries ≡ o
        → rows_of_all (option_map_or (λ (e : Copy). (e.0, copy) ∷ remove_entry (same_name u) c.entries) o ((u, copy)
        ∷ take (c.cap - 1) c.entries)) ≤ row_count copy.rows + rows_of_all c.entries
    by None e = let rest = count_taken (c.cap - 1) c.entries in omega (arith, rest)
    by (Some d) e = let rest = count_removed u c.entries d e in omega (arith, rest)

-- ---- the cached rows among a unit's rows

pub is_there : (b : Bool) (o : Option UnitRows) (rows : UnitRows) → option_map (seen b) o ≡ Some rows → true ≡ is_some o
is_there b o rows e = grind arith

-- the events, if they are cached
pub events_there : (b : Bool) (o : Option UnitRows) (rows : UnitRows) → b ≡ true → option_map (seen b) o ≡ Some rows
    → rows.events ≡ (unwrap_or o no_rows).events
events_there b None rows whole e = absurd (cc e)
events_there true (Some r) rows whole e = let same : without_reviews r ≡ rows = cc e in ap (λ (x : UnitRows). x.events) (sym same)
events_there false (Some r) rows whole e = absurd (let wrong : false ≡ true = whole in cc)

seen_but_history : (b : Bool) (rows : UnitRows) → without_history (seen b rows) ≡ without_history rows
seen_but_history true rows = refl
seen_but_history false rows = refl

pub all_but_history : (b : Bool) (o : Option UnitRows) (rows : UnitRows) → option_map (seen b) o ≡ Some rows
    → Some (without_history rows) ≡ option_map without_history o
all_but_history b None rows e = absurd (cc e)
all_but_history b (Some r) rows e =
    let same : seen b r ≡ rows = cc e in
    ap (λ (x : UnitRows). Some (without_history x)) (sym same) ∙ ap (λ x. Some x) (seen_but_history b r)

events_again : (b : Bool) (rows : UnitRows) → seen true rows ≡ record (seen b rows) { events = rows.events }
events_again true rows = refl
events_again false rows = refl

pub seen_with_events : (b : Bool) (o : Option UnitRows) (rows : UnitRows) → option_map (seen b) o ≡ Some rows
    → option_map (seen true) o ≡ Some (record rows { events = (unwrap_or o no_rows).events })
seen_with_events b None rows e = absurd (cc e)
seen_with_events b (Some r) rows e =
    let same : seen b r ≡ rows = cc e in
    ap (λ x. Some x) (events_again b r) ∙ ap (λ (x : UnitRows). Some (record x { events = r.events })) same

pub shelves_seen : (u : Name) (b : Bool) (o : Option UnitRows) (rows : UnitRows) → option_map (seen b) o ≡ Some rows
    → shelves_there u o ≡ map (mine_row u rows) rows.shelves
shelves_seen u b None rows e = absurd (cc e)
shelves_seen u true (Some r) rows e = let same : without_reviews r ≡ rows = cc e in ap (λ (x : UnitRows). map (mine_row u x) x.shelves) same
shelves_seen u false (Some r) rows e = let same : without_history r ≡ rows = cc e in ap (λ (x : UnitRows). map (mine_row u x) x.shelves) same

-- the part of a call, where it is that of the rows which there are
pub part_there : (c : Call) (b : Bool) (o : Option UnitRows) (rows : UnitRows) → option_map (seen b) o ≡ Some rows
    → ((r : UnitRows) → seen b r ≡ rows → part_of c rows ≡ part_of c r) → Some (part_of c rows) ≡ option_map (part_of c) o
part_there c b None rows e h = absurd (cc e)
part_there c b (Some r) rows e h = let same : seen b r ≡ rows = cc e in ap (λ x. Some x) (h r same)

-- a part that was made from cached rows is that of the unit
pub made_there : (said : Result UnitPart Fault) (made : Result (Option UnitPart) Fault) (part : UnitPart) (there : Option UnitPart)
    → IfOk made (λ o. IfSome o (λ x. said ≡ Ok x)) → IfOk said (λ y. y ≡ part) → Some part ≡ there → IfOk made (λ o. IfSome o (λ x. Some x ≡ there))
made_there said (Ok (Some x)) part there is gives at = let given : x ≡ part =
    subst (λ (r : Result UnitPart Fault). IfOk r (λ y. y ≡ part)) is gives in ap (λ y. Some y) given ∙ at
made_there said (Ok None) part there is gives at = tt
made_there said (Err e) part there is gives at = tt

seen_part : (c : Call) (b : Bool) (rows : UnitRows) → looks_at_reviews c.request ≡ false → looks_at_events c.request ≡ false
    → part_of c (seen b rows) ≡ part_of c rows
seen_part c true rows unreviewed none = part_unreviewed c rows unreviewed
seen_part c false rows unreviewed none = part_without c (without_reviews rows) none ∙ part_unreviewed c rows unreviewed

-- the part of a call that looks at no events
pub part_seen : (c : Call) (b : Bool) (kept rows : UnitRows) → seen b rows ≡ kept → looks_at_reviews c.request ≡ false
    → looks_at_events c.request ≡ false → part_of c kept ≡ part_of c rows
part_seen c b kept rows e unreviewed none = ap (part_of c) (sym e) ∙ seen_part c b rows unreviewed none

-- for a call that may look at events, if they are cached
pub part_with_events : (c : Call) (b : Bool) (kept rows : UnitRows) → seen b rows ≡ kept → looks_at_reviews c.request ≡ false
    → b ≡ true → part_of c kept ≡ part_of c rows
part_with_events c true kept rows e unreviewed whole = ap (part_of c) (sym e) ∙ part_unreviewed c rows unreviewed
part_with_events c false kept rows e unreviewed whole = absurd (let wrong : false ≡ true = whole in cc)

seen_by_stranger : (c : Call) (b : Bool) (rows : UnitRows) → holds_by rows.grants c.moment c.person ≡ false
    → part_of c (seen b rows) ≡ part_of c rows
seen_by_stranger c true rows gone = ap (λ h. cond h (part_of_holder c (without_reviews rows)) (part_of_stranger c rows)) gone
    ∙ ap (λ h. cond h (part_of_holder c rows) (part_of_stranger c rows)) (sym gone)
seen_by_stranger c false rows gone = ap (λ h. cond h (part_of_holder c (without_history rows)) (part_of_stranger c rows)) gone
    ∙ ap (λ h. cond h (part_of_holder c rows) (part_of_stranger c rows)) (sym gone)

same_grants : (b : Bool) (rows : UnitRows) → (seen b rows).grants ≡ rows.grants
same_grants true rows = refl
same_grants false rows = refl

-- of a caller who holds no role
pub part_of_none : (c : Call) (b : Bool) (kept rows : UnitRows) → seen b rows ≡ kept
    → holds_by kept.grants c.moment c.person ≡ false → part_of c kept ≡ part_of c rows
part_of_none c b kept rows e gone =
    let grants : kept.grants ≡ rows.grants = ap (λ (x : UnitRows). x.grants) (sym e) ∙ same_grants b rows in
    ap (part_of c) (sym e)
    ∙ seen_by_stranger c b rows (ap (λ gs. holds_by gs c.moment c.person) (sym grants) ∙ gone)

-- ---- what changes of a unit leave of the others, and what they make of the unit

pub others_stay : (m : Content) (u : Name) (cs : List RowEdit) (v : Name) → same_name u v ≡ false → get (after_changes m u cs).units v ≡ get m.units v
others_stay m u cs v e = grind (arith, get-insert name_total m.units u (changed_by cs (rows_in m u)) v, (eq_by_cmp_equiv name_total).symm v u)

pub unit_after : (m : Content) (u : Name) (cs : List RowEdit) → get (after_changes m u cs).units u ≡ Some (changed_by cs (rows_in m u))
unit_after m u cs = grind (arith, get-insert name_total m.units u (changed_by cs (rows_in m u)) u, (eq_by_cmp_equiv name_total).refl u)

seen_changed : (b : Bool) (cs : List RowEdit) (rows : UnitRows) → (not b && puts_event cs) ≡ false
    → seen b (changed_by cs rows) ≡ without_reviews (changed_by cs (seen b rows))
seen_changed true cs rows none = sym (changed_unreviewed cs rows)
seen_changed false cs rows none =
    ap without_events (sym (changed_unreviewed cs rows)) ∙ ap without_reviews (sym (changed_without cs (without_reviews rows) none))

seen_rows : (b : Bool) (o : Option UnitRows) (rows : UnitRows) → option_map (seen b) o ≡ Some rows → seen b (unwrap_or o no_rows) ≡ rows
seen_rows b o rows e = grind arith

-- a copy after changes is one of the unit after them
pub changed_there : (m : Content) (u : Name) (cs : List RowEdit) (copy after : CachedUnit) → IsCopy (get m.units) (u, copy)
    → after.has_events ≡ copy.has_events → after.rows ≡ without_reviews (changed_by cs copy.rows) → (not copy.has_events && puts_event cs) ≡ false
    → IsCopy (get (after_changes m u cs).units) (u, after)
changed_there m u cs copy after h flag is none =
    let b = copy.has_events in
    let there = ap (option_map (seen b)) (unit_after m u cs) in
    let rows = seen_changed b cs (rows_in m u) none
    ∙ ap (λ r. without_reviews (changed_by cs r)) (seen_rows b (get m.units u) copy.rows h) ∙ sym is in
    ap (λ d. option_map (seen d) (get (after_changes m u cs).units u)) flag ∙ there ∙ ap (λ x. Some x) rows
