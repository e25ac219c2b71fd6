-- Alarms and shelves in the order of their tags: the alarms that have a shelf, one shelf after another.
use Rattle.std.specs.Ordering.{ordering_reverse}
use Rattle.std.proofs.Common.{ap, append_assoc, cond, drop, get_or, refl, subst, sym, ◌∙◌, option_to_list, is_eq, Bool, List, Option, Some, [], false, length, suc, zero, ℕ, ◌+◌, ◌++◌, ◌<◌, ◌||◌, ◌∷◌, ◌≡◌, ◌≤◌, Ordering, Equal, Greater, Less}
use Rattle.std.proofs.{Math.ListN.{drop_of_length-le}, lemmas.List.{append-nil, drop_more}}
use Rattle.plant_books.specs.Found.{shelved}
use Rattle.plant_model.specs.declared.rows.{AlarmRow.{AlarmRow}, ShelfRow.{ShelfRow}}
use Rattle.plant_model.specs.steps.{Parts.{has_shelf}, RowFacts.{alarm_tag, shelf_tag}}
use Rattle.plant_types.{specs.{KeyedRows.{IsInOrder, row_at}, Names.{Name, name_cmp}}, proofs.public.Orders.{name_total, same_names}}
use Rattle.plant_types.proofs.public.SortedLaws.{After, Ordered, after_more, back, none_after, ordered, turned}

-- no shelf is of a tag that comes before all of theirs
none_has : (a : Name) (shelves : List ShelfRow) → After name_cmp shelf_tag a shelves → has_shelf shelves a ≡ false
none_has a [] h = refl
none_has a (s ∷ shelves) h = ap (λ o. is_eq o || has_shelf shelves a) h.0 ∙ none_has a shelves h.1

-- alarms that all come after a shelf are not its own
not_its : (s : ShelfRow) (shelves : List ShelfRow) (alarms : List AlarmRow) → After name_cmp alarm_tag s.tag alarms
    → shelved (s ∷ shelves) alarms ≡ shelved shelves alarms
not_its s shelves [] h = refl
not_its s shelves (r ∷ alarms) h =
    ap (λ o. cond (is_eq o || has_shelf shelves r.tag) (r ∷ shelved (s ∷ shelves) alarms) (shelved (s ∷ shelves) alarms))
    (turned name_total s.tag r.tag h.0)
    ∙ ap (λ rest. cond (has_shelf shelves r.tag) (r ∷ rest) rest) (not_its s shelves alarms h.1)

-- how the first alarm is found and taken, by how its tag compares with the first shelf's and whether another shelf is its own
abbrev found : ShelfRow → List ShelfRow → AlarmRow → List AlarmRow → Ordering → Bool → List AlarmRow
found s shelves r alarms o has =
    option_to_list (cond (is_eq o) (Some r) (row_at name_cmp alarm_tag s.tag alarms)) ++ cond has (r ∷ shelved shelves alarms)
    (shelved shelves alarms)

abbrev chosen : ShelfRow → List ShelfRow → AlarmRow → List AlarmRow → Ordering → Bool → List AlarmRow
chosen s shelves r alarms o has = cond (is_eq o || has) (r ∷ shelved (s ∷ shelves) alarms) (shelved (s ∷ shelves) alarms)

-- the alarm of the first shelf comes before those of the others
pub first_shelved : (s : ShelfRow) (shelves : List ShelfRow) (alarms : List AlarmRow) → After name_cmp shelf_tag s.tag shelves
    → Ordered name_cmp alarm_tag alarms
    → option_to_list (row_at name_cmp alarm_tag s.tag alarms) ++ shelved shelves alarms ≡ shelved (s ∷ shelves) alarms
first_shelved s shelves [] later order = refl
first_shelved s shelves (r ∷ alarms) later order = by (first_shelved s shelves alarms later order.1) (name_cmp s.tag r.tag) refl where
  by : option_to_list (row_at name_cmp alarm_tag s.tag alarms) ++ shelved shelves alarms ≡ shelved (s ∷ shelves) alarms
      → (o : Ordering) → name_cmp s.tag r.tag ≡ o
      → option_to_list (row_at name_cmp alarm_tag s.tag (r ∷ alarms)) ++ shelved shelves (r ∷ alarms) ≡ shelved (s ∷ shelves) (r ∷ alarms)
  by rest Less e =
      let after : After name_cmp alarm_tag s.tag (r ∷ alarms) = (e, after_more name_cmp alarm_tag name_total s.tag r.tag alarms e order.0) in
      ap (λ o. option_to_list o ++ shelved shelves (r ∷ alarms)) (none_after name_cmp alarm_tag s.tag (r ∷ alarms) after)
      ∙ sym (not_its s shelves (r ∷ alarms) after)
  by rest Equal e =
      let same : s.tag ≡ r.tag = same_names s.tag r.tag e in
      let none : has_shelf shelves r.tag ≡ false = none_has r.tag shelves (subst (λ a. After name_cmp shelf_tag a shelves) same later) in
      (λ i. found s shelves r alarms (e i) (none i))
      ∙ ap (λ more. r ∷ more) (sym (not_its s shelves alarms (subst (λ a. After name_cmp alarm_tag a alarms) (sym same) order.0)))
      ∙ sym (ap (λ o. chosen s shelves r alarms o (has_shelf shelves r.tag)) (name_total.antisymm r.tag s.tag ∙ ap ordering_reverse e))
  by rest Greater e =
      let none : has_shelf shelves r.tag ≡ false =
      none_has r.tag shelves (after_more name_cmp shelf_tag name_total r.tag s.tag shelves (back name_total s.tag r.tag e) later) in
      (λ i. found s shelves r alarms (e i) (none i))
      ∙ rest
      ∙ sym (λ i. chosen s shelves r alarms (back name_total s.tag r.tag e i) (none i))

-- ---- one shelf after another
dropped : (k : ℕ) (shelves : List ShelfRow) → Ordered name_cmp shelf_tag shelves → Ordered name_cmp shelf_tag (drop k shelves)
dropped zero shelves h = h
dropped (suc k) [] h = tt
dropped (suc k) (s ∷ shelves) h = dropped k shelves h.1

pub next_shelved : (shelves : List ShelfRow) (alarms : List AlarmRow) (i : ℕ) (s : ShelfRow) (o : Option AlarmRow) (so_far : List AlarmRow)
    → IsInOrder name_cmp alarm_tag alarms → IsInOrder name_cmp shelf_tag shelves → i < length shelves → s ≡ get_or shelves i s
    → o ≡ row_at name_cmp alarm_tag s.tag alarms → so_far ++ shelved (drop i shelves) alarms ≡ shelved shelves alarms
    → (so_far ++ option_to_list o) ++ shelved (drop (i + 1) shelves) alarms ≡ shelved shelves alarms
next_shelved shelves alarms i s o so_far alarms_rise shelves_rise within is there so =
    let here : drop i shelves ≡ s ∷ drop (i + 1) shelves = drop_more shelves i s within ∙ ap (λ x. x ∷ drop (i + 1) shelves) (sym is) in
    let rest : Ordered name_cmp shelf_tag (s ∷ drop (i + 1) shelves) =
    subst (λ (l : List ShelfRow). Ordered name_cmp shelf_tag l) here (dropped i shelves (ordered name_cmp shelf_tag shelves shelves_rise)) in
    append_assoc so_far (option_to_list o) (shelved (drop (i + 1) shelves) alarms)
    ∙ ap (λ x. so_far ++ (option_to_list x ++ shelved (drop (i + 1) shelves) alarms)) there
    ∙ ap (λ l. so_far ++ l) (first_shelved s (drop (i + 1) shelves) alarms rest.0 (ordered name_cmp alarm_tag alarms alarms_rise))
    ∙ ap (λ l. so_far ++ shelved l alarms) (sym here)
    ∙ so

none_shelved : (alarms : List AlarmRow) → shelved [] alarms ≡ []
none_shelved [] = refl
none_shelved (r ∷ alarms) = none_shelved alarms

pub all_shelved : (shelves : List ShelfRow) (alarms : List AlarmRow) (i : ℕ) (so_far : List AlarmRow) → length shelves ≤ i
    → so_far ++ shelved (drop i shelves) alarms ≡ shelved shelves alarms → so_far ≡ shelved shelves alarms
all_shelved shelves alarms i so_far past so =
    sym (append-nil so_far) ∙ ap (λ l. so_far ++ l) (sym (ap (λ l. shelved l alarms) (drop_of_length-le shelves past) ∙ none_shelved alarms)) ∙ so
