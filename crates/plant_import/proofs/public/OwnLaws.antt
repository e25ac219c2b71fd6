-- The events of an alarm after a file are the same, whether its new rows are added to all kept events or to those that it needs.
use Rattle.std.specs.{Cmp.{eq_by_cmp_equiv, Lexicographic.{nat_list_cmp_total}, nat_cmp_total, unsigned_tied}, List.{list_any}}
use Rattle.std.proofs.lemmas.{Bool.{eq-eqb, false≢true, or_parts, Decides.{nat_tests}}, List.Elements.{recursion_from_All}, Map.Views.{All-from_any}}
use Rattle.std.proofs.Common.{ap, arith, refl, sym, ◌∙◌, nat_cmp, Bool, List, None, [], false, filter, if◌then◌else◌, true, ℕ, ◌++◌, ◌<◌, ◌∷◌, ◌≡◌, ◌||◌}
use Rattle.plant_alarm.specs.{States.{passing}, declared.event.Event.{Event}}
use Rattle.plant_import.specs.{Merging.{IsRising, first_fault, fresh, is_new, same_event}, Needed.{beside, has_late, is_around, is_beside, names, needed, from_last_before}}
use Rattle.plant_import.{specs.Numbers.{event_number, has_number, with_events}, proofs.ByNumber.{any_put}}
use Rattle.plant_import.proofs.public.{AroundLaws.{each_kept, order_kept}, Counted.{any_fresh, order_puts, put_twice}, FileLaws.{same_events}}
use Rattle.plant_import.proofs.public.EachLaws.{Each, any_none, each_not, each_weaker}
use Rattle.plant_import.proofs.public.{LaterLaws.{each_puts}, Nearest.{same_any}, Placed.{AllAbove, Rises, other, put_behind, rises_of}, Risings.{in_number_order}}
use Rattle.plant_types.specs.{KeyedRows.{IsInOrder, put_row}, Names.{Name, name_cmp, same_name}}
use Rattle.plant_types.proofs.public.{KeyedRowLaws.{IsInOrder-put_row, tied}, Orders.{same_names, same_numbers}}

abbrev pub put_in : Event → List Event → List Event
put_in = put_row nat_cmp event_number

-- no event has the number of this one
abbrev IsNew : List Event → Event → Type 0
IsNew es r = list_any (has_number r.seq) es ≡ false

pub put_low : (r : Event) (es : List Event) → AllAbove event_number r.seq es → put_in r es ≡ r ∷ es
put_low r [] h = refl
put_low r (e ∷ es) h = grind (arith, nat_tests, h.0)

-- an event of a new number is put among those that pass a test as it is among all
put_kept : (p : Event → Bool) (r : Event) (es : List Event) → Rises event_number es → IsNew es r
    → filter p (put_in r es) ≡ (if p r then put_in r (filter p es) else filter p es)
put_kept p r [] rises new = refl
put_kept p r (e ∷ es) rises new =
    let numbers = or_parts (has_number r.seq e) (list_any (has_number r.seq) es) new in
    let rest = put_kept p r es rises.1 numbers.1 in
    let above : r.seq < e.seq → AllAbove event_number r.seq (e ∷ es) =
    λ lt. (lt, each_weaker (λ y. e.seq < y.seq) (λ y. r.seq < y.seq) (λ y more. omega (arith, lt, more)) es rises.0) in
    let low : r.seq < e.seq → put_in r (filter p (e ∷ es)) ≡ r ∷ filter p (e ∷ es) =
    λ lt. put_low r (filter p (e ∷ es)) (each_kept (λ y. r.seq < y.seq) p (e ∷ es) (above lt)) in
    let high : e.seq < r.seq → put_in r (e ∷ filter p es) ≡ e ∷ put_in r (filter p es) = λ lt. put_behind event_number r e (filter p es) lt in
    grind (arith, nat_tests, numbers.0, rest, low, high)

new_put : (r s : Event) (es : List Event) → IsNew es r → r.seq < s.seq → IsNew es s → IsNew (put_in r es) s
new_put r s es new lt later = grind (arith, any_put (has_number s.seq) r es new, other s.seq r.seq lt, later)

all_new_put : (r : Event) (rs es : List Event) → IsNew es r → AllAbove event_number r.seq rs → Each (IsNew es) rs → Each (IsNew (put_in r es)) rs
all_new_put r [] es new above h = tt
all_new_put r (s ∷ rs) es new above h = (new_put r s es new above.0 h.0, all_new_put r rs es new above.1 h.1)

kept_with : (p : Event → Bool) (rs es : List Event) → IsInOrder nat_cmp event_number es → Rises event_number rs → Each (IsNew es) rs
    → filter p (with_events es rs) ≡ with_events (filter p es) (filter p rs)
kept_with p [] es order rises h = refl
kept_with p (r ∷ rs) es order rises h =
    kept_with p rs (put_in r es) (IsInOrder-put_row nat_cmp event_number nat_cmp_total same_numbers r es order) rises.1
    (all_new_put r rs es h.0 rises.0 h.1)
    ∙ ap (λ l. with_events l (filter p rs)) (put_kept p r es (rises_of event_number es order) h.0)
    ∙ elim (p r) as (λ b. with_events (if b then put_in r (filter p es) else filter p es) (filter p rs)
    ≡ with_events (filter p es) (if b then r ∷ filter p rs else filter p rs)) [ true ↦ refl | false ↦ refl ]

-- events that pass one test pass another
kept_twice : (p q : Event → Bool) (es : List Event) → ((k : Event) → p k ≡ true → q k ≡ true) → filter p (filter q es) ≡ filter p es
kept_twice p q [] so = refl
kept_twice p q (e ∷ es) so = grind (arith, so e, kept_twice p q es so)

new_kept : (q : Event → Bool) (es rs : List Event) → Each (IsNew es) rs → Each (IsNew (filter q es)) rs
new_kept q es =
    each_weaker (IsNew es) (IsNew (filter q es))
    (λ r new. any_none (has_number r.seq) (filter q es) (each_kept (λ k. has_number r.seq k ≡ false) q es (each_not (has_number r.seq) es new)))

same_with : (p q : Event → Bool) (rs es : List Event) → ((k : Event) → p k ≡ true → q k ≡ true) → IsInOrder nat_cmp event_number es
    → Rises event_number rs → Each (IsNew es) rs → filter p (with_events (filter q es) rs) ≡ filter p (with_events es rs)
same_with p q rs es so order rises new =
    kept_with p rs (filter q es) (order_kept q es order) rises (new_kept q es rs new)
    ∙ ap (λ l. with_events l (filter p rs)) (kept_twice p q es so)
    ∙ sym (kept_with p rs es order rises new)

-- the new rows of a file without fault have new numbers, and are rows of the file
all_new : (tags : List Name) (now line : ℕ) (kept rows : List Event) → first_fault tags now line kept rows ≡ None → Each (IsNew kept) (fresh kept rows)
all_new tags now line kept rows none =
    recursion_from_All (IsNew kept) (fresh kept rows) (All-from_any same_events (IsNew kept) (fresh kept rows) (λ q there.
    let new = same_any (has_number q.seq) q (fresh kept rows) there (unsigned_tied q.seq q.seq ∙ eq-eqb q.seq q.seq refl) in
    grind (arith, any_fresh tags now line kept rows none q.seq, new)))

any_passed : (p : Event → Bool) (test : List Event → Event → Bool) (before es : List Event) → list_any p (passing test before es) ≡ true
    → list_any p es ≡ true
any_passed p test before [] h = h
any_passed p test before (e ∷ es) h =
    let rest = any_passed p test (before ++ e ∷ []) es in
    elim (test before e) as (λ b. list_any p ((if b then e ∷ [] else []) ++ passing test (before ++ e ∷ []) es) ≡ true → list_any p (e ∷ es) ≡ true) [
      | true ↦ λ t. grind (arith, t, rest)
      | false ↦ λ t. grind (arith, rest t)
    ] h

named : (a : Name) (kept rows : List Event) → list_any (λ e. same_name a e.tag) (fresh kept rows) ≡ true → (k : Event) → same_name a k.tag ≡ true
    → is_beside kept rows k ≡ true
named a kept rows there k t =
    let same : a ≡ k.tag = same_names a k.tag (tied (name_cmp a k.tag) true t refl) in
    let one : list_any (λ e. same_name a e.tag) rows ≡ true = any_passed (λ e. same_name a e.tag) is_new kept rows there in
    ap (λ b. b || is_around kept rows k.seq)
    ((λ i. list_any (λ e. ((eq_by_cmp_equiv nat_list_cmp_total).symm e.tag k.tag ∙ ap (λ x. same_name x e.tag) (sym same)) i) rows) ∙ one)

pub own_needed : (a : Name) (kept rows : List Event) (tags : List Name) (now : ℕ) → IsRising kept → first_fault tags now 2 kept rows ≡ None
    → has_late kept rows ≡ true → list_any (λ e. same_name a e.tag) (fresh kept rows) ≡ true
    → filter (λ e. same_name a e.tag) (with_events (needed kept rows) (fresh kept rows)) ≡ filter (λ e. same_name a e.tag) (with_events kept
    (fresh kept rows))
own_needed a kept rows tags now rising none late there =
    let own : List Event → List Event = filter (λ e. same_name a e.tag) in
    let new : List Event = fresh kept rows in
    let order = in_number_order kept rising in
    ap (λ b. own (with_events (if b then beside kept rows else from_last_before kept rows) new)) late
    ∙ ap own (sym (put_twice (beside kept rows) new (order_kept (is_beside kept rows) kept order)))
    ∙ same_with (λ e. same_name a e.tag) (is_beside kept rows) (with_events [] new) kept (named a kept rows there) order
    (rises_of event_number (with_events [] new) (order_puts new [] tt)) (each_puts (IsNew kept) new [] (all_new tags now 2 kept rows none) tt)
    ∙ ap own (put_twice kept new order)
