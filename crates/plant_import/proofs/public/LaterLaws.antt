-- New rows that come after all kept events of their alarms: they are put behind these.
use Rattle.std.{specs.{Cmp.{nat_cmp_total, unsigned_tied}, List.{list_any}}, proofs.lemmas.Bool.{eq-eqb, or_parts}}
use Rattle.std.proofs.{lemmas.{Bool.Decides.{nat_tests}, List.Elements.{recursion_from_All}, Map.Views.{All-from_any}}}
use Rattle.std.proofs.Common.{ap, append-nil, append_assoc, arith, refl, sym, ◌∙◌, nat_cmp, List, None, [], false, filter, if◌then◌else◌, nat_lt, true, ℕ, ◌&&◌, ◌++◌, ◌<◌, ◌∷◌, ◌≡◌}
use Rattle.plant_alarm.specs.declared.event.Event.{Event}
use Rattle.plant_import.specs.{Merging.{IsRising, first_fault, fresh, same_event}, Needed.{has_late, is_late, is_overtaken}}
use Rattle.plant_import.{specs.Numbers.{event_number, has_number, with_events}, proofs.ByNumber.{any_put, each_put}}
use Rattle.plant_import.proofs.public.{Counted.{any_fresh, order_puts, put_twice}, EachLaws.{Each, each_weaker}}
use Rattle.plant_import.proofs.public.{FileLaws.{none_member, same_events}, FreshLaws.{member_first}, Nearest.{same_any}}
use Rattle.plant_import.proofs.public.{Placed.{AllAbove, Rises, other, rises_of}, Risings.{in_number_order}}
use Rattle.plant_types.specs.{KeyedRows.{IsInOrder, put_row}, Names.{Name, name_cmp, same_name}}
use Rattle.plant_types.proofs.public.{KeyedRowLaws.{IsInOrder-put_row, tied}, Orders.{same_names, same_numbers}}

abbrev own : Name → List Event → List Event
own a es = filter (λ e. same_name a e.tag) es

-- the event's number is new, and its alarm has no greater one
pub record IsLater (es : List Event) (r : Event) : Type 0 where
  pub number : list_any (has_number r.seq) es ≡ false
  pub last : is_overtaken es r ≡ false

none_own : (a : Name) (r : Event) (es : List Event) → same_name a r.tag ≡ true → AllAbove event_number r.seq es → is_overtaken es r ≡ false
    → own a es ≡ []
none_own a r [] t above last = refl
none_own a r (e ∷ es) t above last =
    let same : a ≡ r.tag = same_names a r.tag (tied (name_cmp a r.tag) true t refl) in
    grind (arith, nat_tests, ap (λ x. same_name x e.tag) same, above.0, none_own a r es t above.1)

-- a later event is put behind its alarm's own
own_put : (a : Name) (r : Event) (es : List Event) → Rises event_number es → IsLater es r
    → own a (put_row nat_cmp event_number r es) ≡ own a es ++ (if same_name a r.tag then r ∷ [] else [])
own_put a r [] rises later = refl
own_put a r (e ∷ es) rises later =
    let numbers = or_parts (has_number r.seq e) (list_any (has_number r.seq) es) later.number in
    let lasts = or_parts (same_name r.tag e.tag && nat_lt r.seq e.seq) (is_overtaken es r) later.last in
    let more = own_put a r es rises.1 (record { number = numbers.1; last = lasts.1 }) in
    let none : r.seq < e.seq → same_name a r.tag ≡ true → own a (e ∷ es) ≡ [] =
    λ lt t. none_own a r (e
    ∷ es) t (lt, each_weaker (λ y. e.seq < y.seq) (λ y. r.seq < y.seq) (λ y more. omega (arith, lt, more)) es rises.0) later.last in
    grind (arith, nat_tests, numbers.0, more, none, append-nil (own a (e ∷ es)))

later_put : (r s : Event) (es : List Event) → list_any (has_number r.seq) es ≡ false → r.seq < s.seq → IsLater es s
    → IsLater (put_row nat_cmp event_number r es) s
later_put r s es new lt later =
    record {
      number = grind (arith, any_put (has_number s.seq) r es new, other s.seq r.seq lt, later.number);
      last = grind (arith, nat_tests, any_put (λ k. same_name s.tag k.tag && nat_lt s.seq k.seq) r es new, later.last);
    }

all_later_put : (r : Event) (rs es : List Event) → list_any (has_number r.seq) es ≡ false → AllAbove event_number r.seq rs → Each (IsLater es) rs
    → Each (IsLater (put_row nat_cmp event_number r es)) rs
all_later_put r [] es new above h = tt
all_later_put r (s ∷ rs) es new above h = (later_put r s es new above.0 h.0, all_later_put r rs es new above.1 h.1)

own_after : (a : Name) (rs es : List Event) → IsInOrder nat_cmp event_number es → Rises event_number rs → Each (IsLater es) rs
    → own a (with_events es rs) ≡ own a es ++ own a rs
own_after a [] es order rises h = sym (append-nil (own a es))
own_after a (r ∷ rs) es order rises h =
    own_after a rs (put_row nat_cmp event_number r es)
    (IsInOrder-put_row nat_cmp event_number nat_cmp_total same_numbers r es order) rises.1 (all_later_put r rs es h.0.number rises.0 h.1)
    ∙ ap (λ l. l ++ own a rs) (own_put a r es (rises_of event_number es order) h.0)
    ∙ append_assoc (own a es) (if same_name a r.tag then r ∷ [] else []) (own a rs)
    ∙ ap (λ l. own a es ++ l)
    (elim (same_name a r.tag) as (λ b. (if b then r ∷ [] else [])
    ++ own a rs ≡ (if b then r ∷ own a rs else own a rs)) [ true ↦ refl | false ↦ refl ])

-- what holds of each of some events holds of each of them in rising number
pub each_puts : (P : Event → Type 0) (rs es : List Event) → Each P rs → Each P es → Each P (with_events es rs)
each_puts P [] es h k = k
each_puts P (r ∷ rs) es h k = each_puts P rs (put_row nat_cmp event_number r es) h.1 (each_put P r es h.0 k)

-- the new rows of a file without fault and without late rows
all_later : (tags : List Name) (now line : ℕ) (kept rows : List Event) → first_fault tags now line kept rows ≡ None → has_late kept rows ≡ false
    → Each (IsLater kept) (fresh kept rows)
all_later tags now line kept rows none late =
    recursion_from_All (IsLater kept) (fresh kept rows) (All-from_any same_events (IsLater kept) (fresh kept rows) (λ q there.
    let new = same_any (has_number q.seq) q (fresh kept rows) there (unsigned_tied q.seq q.seq ∙ eq-eqb q.seq q.seq refl) in
    let number : list_any (has_number q.seq) kept ≡ false = grind (arith, any_fresh tags now line kept rows none q.seq, new) in
    let brought : list_any (same_event q) rows ≡ true = grind (arith, member_first same_events q kept rows, there) in
    record { number = number; last = grind (arith, none_member (is_late kept) rows q late brought, number) }))

-- where no row is late, the new rows of an alarm, in rising number, stand behind its kept events
pub fresh_after : (a : Name) (tags : List Name) (now line : ℕ) (kept rows : List Event) → IsRising kept → first_fault tags now line kept rows ≡ None
    → has_late kept rows ≡ false
    → filter (λ e. same_name a e.tag) (with_events kept (fresh kept rows)) ≡ filter (λ e. same_name a e.tag) kept ++ filter (λ e. same_name a e.tag)
    (with_events [] (fresh kept rows))
fresh_after a tags now line kept rows rising none late =
    let order = in_number_order kept rising in
    let later = all_later tags now line kept rows none late in
    ap (own a) (sym (put_twice kept (fresh kept rows) order))
    ∙ own_after a (with_events [] (fresh kept rows)) kept order
    (rises_of event_number (with_events [] (fresh kept rows)) (order_puts (fresh kept rows) [] tt))
    (each_puts (IsLater kept) (fresh kept rows) [] later tt)
