-- Events by their numbers in a map: one more put, and those on both sides of a number.
use Rattle.std.specs.BTreeMap.{insert_entry, Range.{entries_between, range_contains}}
use Rattle.std.specs.{Cmp.{ranked}, declared.ops.Bound.TheVariants.{Excluded, Included, Unbounded}, FinMap.Entries.{by_order}}
use Rattle.std.{specs.List.{list_any}, proofs.lemmas.Bool.{not-true, false≢true, lt-ltb, ltb-false, ltb-true, or_parts}}
use Rattle.std.proofs.lemmas.{Bool.Decides.{nat_tests}, Grind.{common_steps}, List.{map-append}, Option.{slice_get-get_or}}
use Rattle.std.proofs.Common.{List, [], ap, arith, refl, subst, sym, ◌++◌, ◌∙◌, ◌∷◌, filter, is_eq, is_lt, nat_cmp, Bool, Some, None, false, length, map, nat_lt, not, slice_get, true, ℕ, ◌-◌, ◌<◌, ◌≡◌, ◌≤◌, ◌||◌, Equal, Greater, Less}
use Rattle.plant_alarm.specs.declared.event.Event.{Event}
use Rattle.plant_import.specs.{Merging.{IsRising, out_of_order}, Numbers.{event_number, has_number}, Relation.{below, from}}
use Rattle.plant_import.proofs.public.{Nearest.{AreParts, order_above, order_below}, Risings.{Before, Rising, is_rising, rising_of}}
use Rattle.plant_import.proofs.public.EachLaws.{each_filter, filter-of_map, Each, each_weaker, pairs_weaker}
use Rattle.plant_import.proofs.public.EachLaws.{split_by}
use Rattle.plant_types.specs.KeyedRows.{put_row, rows_below, rows_from}

abbrev pub numbered : List Event → List (ℕ × Event)
numbered es = map (λ e. (e.seq, e)) es

abbrev pub put_in : Event → List Event → List Event
put_in = put_row nat_cmp event_number

-- an event more
pub put_entry : (r : Event) (es : List Event) → insert_entry nat_cmp (numbered es) r.seq r ≡ numbered (put_in r es)
put_entry r [] = refl
put_entry r (x ∷ xs) = grind (arith, nat_tests, put_entry r xs)

pub values_are : (es : List Event) → map (λ e. e.1) (numbered es) ≡ es
values_are [] = refl
values_are (x ∷ xs) = ap (λ l. x ∷ l) (values_are xs)

-- the entries on both sides of a number
pub entries_below : (n : ℕ) (es : List Event) → entries_between nat_cmp Unbounded (Excluded n) (numbered es) ≡ numbered (below n es)
entries_below n es =
    filter-of_map (λ e. (e.seq, e)) (λ e. range_contains nat_cmp Unbounded (Excluded n) e.0) (λ e. nat_lt e.seq n) (λ e. grind (arith, nat_tests)) es

pub entries_from : (n : ℕ) (es : List Event) → entries_between nat_cmp (Included n) Unbounded (numbered es) ≡ numbered (from n es)
entries_from n es =
    filter-of_map (λ e. (e.seq, e)) (λ e. range_contains nat_cmp (Included n) Unbounded e.0) (λ e. not (nat_lt e.seq n))
    (λ e. grind (arith, nat_tests)) es

-- rising events are those below a number and then the others
pub halves : (n : ℕ) (es : List Event) → IsRising es → AreParts es n (below n es) (from n es)
halves n es h =
    let whole =
    split_by (λ e. nat_lt e.seq n) es (pairs_weaker Before (λ x y. nat_lt y.seq n ≡ true
    → nat_lt x.seq n ≡ true) (λ x y b t. lt-ltb x.seq n (omega (arith, b.0, ltb-true y.seq n t))) es (rising_of es h)) in
    record {
      whole = whole;
      rising = subst (λ (l : List Event). Rising l) whole (rising_of es h);
      low = each_weaker (λ x. nat_lt x.seq n ≡ true) (λ x. x.seq < n) (λ x. ltb-true x.seq n) (below n es) (each_filter (λ x. nat_lt x.seq n) es);
      high = each_weaker (λ x. not (nat_lt x.seq n) ≡ true) (λ x. n ≤ x.seq) (λ x t. ltb-false x.seq n (not-true (nat_lt x.seq n) t)) (from n es)
          (each_filter (λ x. not (nat_lt x.seq n)) es);
    }

-- the parts of events at a number, by their order
pub lt_is : (m n : ℕ) → is_lt (nat_cmp m n) ≡ nat_lt m n
lt_is m n = grind (arith, nat_tests)

pub below_is : (n : ℕ) (es : List Event) → rows_below nat_cmp event_number n es ≡ below n es
below_is n es = λ i. filter (λ e. lt_is e.seq n i) es

pub from_is : (n : ℕ) (es : List Event) → rows_from nat_cmp event_number n es ≡ from n es
from_is n es = λ i. filter (λ e. not (lt_is e.seq n i)) es

-- an event put among those of other numbers
pub any_put : (p : Event → Bool) (e : Event) (xs : List Event) → list_any (has_number e.seq) xs ≡ false
    → list_any p (put_in e xs) ≡ (p e || list_any p xs)
any_put p e [] h = refl
any_put p e (x ∷ xs) h = grind (arith, nat_tests, any_put p e xs)

pub each_put : (P : Event → Type 0) (e : Event) (xs : List Event) → P e → Each P xs → Each P (put_in e xs)
each_put P e [] h k = (h, tt)
each_put P e (x ∷ xs) h k =
    elim (nat_cmp e.seq x.seq) as (λ o. Each P (by_order o (e ∷ x ∷ xs) (e ∷ xs) (x ∷ put_in e xs))) [
      | Less ↦ (h, k)
      | Equal ↦ (h, k.1)
      | Greater ↦ (k.0, each_put P e xs h k.1)
    ]

-- one that none of them is out of order with
rising_put : (e : Event) (xs : List Event) → list_any (has_number e.seq) xs ≡ false → list_any (out_of_order e) xs ≡ false → Rising xs
    → Rising (put_in e xs)
rising_put e [] other order h = (tt, tt)
rising_put e (x ∷ xs) other order h =
    let numbers = or_parts (has_number e.seq x) (list_any (has_number e.seq) xs) other in
    let orders = or_parts (out_of_order e x) (list_any (out_of_order e) xs) order in
    elim (nat_cmp e.seq x.seq) as (λ o. o ≡ nat_cmp e.seq x.seq → is_eq o ≡ false → Rising (by_order o (e ∷ x ∷ xs) (e ∷ xs) (x ∷ put_in e xs))) [
      | Less ↦ λ is _.
          let lt : e.seq < x.seq = ranked e.seq x.seq Less is in
          let le : e.moment ≤ x.moment = ltb-false x.moment e.moment (sym (order_above e x lt) ∙ orders.0) in (
            (
              let first : Before e x = (lt, le) in
                  first,
              each_weaker (Before x) (Before e) (λ y b. (omega (arith, lt, b.0), omega (arith, le, b.1))) xs h.0,
            ),
            h,
          )
      | Equal ↦ λ _ f. absurd (false≢true (sym f))
      | Greater ↦ λ is _.
          let lt : x.seq < e.seq = ranked e.seq x.seq Greater is in
          let le : x.moment ≤ e.moment = ltb-false e.moment x.moment (sym (order_below e x lt) ∙ orders.0) in
          (each_put (Before x) e xs (lt, le) h.0, rising_put e xs numbers.1 orders.1 h.1)
    ] refl numbers.0

pub rises_put : (e : Event) (xs : List Event) → list_any (has_number e.seq) xs ≡ false → list_any (out_of_order e) xs ≡ false → IsRising xs
    → IsRising (put_in e xs)
rises_put e xs other order h = is_rising (put_in e xs) (rising_put e xs other order (rising_of xs h))

-- the entry at an end of a part of the map
pub first_value : (k : ℕ) (v : Event) (t : List (ℕ × Event)) (xs : List Event) → (k, v) ∷ t ≡ numbered xs → Some v ≡ slice_get xs 0
first_value k v t xs e = ap (λ l. slice_get l 0) (ap (map (λ e. e.1)) e ∙ values_are xs)

pub no_first : (xs : List Event) → [] ≡ numbered xs → None ≡ slice_get xs 0
no_first xs e = ap (λ l. slice_get l 0) (ap (map (λ e. e.1)) e ∙ values_are xs)

last_at_end : (ys : List Event) (v : Event) → Some v ≡ slice_get (ys ++ v ∷ []) (length (ys ++ v ∷ []) - 1)
last_at_end ys v = grind (arith, common_steps, slice_get-get_or (ys ++ v ∷ []) (length ys) v)

pub last_value : (k : ℕ) (v : Event) (t : List (ℕ × Event)) (xs : List Event) → t ++ (k, v) ∷ [] ≡ numbered xs → Some v ≡ slice_get xs (length xs - 1)
last_value k v t xs e =
    let values : map (λ e. e.1) t ++ v ∷ [] ≡ xs = sym (map-append (λ e. e.1) t ((k, v) ∷ [])) ∙ ap (map (λ e. e.1)) e ∙ values_are xs in
    last_at_end (map (λ e. e.1) t) v ∙ ap (λ l. slice_get l (length l - 1)) values

pub no_last : (xs : List Event) → [] ≡ numbered xs → None ≡ slice_get xs (length xs - 1)
no_last xs e = ap (λ l. slice_get l (length l - 1)) (ap (map (λ e. e.1)) e ∙ values_are xs)
