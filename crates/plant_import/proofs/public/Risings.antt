-- Events ordered by number, whose moments do not fall: as a list, its parts, and how they relate to one more event.
use Rattle.std.specs.List.{list_any}
use Rattle.std.proofs.{lemmas.{Bool.{lt-ltb, ltb-true}, List.{take_all, take_more}, Option.{slice_get-get_or}}, Math.Bool.{or-false}}
use Rattle.std.proofs.Common.{◌≡◌, ℕ, ◌-◌, ◌<◌, ◌≤◌, refl, sym, ap, ◌∙◌, subst, arith, List, [], ◌∷◌, ◌++◌, length, take, drop, true, Some, None, nat_lt, slice_get, nat_cmp}
use Rattle.plant_alarm.specs.declared.event.Event.{Event}
use Rattle.plant_import.{specs.{Merging.{IsRising}, Numbers.{event_number}}, proofs.public.Placed.{in_order_of}}
use Rattle.plant_import.proofs.public.EachLaws.{Pairs, all_pairs, any_by_first, any_led, each_weaker, pairs_before, pairs_of, pairs_weaker}
use Rattle.plant_types.specs.KeyedRows.{IsInOrder}

-- a smaller number, and no later moment
abbrev pub Before : Event → Event → Type 0
Before a b = (a.seq < b.seq) × (a.moment ≤ b.moment)

abbrev pub Rising : List Event → Type 0
Rising = Pairs Before

pub rising_of : (xs : List Event) → IsRising xs → Rising xs
rising_of = pairs_of Before

pub is_rising : (xs : List Event) → Rising xs → IsRising xs
is_rising = all_pairs Before

-- the first of a list, and the last
pub first_cut : (xs : List Event) (x : Event) → Some x ≡ slice_get xs 0 → xs ≡ x ∷ drop 1 xs
first_cut [] x e = cc
first_cut (y ∷ ys) x e = let same : x ≡ y = cc in ap (λ z. z ∷ ys) (sym same)

pub first_none : (xs : List Event) → None ≡ slice_get xs 0 → xs ≡ []
first_none [] e = refl
first_none (y ∷ ys) e = cc

pub last_cut : (xs : List Event) (x : Event) → Some x ≡ slice_get xs (length xs - 1) → xs ≡ take (length xs - 1) xs ++ x ∷ []
last_cut [] x e = cc
last_cut (y ∷ ys) x e =
    grind (arith, take_more (y ∷ ys) (length (y ∷ ys) - 1) x, take_all (length (y ∷ ys)) (y ∷ ys), slice_get-get_or (y ∷ ys) (length (y ∷ ys) - 1) x)

pub last_none : (xs : List Event) → None ≡ slice_get xs (length xs - 1) → xs ≡ []
last_none [] e = refl
last_none (y ∷ ys) e = absurd (cc (e ∙ slice_get-get_or (y ∷ ys) (length (y ∷ ys) - 1) y (omega arith)))

-- a test that the first or the last of rising events settles
pub first_settles_at : (m : ℕ) (xs : List Event) (x : Event) → Some x ≡ slice_get xs 0 → IsRising xs
    → nat_lt x.moment m ≡ list_any (λ e. nat_lt e.moment m) xs
first_settles_at m xs x e h =
    let cut = first_cut xs x e in
    let high = (subst (λ (l : List Event). Rising l) cut (rising_of xs h)).0 in
    sym (ap (list_any (λ e. nat_lt e.moment m)) cut
    ∙ any_by_first (λ e. nat_lt e.moment m) x (drop 1 xs)
    (each_weaker (Before x) (λ y. nat_lt y.moment m ≡ true
    → nat_lt x.moment m ≡ true) (λ y b t. lt-ltb x.moment m (omega (arith, b.1, ltb-true y.moment m t))) (drop 1 xs) high))

pub last_settles_at : (m : ℕ) (xs : List Event) (x : Event) → Some x ≡ slice_get xs (length xs - 1) → IsRising xs
    → nat_lt m x.moment ≡ list_any (λ e. nat_lt m e.moment) xs
last_settles_at m xs x e h =
    let front = take (length xs - 1) xs in
    let cut : xs ≡ front ++ x ∷ [] = last_cut xs x e in
    let low = pairs_before Before front [] x (subst (λ (l : List Event). Rising l) cut (rising_of xs h)) in
    sym (ap (list_any (λ e. nat_lt m e.moment)) cut
    ∙ any_led (λ e. nat_lt m e.moment) front x []
    (each_weaker (λ y. Before y x) (λ y. nat_lt m y.moment ≡ true
    → nat_lt m x.moment ≡ true) (λ y b t. lt-ltb m x.moment (omega (arith, b.1, ltb-true m y.moment t))) front low) ∙ or-false _)

-- events in rising number whose moments don't fall are in the order of their numbers
pub in_number_order : (xs : List Event) → IsRising xs → IsInOrder nat_cmp event_number xs
in_number_order xs h = in_order_of event_number xs (pairs_weaker Before (λ x y. x.seq < y.seq) (λ x y b. b.0) xs (rising_of xs h))
