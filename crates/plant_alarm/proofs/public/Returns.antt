-- Where moments do not fall, some return comes after a moment where the last return does.
use Rattle.std.{specs.List.{list_any, list_all}, proofs.lemmas.{Bool.{false≢true, Decides.{nat_tests}}, List.{append-nil, length-append}}}
use Rattle.std.proofs.{lemmas.List.Sorted.{IsNonDecreasingBy-take}, Math.{ListN.{get_or-append}, Seq.{take-append_seam, get_or-append_seam}}}
use Rattle.std.proofs.Common.{◌≡◌, ℕ, suc, ◌≤◌, ◌<◌, refl, sym, ap, ◌∙◌, List, [], ◌∷◌, ◌++◌, length, get_or, Option, Bool, true, cond, arith, subst, nat_lt, nat_le}
use Rattle.plant_alarm.specs.declared.event.Event.{Event}
use Rattle.plant_alarm.specs.{declared.shelf.Shelf.{Shelf}, Shelves.{shelf_while, start_of, is_after, returns_after, shelf_of, shelf_state}}
use Rattle.plant_alarm.specs.States.{passing, is_return, returns, moment_of_last, last_return, IsInTime}
use Rattle.plant_alarm.proofs.public.Push.{by_last, list_any-push, passing-push, last_moment-push}

abbrev is_late : ℕ → Event → Bool
is_late s e = nat_lt s e.moment

abbrev is_within : ℕ → Event → Bool
is_within b e = nat_le e.moment b

within : (b : ℕ) (es : List Event) → ((k : ℕ) (d : Event) → k < length es → (get_or es k d).moment ≤ b) → list_all (is_within b) es ≡ true
within b [] h = refl
within b (x ∷ es) h = grind (arith, nat_tests, h 0 x, within b es (λ k d lt. h (suc k) d (omega arith)))

-- what passes is among the events
passing_within : (b : ℕ) (test : List Event → Event → Bool) (before es : List Event) → list_all (is_within b) es ≡ true
    → list_all (is_within b) (passing test before es) ≡ true
passing_within b test before [] h = refl
passing_within b test before (x ∷ es) h = grind (arith, passing_within b test (before ++ x ∷ []) es)

-- a moment below one of those is below their bound
below_bound : (s b : ℕ) (es : List Event) → list_all (is_within b) es ≡ true → list_any (is_late s) es ≡ true → s < b
below_bound s b [] h some = absurd (false≢true some)
below_bound s b (x ∷ es) h some = grind (arith, nat_tests, below_bound s b es)

-- the events before the last one are in time, and none is later than it
front_in_time : (es : List Event) (e : Event) → IsInTime (es ++ e ∷ []) → IsInTime es
front_in_time es e h = subst IsInTime (take-append_seam es (e ∷ [])) (IsNonDecreasingBy-take (λ x. x.moment) (length es) (es ++ e ∷ []) h)

front_within : (es : List Event) (e : Event) → IsInTime (es ++ e ∷ []) → list_all (is_within e.moment) es ≡ true
front_within es e h =
    within e.moment es (λ k d lt.
    let last : (get_or (es ++ e ∷ []) k d).moment ≤ (get_or (es ++ e ∷ []) (length es) d).moment =
    h k (length es) d (omega arith) (omega (arith, length-append es (e ∷ []))) in
    subst (λ (x : Event). x.moment ≤ e.moment) (get_or-append es (e ∷ []) d k lt)
    (subst (λ (y : Event). (get_or (es ++ e ∷ []) k d).moment ≤ y.moment) (get_or-append_seam es e [] d) last))

abbrev Agrees : List Event → Type 0
Agrees es = IsInTime es → (s : ℕ) → returns_after s es ≡ is_after s (last_return es)

one_more : (es xs : List Event) (e : Event) (s : ℕ) (r : Bool) → list_all (is_within e.moment) xs ≡ true
    → list_any (is_late s) xs ≡ is_after s (moment_of_last xs)
    → list_any (is_late s) (xs ++ cond r (e ∷ []) []) ≡ is_after s (moment_of_last (xs ++ cond r (e ∷ []) []))
one_more es xs e s r in_bound agrees =
    grind (arith, nat_tests, list_any-push (is_late s) xs e, last_moment-push xs e, below_bound s e.moment xs, append-nil xs)

agrees_more : (es : List Event) (e : Event) → Agrees es → Agrees (es ++ e ∷ [])
agrees_more es e agrees h s =
    let in_bound = passing_within e.moment is_return [] es (front_within es e h) in
    ap (list_any (is_late s)) (passing-push is_return [] es e)
    ∙ one_more es (returns es) e s (is_return es e) in_bound (agrees (front_in_time es e h) s)
    ∙ ap (λ l. is_after s (moment_of_last l)) (sym (passing-push is_return [] es e))

all_agree : (es : List Event) → Agrees es
all_agree es = by_last Agrees (λ h s. refl) agrees_more es

-- the shelf by the last return is that by the events
pub shelf_by_events : (shelf : Shelf) (es : List Event) (returned : Option ℕ) (t : ℕ) → IsInTime es → returned ≡ last_return es
    → shelf_state shelf returned t ≡ shelf_of shelf es t
shelf_by_events shelf es returned t h e =
    ap (λ o. shelf_state shelf o t) e ∙ ap (λ b. shelf_while shelf b t) (sym (all_agree es h (start_of shelf)))
