-- One more event changes a summary as the step says.
use Rattle.std.{specs.List.{list_any, after_first, after_last}, proofs.{lemmas.{Bool.{false≢true}, List.{append-nil}}, Math.Bool.{or-true}}}
use Rattle.std.proofs.Common.{arith, ◌≡◌, ℕ, refl, ap, ◌∙◌, List, [], ◌∷◌, ◌++◌, Some, None, Option, Bool, true, false, cond, ◌&&◌, ◌||◌, not}
use Rattle.plant_alarm.specs.declared.event.{Event.{Event}, EventKind.{EventKind, TheVariants.{Act, Rtn, Ack, Reset}}}
use Rattle.plant_alarm.specs.declared.summary.AlarmState.{AlarmState, TheVariants.{Normal, Unacknowledged}}
use Rattle.plant_alarm.specs.{declared.summary.Summary.{Summary}, Step.{next_summary, next_summary_at, is_active_state, acknowledged, reset, after_return}}
use Rattle.plant_alarm.specs.States.{is_act, is_rtn, is_ack, is_reset, is_sup, is_unsup, is_active, is_unacknowledged, is_latched, is_suppressed}
use Rattle.plant_alarm.specs.States.{state_named, state_of, is_return, is_activation, returns, activations, moment_of_last, last_return, active_since}
use Rattle.plant_alarm.specs.States.{summary}
use Rattle.plant_alarm.proofs.public.Push.{by_last, last_that-push, list_any-push, passing-push, last_moment-push, after_last-yes, after_last-no}
use Rattle.plant_alarm.proofs.public.Push.{after_first-some, after_first-none}

abbrev since_act : List Event → List Event
since_act es = after_last is_act es

-- what a state reads: active, an ACT, an ACK since the last ACT, an RTN since it, a RESET after the first of these
abbrev had_act : List Event → Bool
had_act es = list_any is_act es

abbrev had_ack : List Event → Bool
had_ack es = list_any is_ack (since_act es)

abbrev had_rtn : List Event → Bool
had_rtn es = list_any is_rtn (since_act es)

abbrev had_reset : List Event → Bool
had_reset es = list_any is_reset (after_first is_rtn (since_act es))

abbrev state_by : Bool → Bool → Bool → Bool → Bool → AlarmState
state_by latching active act ack reset = state_named active (latching && not active && act && not reset) (act && not ack)

-- how the tests of a state depend on each other
record Fit (active act rtn reset : Bool) : Type 0 where
  had : active ≡ true → act ≡ true
  returned : act ≡ true → rtn ≡ not active
  first : rtn ≡ false → reset ≡ false

-- with an event of this kind at the end
active-push : (es : List Event) (e : Event) → is_active (es ++ e ∷ []) ≡ cond (is_act e || is_rtn e) (is_act e) (is_active es)
active-push es e = grind (arith, last_that-push (λ x. is_act x || is_rtn x) es e)

suppressed-push : (es : List Event) (e : Event) → is_suppressed (es ++ e ∷ []) ≡ cond (is_sup e || is_unsup e) (is_sup e) (is_suppressed es)
suppressed-push es e = grind (arith, last_that-push (λ x. is_sup x || is_unsup x) es e)

-- since the last ACT, with an event that is none
since-no : (p : Event → Bool) (es : List Event) (e : Event) → is_act e ≡ false
    → list_any p (since_act (es ++ e ∷ [])) ≡ (list_any p (since_act es) || p e)
since-no p es e n = ap (list_any p) (after_last-no is_act es e n) ∙ list_any-push p (since_act es) e

since-yes : (p : Event → Bool) (es : List Event) (e : Event) → is_act e ≡ true → list_any p (since_act (es ++ e ∷ [])) ≡ false
since-yes p es e y = ap (list_any p) (after_last-yes is_act es e y)

reset-yes : (es : List Event) (e : Event) → is_act e ≡ true → had_reset (es ++ e ∷ []) ≡ false
reset-yes es e y = ap (λ l. list_any is_reset (after_first is_rtn l)) (after_last-yes is_act es e y)

reset_by : (xs : List Event) (e : Event) (b : Bool) → list_any is_rtn xs ≡ b
    → list_any is_reset (after_first is_rtn (xs ++ e ∷ [])) ≡ cond b (list_any is_reset (after_first is_rtn xs) || is_reset e) false
reset_by xs e b is = grind (arith, after_first-some is_rtn xs e, after_first-none is_rtn xs e, list_any-push is_reset (after_first is_rtn xs) e)

reset-no : (es : List Event) (e : Event) → is_act e ≡ false → had_reset (es ++ e ∷ []) ≡ cond (had_rtn es) (had_reset es || is_reset e) false
reset-no es e n = ap (λ l. list_any is_reset (after_first is_rtn l)) (after_last-no is_act es e n) ∙ reset_by (since_act es) e (had_rtn es) refl

-- what each kind does to a state
acts : (l h : Bool) → state_by l true (h || true) false false ≡ Unacknowledged
acts l h = grind arith

abbrev Returns : Bool → Bool → Bool → Bool → Bool → Bool → Type 0
Returns l k a h r s = state_by l false (h || false) (k || false) (cond r (s || false) false) ≡ after_return l (state_by l a h k s)

abbrev Acknowledges : Bool → Bool → Bool → Bool → Bool → Bool → Type 0
Acknowledges l k a h r s = state_by l a (h || false) (k || true) (cond r (s || false) false) ≡ acknowledged (state_by l a h k s)

abbrev Resets : Bool → Bool → Bool → Bool → Bool → Bool → Type 0
Resets l k a h r s = state_by l a (h || false) (k || false) (cond r (s || true) false) ≡ reset (state_by l a h k s)

abbrev Keeps : Bool → Bool → Bool → Bool → Bool → Bool → Type 0
Keeps l k a h r s = state_by l a (h || false) (k || false) (cond r (s || false) false) ≡ state_by l a h k s

returns_state : (l k a h r s : Bool) → Fit a h r s → Returns l k a h r s
returns_state l k a h r s f = grind (arith, f.had, f.returned, f.first)

acknowledges_state : (l k a h r s : Bool) → Fit a h r s → Acknowledges l k a h r s
acknowledges_state l k a h r s f = grind (arith, f.had, f.returned, f.first)

resets_state : (l k a h r s : Bool) → Fit a h r s → Resets l k a h r s
resets_state l k a h r s f = grind (arith, f.had, f.returned, f.first)

keeps_state : (l k a h r s : Bool) → Fit a h r s → Keeps l k a h r s
keeps_state l k a h r s f = grind (arith, f.had, f.returned, f.first)

-- the same after one more event
fit_along : {a b c d a' b' c' d' : Bool} → a' ≡ a → b' ≡ b → c' ≡ c → d' ≡ d → Fit a b c d → Fit a' b' c' d'
fit_along p q r s f = rw (p, q, r, s) f

fit_act : (h : Bool) → Fit true (h || true) false false
fit_act h = record { had = λ _. or-true h; returned = λ _. refl; first = λ _. refl }

fit_rtn : (h r s : Bool) → Fit false (h || false) (r || true) s
fit_rtn h r s = record { had = λ y. absurd (false≢true y); returned = λ _. or-true r; first = λ n. grind arith }

fit_other : (x a h r s : Bool) → Fit a h r s → Fit a (h || false) (r || false) (cond r (s || x) false)
fit_other x a h r s f = record { had = λ y. grind (arith, f.had); returned = λ y. grind (arith, f.returned); first = λ n. grind arith }

abbrev Fits : List Event → Type 0
Fits es = Fit (is_active es) (had_act es) (had_rtn es) (had_reset es)

abbrev ev : ℕ → ℕ → List ℕ → EventKind → Event
ev n t tag kind = record { seq = n; moment = t; tag = tag; kind = kind }

fits_more : (n t : ℕ) (tag : List ℕ) (kind : EventKind) (es : List Event) → Fits es → Fits (es ++ ev n t tag kind ∷ [])
fits_more n t tag Act es f = let e = ev n t tag Act in
    fit_along (active-push es e) (list_any-push is_act es e) (since-yes is_rtn es e refl) (reset-yes es e refl) (fit_act (had_act es))
fits_more n t tag Rtn es f = let e = ev n t tag Rtn in
    fit_along (active-push es e) (list_any-push is_act es e) (since-no is_rtn es e refl) (reset-no es e refl) (fit_rtn (had_act es) (had_rtn es) _)
fits_more n t tag Reset es f = let e = ev n t tag Reset in
    fit_along (active-push es e) (list_any-push is_act es e) (since-no is_rtn es e refl) (reset-no es e refl) (fit_other true _ _ _ _ f)
fits_more n t tag kind es f = let e = ev n t tag kind in
    fit_along (active-push es e) (list_any-push is_act es e) (since-no is_rtn es e refl) (reset-no es e refl) (fit_other false _ _ _ _ f)

all_fit : (es : List Event) → Fits es
all_fit es =
    by_last Fits (record { had = λ y. y; returned = λ y. absurd (false≢true y); first = λ _. refl })
    (λ es e f. fits_more e.seq e.moment e.tag e.kind es f) es

-- the moments
active_state : (a l u : Bool) → is_active_state (state_named a l u) ≡ a
active_state a l u = grind arith

abbrev the_summary : AlarmState → Bool → Option ℕ → Option ℕ → Summary
the_summary a b c d = record { state = a; suppressed = b; active_since = c; last_return = d }

-- an event that is neither an ACT nor an RTN changes no moment
same_active_since : (es : List Event) (e : Event) → (is_act e || is_rtn e) ≡ false → is_act e ≡ false → active_since (es ++ e ∷ []) ≡ active_since es
same_active_since es e n m = grind (arith, active-push es e, passing-push is_activation [] es e, append-nil (activations es))

same_last_return : (es : List Event) (e : Event) → is_rtn e ≡ false → last_return (es ++ e ∷ []) ≡ last_return es
same_last_return es e m = grind (arith, passing-push is_return [] es e, append-nil (returns es))

-- the state with one more event
state-push : (l : Bool) (es : List Event) (e : Event) {a h k s : Bool} → is_active (es ++ e ∷ []) ≡ a → had_act (es ++ e ∷ []) ≡ h
    → had_ack (es ++ e ∷ []) ≡ k → had_reset (es ++ e ∷ []) ≡ s → state_of l (es ++ e ∷ []) ≡ state_by l a h k s
state-push l es e p q r t = rw (p, q, r, t) refl

-- while active, since the last activation
act_since : (l : Bool) (es : List Event) (e : Event) → is_act e ≡ true
    → active_since (es ++ e ∷ []) ≡ cond (is_active_state (state_of l es)) (active_since es) (Some e.moment)
act_since l es e y =
    grind (
      arith,
      active-push es e,
      passing-push is_activation [] es e,
      append-nil (activations es),
      last_moment-push (activations es) e,
      active_state
          (is_active es) (is_latched l es) (is_unacknowledged es),
    )

rtn_return : (l : Bool) (es : List Event) (e : Event) → is_rtn e ≡ true
    → last_return (es ++ e ∷ []) ≡ cond (is_active_state (state_of l es)) (Some e.moment) (last_return es)
rtn_return l es e y =
    grind (
      arith,
      passing-push is_return [] es e,
      append-nil (returns es),
      last_moment-push (returns es) e,
      active_state (is_active es)
          (is_latched l es) (is_unacknowledged es),
    )

-- an event that is neither: the moments stay
quiet : (l : Bool) (es : List Event) (e : Event) (state : AlarmState) (suppressed : Bool) → (is_act e || is_rtn e) ≡ false → is_act e ≡ false
    → is_rtn e ≡ false → state_of l (es ++ e ∷ []) ≡ state → is_suppressed (es ++ e ∷ []) ≡ suppressed
    → summary l (es ++ e ∷ []) ≡ the_summary state suppressed (active_since es) (last_return es)
unfolding summary
quiet l es e state suppressed neither act rtn s p = λ i. the_summary (s i) (p i) (same_active_since es e neither act i) (same_last_return es e rtn i)

the_next : (l : Bool) (n t : ℕ) (tag : List ℕ) (kind : EventKind) (es : List Event)
    → summary l (es ++ ev n t tag kind ∷ []) ≡ next_summary_at kind l t (summary l es)
unfolding summary
the_next l n t tag Act es =
    let e = ev n t tag Act in
    let state = state-push l es e (active-push es e) (list_any-push is_act es e) (since-yes is_ack es e refl) (reset-yes es e refl)
    ∙ acts l (had_act es) in
    λ i. the_summary (state i) (suppressed-push es e i) (act_since l es e refl i) (same_last_return es e refl i)
the_next l n t tag Rtn es =
    let e = ev n t tag Rtn in
    let state = state-push l es e (active-push es e) (list_any-push is_act es e) (since-no is_ack es e refl) (reset-no es e refl)
    ∙ returns_state l _ _ _ _ _ (all_fit es) in
    λ i. the_summary (state i) (suppressed-push es e i) (cond (active-push es e i) (moment_of_last (activations (es ++ e ∷ []))) None)
    (rtn_return l es e refl i)
the_next l n t tag Ack es =
    let e = ev n t tag Ack in
    quiet l es e _ _ refl refl refl (state-push l es e (active-push es e) (list_any-push is_act es e) (since-no is_ack es e refl) (reset-no es e refl)
    ∙ acknowledges_state l _ _ _ _ _ (all_fit es)) (suppressed-push es e)
the_next l n t tag Reset es =
    let e = ev n t tag Reset in
    quiet l es e _ _ refl refl refl (state-push l es e (active-push es e) (list_any-push is_act es e) (since-no is_ack es e refl) (reset-no es e refl)
    ∙ resets_state l _ _ _ _ _ (all_fit es)) (suppressed-push es e)
the_next l n t tag kind es =
    let e = ev n t tag kind in
    quiet l es e _ _ refl refl refl (state-push l es e (active-push es e) (list_any-push is_act es e) (since-no is_ack es e refl) (reset-no es e refl)
    ∙ keeps_state l _ _ _ _ _ (all_fit es)) (suppressed-push es e)

pub summary-push : (l : Bool) (es : List Event) (e : Event) → summary l (es ++ e ∷ []) ≡ next_summary l (summary l es) e
summary-push l es e = the_next l e.seq e.moment e.tag e.kind es

pub summary-none : (l : Bool) → summary l [] ≡ record { state = Normal; suppressed = false; active_since = None; last_return = None }
unfolding summary
summary-none true = refl
summary-none false = refl
