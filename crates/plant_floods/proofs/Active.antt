-- The alarms that are active, one event after another.
use Rattle.std.specs.{BTreeSet.{UpdatesBy, contains}, Cmp.{eq_by_cmp_equiv, Lexicographic.{nat_list_cmp_total}}, List.{range_with_len}}
use Rattle.std.{specs.Ordering.{eq_by_cmp}, proofs.lemmas.List.{ext_get_or, length-take-le, length-map, map-append, take_more}}
use Rattle.std.proofs.lemmas.List.{Elements.{filter-append}, FromFn.{get_or-map-range_with_len, length-map-range_with_len, length-range_with_len}}
use Rattle.std.proofs.{lemmas.{List.Sums.{count_by-le-length, count_by_more_no, count_by_more_yes}, Simd.{splat_is_map}}, Math.ListN.{replicate}}
use Rattle.std.proofs.Common.{[], ap, append-nil, arith, cond, get_or, length, refl, subst, sym, take, true, ◌*◌, ◌++◌, ◌+◌, ◌-◌, ◌/◌, ◌<◌, ◌∙◌, ◌∷◌, ◌≡◌, ◌≤◌, ℕ, Bool, List, count_by, fold, map, ◌||◌, BTreeSet}
use Rattle.plant_alarm.specs.declared.event.Event.{Event}
use Rattle.plant_alarm.{specs.States.{is_act, is_active, is_rtn, passing}, proofs.public.Push.{last_that-push, passing-push}}
use Rattle.plant_floods.specs.Activations.{AreActive, activations_of_all, is_activation_of, is_in_period, of_alarm, period_counts}
use Rattle.plant_types.{specs.Names.{Name, same_name, name_cmp}, proofs.public.{KeyedRowLaws.{tied}, Orders.{same_names}}}

active-push : (es : List Event) (e : Event) → is_active (es ++ e ∷ []) ≡ cond (is_act e || is_rtn e) (is_act e) (is_active es)
active-push es e = grind (arith, last_that-push (λ x. is_act x || is_rtn x) es e)

-- of one alarm, one event more
of_alarm-push : (a : Name) (es : List Event) (e : Event) → of_alarm a (es ++ e ∷ []) ≡ of_alarm a es ++ cond (same_name a e.tag) (e ∷ []) []
of_alarm-push a es e = filter-append (λ x. same_name a x.tag) es (e ∷ [])

active_of : (a : Name) (es : List Event) (e : Event)
    → is_active (of_alarm a (es ++ e ∷ [])) ≡ cond (same_name a e.tag) (cond (is_act e || is_rtn e) (is_act e) (is_active (of_alarm a es)))
    (is_active (of_alarm a es))
active_of a es e = grind (arith, of_alarm-push a es e, active-push (of_alarm a es) e, append-nil (of_alarm a es))

-- an activation puts its tag into the set, a return takes it out
pub moved : (s n : BTreeSet Name) (es : List Event) (e : Event) (k : Name) (b : Bool) → k ≡ e.tag → UpdatesBy name_cmp (name_cmp k) s n b
    → (is_act e || is_rtn e) ≡ true → b ≡ is_act e → AreActive s es → AreActive n (es ++ e ∷ [])
moved s n es e k b own new moves is are a =
    let turned : eq_by_cmp name_cmp k a ≡ same_name a e.tag = ap (λ x. same_name x a) own ∙ (eq_by_cmp_equiv nat_list_cmp_total).symm e.tag a in
    grind (arith, new.0 a, turned, are a, active_of a es e)

-- an ACT of an alarm that is active leaves the set too
pub still_active : (s : BTreeSet Name) (es : List Event) (e : Event) → is_act e ≡ true → contains name_cmp s e.tag ≡ true → AreActive s es
    → AreActive s (es ++ e ∷ [])
still_active s es e act has are a =
    let same : same_name a e.tag ≡ true → a ≡ e.tag = λ t. same_names a e.tag (tied _ true t refl) in
    grind (arith, are a, are e.tag, active_of a es e, same)

-- the events up to one, and that one
taken_more : (events : List Event) (i : ℕ) (e : Event) → i < length events → e ≡ get_or events i e → take (i + 1) events ≡ take i events ++ e ∷ []
taken_more events i e lt is = take_more events i e lt ∙ ap (λ x. take i events ++ x ∷ []) (sym is)

pub active_more : (s : BTreeSet Name) (events : List Event) (i : ℕ) (e : Event) → i < length events → e ≡ get_or events i e
    → AreActive s (take i events ++ e ∷ []) → AreActive s (take (i + 1) events)
active_more s events i e lt is are = subst (AreActive s) (sym (taken_more events i e lt is)) are

pub moments_more : (events : List Event) (i : ℕ) (e : Event) (b : Bool) (old new : List ℕ) → i < length events → e ≡ get_or events i e
    → b ≡ is_activation_of (take i events) e
    → old ≡ map (λ e. e.moment) (activations_of_all (take i events)) → new ≡ old ++ cond b (e.moment ∷ []) []
    → new ≡ map (λ e. e.moment) (activations_of_all (take (i + 1) events))
moments_more events i e b old new lt is tells so_far grown =
    grind (
      arith,
      taken_more events i e lt is,
      passing-push is_activation_of [] (take i events) e,
      map-append (λ (x : Event). x.moment)
          (activations_of_all (take i events)) (e ∷ []),
      append-nil old,
      append-nil (activations_of_all (take i events)),
    )

-- of the first moments, those in a period
abbrev counted_in : List ℕ → ℕ → ℕ → ℕ → ℕ
counted_in ms start j i = count_by (λ m. is_in_period (start + 600 * i) m) (take j ms)

-- one moment more: each period's count grows by the moment's
pub counted_more : (ms old new : List ℕ) (start n k m d : ℕ) → k < length ms → m ≡ get_or ms k d → length ms ≤ 4294967295
    → length new ≡ length old
    → ((i : ℕ) → i < length old → get_or old i 0 < 4294967295 → get_or new i 0 ≡ get_or old i 0 + cond (is_in_period (start + 600 * i) m) 1 0)
    → old ≡ map (λ i. count_by (λ m. is_in_period (start + 600 * i) m) (take k ms)) (range_with_len 0 n)
    → new ≡ map (λ i. count_by (λ m. is_in_period (start + 600 * i) m) (take (k + 1) ms)) (range_with_len 0 n)
counted_more ms old new start n k m d lt is few long grown so_far =
    ext_get_or 0 new (map (counted_in ms start (k + 1)) (range_with_len 0 n))
    (long ∙ width ∙ sym (length-map-range_with_len (counted_in ms start (k + 1)) 0 n))
    (λ i below. at i (let b : i < length old = omega (arith, below, long) in b)) where
      width : length old ≡ n
      width = ap (λ l. length l) so_far ∙ length-map-range_with_len (counted_in ms start k) 0 n

      old_at : (i : ℕ) → i < n → get_or old i 0 ≡ counted_in ms start k i
      old_at i lt = ap (λ l. get_or l i 0) so_far ∙ get_or-map-range_with_len (counted_in ms start k) 0 n i i 0 lt (omega arith)

      few_at : (i : ℕ) → counted_in ms start k i < 4294967295
      few_at i = let le = count_by-le-length (λ m. is_in_period (start + 600 * i) m) (take k ms) in let short =
          length-take-le k ms (let w : k ≤ length ms = omega (arith, lt) in w) in omega (arith, le, short, lt, few)

      step : (i : ℕ) → counted_in ms start (k + 1) i ≡ counted_in ms start k i + cond (is_in_period (start + 600 * i) m) 1 0
      step i = grind (
        arith,
        count_by_more_yes (λ m. is_in_period (start + 600 * i) m) ms k d lt,
        count_by_more_no (λ m. is_in_period (start + 600 * i) m) ms k d
            lt,
      )

      at : (i : ℕ) → i < length old → get_or new i 0 ≡ get_or (map (counted_in ms start (k + 1)) (range_with_len 0 n)) i 0
      at i below =
          let inside : i < n = omega (arith, below, width) in
          let is_old = old_at i inside in
          let small : get_or old i 0 < 4294967295 = (let f = few_at i in omega (arith, f, is_old)) in
          grown i below small ∙ ap (λ x. x + cond (is_in_period (start + 600 * i) m) 1 0) is_old ∙ sym (step i)
          ∙ sym (get_or-map-range_with_len (counted_in ms start (k + 1)) 0 n i i 0 inside (omega arith))

-- none so far
pub counted_none : (ms zeros : List ℕ) (start n : ℕ) → zeros ≡ replicate n 0
    → zeros ≡ map (λ i. count_by (λ m. is_in_period (start + 600 * i) m) (take 0 ms)) (range_with_len 0 n)
counted_none ms zeros start n is = is ∙ splat_is_map (range_with_len 0 n) n 0 (length-range_with_len 0 n)

-- no more activations than events
few_passing : (test : List Event → Event → Bool) (before es : List Event) → length (passing test before es) ≤ length es
few_passing test before [] = omega arith
few_passing test before (e ∷ es) = grind (arith, few_passing test (before ++ e ∷ []) es)

fold_mapped : (p : ℕ → Bool) (a : ℕ) (es : List Event)
    → fold (λ n m. n + cond (p m) 1 0) a (map (λ e. e.moment) es) ≡ fold (λ n (e : Event). n + cond (p e.moment) 1 0) a es
fold_mapped p a [] = refl
fold_mapped p a (e ∷ es) = fold_mapped p (a + cond (p e.moment) 1 0) es

count_mapped : (p : ℕ → Bool) (es : List Event) → count_by p (map (λ e. e.moment) es) ≡ count_by (λ e. p e.moment) es
count_mapped p es = fold_mapped p 0 es

pub few_moments : (es : List Event) (moments : List ℕ) → moments ≡ map (λ e. e.moment) (activations_of_all es) → length es ≤ 4294967295
    → length moments ≤ 4294967295
few_moments es moments is few =
    let long : length moments ≡ length (activations_of_all es) = ap (λ l. length l) is
    ∙ length-map (activations_of_all es) (λ (e : Event). e.moment) in
    let less = few_passing is_activation_of [] es in
    omega (arith, long, less, few)

-- from a start and a number of periods that are those of the range
pub counts_at : (es : List Event) (moments counts : List ℕ) (begin until start periods : ℕ) → moments ≡ map (λ e. e.moment) (activations_of_all es)
    → start ≡ begin → periods ≡ (until - begin) / 600
    → counts ≡ map (λ i. count_by (λ m. is_in_period (start + 600 * i) m) moments) (range_with_len 0 periods) → counts ≡ period_counts es begin until
counts_at es moments counts begin until start periods is from long counted =
    counted ∙ (λ k. map (λ i. count_by (λ m. is_in_period (from k + 600 * i) m) (is k)) (range_with_len 0 (long k)))
    ∙ (λ k. map (λ i. count_mapped (λ m. is_in_period (begin + 600 * i) m) (activations_of_all es) k) (range_with_len 0 ((until - begin) / 600)))
