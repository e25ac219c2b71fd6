-- Each run of floods lies among the periods that are counted.
use Rattle.std.specs.List.{AllByRecursion, onto_first, range_with_len, slice_split}
use Rattle.std.proofs.Common.{arith, cond, get_or, refl, subst, sym, ◌∙◌, Bool, List, [], false, filter_map, length, not, true, ℕ, ◌*◌, ◌++◌, ◌+◌, ◌-◌, ◌/◌, ◌<◌, ◌∷◌, ◌≡◌, ◌≤◌}
use Rattle.std.proofs.lemmas.List.{length-map, length-append, Elements.{All-from_recursion}, FromFn.{length-range_with_len}}
use Rattle.plant_alarm.specs.declared.event.Event.{Event}
use Rattle.plant_floods.specs.{Activations.{activations_from, period_counts}, Floods.{Period, floods, period, periods_after, run_of}}
use Rattle.plant_floods.specs.declared.run.Run.{Run}

-- a part of the periods, below number n: the first part begins at number k
abbrev Begins : ℕ → ℕ → List Period → Type 0
Begins k n [] = Unit {0}
Begins k n (p ∷ ps) = (p.number ≡ k) × (k + length (p ∷ ps) ≤ n)

abbrev Inside : ℕ → List Period → Type 0
Inside n [] = Unit {0}
Inside n (p ∷ ps) = p.number + length (p ∷ ps) ≤ n

abbrev Parted : ℕ → ℕ → List (List Period) → Type 0
Parted k n [] = ⊥
Parted k n (q ∷ qs) = Begins k n q × AllByRecursion (Inside n) qs

begun : (k n : ℕ) (q : List Period) → Begins k n q → Inside n q
begun k n [] h = tt
begun k n (p ∷ ps) h = omega (arith, h.0, h.1)

onto : (k n : ℕ) (p : Period) (parts : List (List Period)) → p.number ≡ k → k + 1 ≤ n → Parted (k + 1) n parts → Parted k n (onto_first p parts)
onto k n p [] is le h = absurd h
onto k n p ([] ∷ qs) is le h = ((is, omega (arith, le)), h.1)
onto k n p ((r ∷ rs) ∷ qs) is le h = ((is, omega (arith, h.0.1)), h.1)

apart : (k n : ℕ) (parts : List (List Period)) → Parted (k + 1) n parts → Parted k n ([] ∷ parts)
apart k n [] h = absurd h
apart k n (q ∷ qs) h = (tt, (begun (k + 1) n q h.0, h.1))

abbrev is_out : Period → Bool
is_out p = not p.in_flood

parted : (before counts : List ℕ) (k n : ℕ) → k ≡ length before → k + length counts ≡ n
    → Parted k n (slice_split is_out (periods_after before counts))
parted before [] k n ek en = (tt, tt)
parted before (c ∷ counts) k n ek en =
    let p : Period = period before c in
    let long : length (before ++ c ∷ []) ≡ length before + 1 = omega (arith, length-append before (c ∷ [])) in
    let rest : Parted (k + 1) n (slice_split is_out (periods_after (before ++ c ∷ []) counts)) =
    parted (before ++ c ∷ []) counts (k + 1) n (omega (arith, ek, long)) (omega (arith, en)) in
    elim (is_out p) as (λ b. Parted k n (cond b ([]
    ∷ slice_split is_out (periods_after (before ++ c
    ∷ []) counts)) (onto_first p (slice_split is_out (periods_after (before ++ c ∷ []) counts))))) [
      | true ↦ apart k n _ rest
      | false ↦ onto k n p _ (sym ek) (omega (arith, en)) rest
    ]

-- a run goes from its first period to its last, which is one of n
abbrev pub IsWithin : ℕ → Run → Type 0
IsWithin n r = (r.first ≤ r.last) × (r.last < n)

runs_within : (n : ℕ) (parts : List (List Period)) → AllByRecursion (Inside n) parts → AllByRecursion (IsWithin n) (filter_map run_of parts)
runs_within n [] h = tt
runs_within n ([] ∷ qs) h = runs_within n qs h.1
runs_within n ((p ∷ ps) ∷ qs) h = ((omega arith, omega (arith, h.0)), runs_within n qs h.1)

all_inside : (k n : ℕ) (parts : List (List Period)) → Parted k n parts → AllByRecursion (Inside n) parts
all_inside k n [] h = absurd h
all_inside k n (q ∷ qs) h = (begun k n q h.0, h.1)

floods_within : (counts : List ℕ) → AllByRecursion (IsWithin (length counts)) (floods counts)
unfolding floods
floods_within counts = runs_within (length counts) _ (all_inside 0 (length counts) _ (parted [] counts 0 (length counts) refl (omega arith)))

counted : (es : List Event) (begin until : ℕ) → length (period_counts es begin until) ≡ (until - begin) / 600
counted es begin until = length-map (range_with_len 0 ((until - begin) / 600)) (λ i. activations_from es (begin + 600 * i))
    ∙ length-range_with_len 0 ((until - begin) / 600)

-- each run of a range ends within it
pub run_at : (es : List Event) (begin until : ℕ) (i : ℕ) (d : Run) → i < length (floods (period_counts es begin until))
    → IsWithin ((until - begin) / 600) (get_or (floods (period_counts es begin until)) i d)
run_at es begin until i d lt =
    subst (λ (n : ℕ). IsWithin n (get_or (floods (period_counts es begin until)) i d)) (counted es begin until)
    (All-from_recursion _ _ (floods_within (period_counts es begin until)) i d lt)

pub ends_within : (begin until : ℕ) (r : Run) → IsWithin ((until - begin) / 600) r → begin + 600 * r.last + 600 ≤ until
ends_within begin until r h = omega (arith, h.0, h.1)
