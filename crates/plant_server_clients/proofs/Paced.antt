-- Events of one turn, of no call, and of a turn before which none waits: each keeps what is owed.
use Rattle.std.proofs.Common.{◌≡◌, ◌≢◌, ◌⊎◌, ◌<◌, ◌≤◌, ◌+◌, ℕ, zero, suc, List, [], ◌∷◌, ◌++◌, Bool, true, false, cond, length, inl, inr}
use Rattle.std.proofs.Common.{None, Option, Some, refl, sym, ap, subst, ◌∙◌, append_assoc, arith, nat_eq, eq-eqb, eqb-true, length-append, slice_get, slice_set}
use Rattle.std.{specs.List.{remove}, proofs.lemmas.{Bool.{eqb-false}, Grind.{flat_map-append}}}
use Rattle.plant_server_clients.specs.{Books.{AreQuiet}, Causes.{Always, AreDue, last_of}}
use Rattle.plant_server_clients.specs.Events.{Event, all_calls, arrivals, arrivals_in, calls_for, calls_in, marks_of, of, who}
use Rattle.plant_server_clients.specs.{Accounts.{AtEachMoment}, Fairness.{HasWaited, IsFair, IsSteady, IsWaiting}, Happens.{AreOf, IsTurnOf}, Prompt.{ArePrompt}}
use Rattle.plant_server_clients.specs.Paces.{AreKept, AreRising, Came, IsBelow, IsPaced, IsStill, Keeps, Owes, Splits, numbers}
use Rattle.plant_server_clients.specs.Stages.{AreOpenConnections, Leads, Stage, fresh, served, connection_with, stage_of}
use Rattle.plant_server_clients.proofs.{Due.{due_then}, Numbers.{stage_at}, Leading.{leads_then}}
use Rattle.plant_server_clients.proofs.Waited.{WaitedOn, counted_of, open_of, leads_once, leads_parts, none_waits, waited_on, waits_before, waits_calm}
use Rattle.plant_server_clients.specs.declared.connections.Connection.{Connection}

-- Lists in two ways
abbrev pub Meets : {A : Type 0} → List A → List A → List A → List A → Type 0
Meets {A} es fs xs ys = ((gs : List A) × (es ≡ xs ++ gs) × (ys ≡ gs ++ fs)) ⊎ ((gs : List A) × (xs ≡ es ++ gs) × (fs ≡ gs ++ ys))

pub two_ways : {A : Type 0} (es fs xs ys : List A) → es ++ fs ≡ xs ++ ys → Meets es fs xs ys
two_ways [] fs xs ys e = inr (xs, refl, e)
two_ways (x ∷ es) fs [] ys e = inl (x ∷ es, refl, sym e)
two_ways (x ∷ es) fs (y ∷ xs) ys e =
    let head : x ≡ y = cc in
    let tail : es ++ fs ≡ xs ++ ys = cc in
    elim (two_ways es fs xs ys tail) as (λ _. Meets (x ∷ es) fs (y ∷ xs) ys) [
      | inl p ↦ inl (p.0, (λ i. head i ∷ p.1 i), p.2)
      | inr p ↦ inr (p.0, (λ i. sym head i ∷ p.1 i), p.2)
    ]

-- Calls
calls-append : (j : ℕ) (es fs : List Event) → length (calls_for j (es ++ fs)) ≡ length (calls_for j es) + length (calls_for j fs)
calls-append j es fs =
    ap length (flat_map-append (λ e. of j e (calls_in e)) es fs) ∙ length-append (calls_for j es) (calls_for j fs)

of_one : (j : ℕ) (e : Event) (b : Bool) → nat_eq (who e) j ≡ b → of j e (calls_in e) ≡ cond b (calls_in e) []
of_one j e b is = ap (λ t. cond t (calls_in e) []) is

other_calls : (m j : ℕ) (es : List Event) → AreOf m es → j ≢ m → length (calls_for j es) ≡ 0
other_calls m j [] own differ = refl
other_calls m j (e ∷ es) (is, own) differ = one (nat_eq (who e) j) refl (other_calls m j es own differ)
  where
    one : (b : Bool) → nat_eq (who e) j ≡ b → length (calls_for j es) ≡ 0 → length (of j e (calls_in e) ++ calls_for j es) ≡ 0
    one true same rest = absurd (differ (sym (eqb-true (who e) j same) ∙ is))
    one false same rest = ap (λ cs. length (cs ++ calls_for j es)) (of_one j e false same) ∙ rest

own_calls : (m : ℕ) (es : List Event) → AreOf m es → calls_for m es ≡ all_calls es
own_calls m [] own = refl
own_calls m (e ∷ es) (is, own) =
    ap (λ cs. cs ++ calls_for m es) (of_one m e true (eq-eqb (who e) m is)) ∙ ap (λ cs. calls_in e ++ cs) (own_calls m es own)

pub quiet_calls : (j : ℕ) (es : List Event) → AreQuiet es → length (calls_for j es) ≡ 0
quiet_calls j [] quiet = refl
quiet_calls j (e ∷ es) quiet =
    ap (λ cs. length (cond (nat_eq (who e) j) cs [] ++ calls_for j es)) quiet.0
    ∙ elim (nat_eq (who e) j) as (λ b. length (cond b [] [] ++ calls_for j es) ≡ 0) [
      | true ↦ quiet_calls j es quiet.2
      | false ↦ quiet_calls j es quiet.2
    ]

own_first : (m : ℕ) (es fs : List Event) → AreOf m (es ++ fs) → AreOf m es
own_first m [] fs own = tt
own_first m (e ∷ es) fs own = (own.0, own_first m es fs own.1)

own_last : (m : ℕ) (es fs : List Event) → AreOf m (es ++ fs) → AreOf m fs
own_last m [] fs own = own
own_last m (e ∷ es) fs own = own_last m es fs own.1

quiet_first : (es fs : List Event) → AreQuiet (es ++ fs) → AreQuiet es
quiet_first [] fs quiet = tt
quiet_first (e ∷ es) fs quiet = (quiet.0, quiet.1, quiet_first es fs quiet.2)

quiet_last : (es fs : List Event) → AreQuiet (es ++ fs) → AreQuiet fs
quiet_last [] fs quiet = quiet
quiet_last (e ∷ es) fs quiet = quiet_last es fs quiet.2

pub nothing_owed : (b k j n : ℕ) → n ≡ 0 → Owes b k j n
nothing_owed b k j n none = record { one = omega arith; between = λ _ _. none; early = λ _ _. none; above = λ _ _. none }

-- what is owed at a moment, and so at each moment
abbrev At : (ℕ → ℕ → ℕ → Type 0) → List Event → Type 0
At goal now = (es since : List Event) (k j : ℕ) → now ≡ es ++ since → j ≢ k → HasWaited k es since → goal k j (length (calls_for j since))

pub fair_of : (b : ℕ) (now : List Event) → IsPaced b now → IsFair now
fair_of b now paced es since k j is apart waited = (paced es since k j is apart waited).one

-- it was fair at each moment, and is at each moment of what follows
then_fair : (es fs : List Event) → AtEachMoment IsFair es → ((gs hs : List Event) → fs ≡ gs ++ hs → IsFair (es ++ gs))
    → AtEachMoment IsFair (es ++ fs)
then_fair es fs before after xs ys is = elim (two_ways es fs xs ys is) as (λ _. IsFair xs) [
  | inl p ↦ before xs p.0 p.1
  | inr p ↦ subst IsFair (sym p.1) (after p.0 ys p.2)
]

-- Things that came
arrive-append : (es fs : List Event) → length (arrivals (es ++ fs)) ≡ length (arrivals es) + length (arrivals fs)
arrive-append es fs = ap length (flat_map-append arrivals_in es fs) ∙ length-append (arrivals es) (arrivals fs)

few_came : (es fs : List Event) → length (arrivals (es ++ fs)) ≤ 1 → length (arrivals es) ≤ 1
few_came es fs few = omega (arith, arrive-append es fs)

none_came : (es fs : List Event) → length (arrivals (es ++ fs)) ≡ 0 → length (arrivals es) ≡ 0
none_came es fs none = omega (arith, arrive-append es fs)

abbrev StillAt : (ℕ → ℕ → Type 0) → List Event → Type 0
StillAt goal now = (es since : List Event) (k : ℕ) → now ≡ es ++ since → HasWaited k es since → goal k (length (arrivals since))

-- whoever waits has waited since before these events, or since one of them
still_then : (goal : ℕ → ℕ → Type 0) (es fs : List Event)
    → ((xs gs : List Event) (k : ℕ) → es ≡ xs ++ gs → HasWaited k xs (gs ++ fs) → goal k (length (arrivals gs) + length (arrivals fs)))
    → ((gs since : List Event) (k : ℕ) → fs ≡ gs ++ since → HasWaited k (es ++ gs) since → goal k (length (arrivals since)))
    → StillAt goal (es ++ fs)
still_then goal es fs before within xs since k is waited =
    elim (two_ways es fs xs since is) as (λ _. goal k (length (arrivals since))) [
      | inl p ↦
          let on = subst (λ (ys : List Event). HasWaited k xs ys) p.2 waited in
          subst (goal k) (sym (ap (λ ys. length (arrivals ys)) p.2 ∙ arrive-append p.0 fs)) (before xs p.0 k p.1 on)
      | inr p ↦ within p.0 since k p.2 (subst (λ (ys : List Event). HasWaited k ys since) p.1 waited)
    ]

pub steady_of : (b : ℕ) (now : List Event) → IsStill b now → IsSteady now
steady_of b now still es since k is waited = (still es since k is waited).one

then_steady : (es fs : List Event) → AtEachMoment IsSteady es → ((gs hs : List Event) → fs ≡ gs ++ hs → IsSteady (es ++ gs))
    → AtEachMoment IsSteady (es ++ fs)
then_steady es fs before after xs ys is = elim (two_ways es fs xs ys is) as (λ _. IsSteady xs) [
  | inl p ↦ before xs p.0 p.1
  | inr p ↦ subst IsSteady (sym p.1) (after p.0 ys p.2)
]

quiet_still : (b : ℕ) (es fs : List Event) → IsStill b es → length (arrivals fs) ≡ 0 → IsStill b (es ++ fs)
quiet_still b es fs still none =
    still_then (Came b) es fs
    (λ xs gs k is waited.
    let came = still xs gs k is (waited_on k xs gs fs waited).waited in
    record { one = omega (arith, came.one); none = λ le. omega (arith, came.none le) })
    (λ gs since k is waited.
    let calm = ap (λ ys. length (arrivals ys)) is ∙ arrive-append gs since in
    record { one = omega arith; none = λ _. omega arith })

-- where none of them had its turn at most one thing may come
come_steady : (es fs : List Event) → IsStill 0 es → length (arrivals fs) ≤ 1 → IsSteady (es ++ fs)
come_steady es fs still few =
    still_then (λ k n. n ≤ 1) es fs
    (λ xs gs k is waited.
    let came = still xs gs k is (waited_on k xs gs fs waited).waited in
    let none = came.none (omega arith) in
    omega arith)
    (λ gs since k is waited. let all = ap (λ ys. length (arrivals ys)) is ∙ arrive-append gs since in omega arith)

-- no call was made
quiet_paced : (b : ℕ) (es fs : List Event) → IsPaced b es → AreQuiet fs → IsPaced b (es ++ fs)
quiet_paced b es fs paced quiet xs since k j is apart waited =
    elim (two_ways es fs xs since is) as (λ _. Owes b k j (length (calls_for j since))) [
      | inl p ↦
          let on = waited_on k xs p.0 fs (subst (λ (ys : List Event). HasWaited k xs ys) p.2 waited) in
          let same : length (calls_for j since) ≡ length (calls_for j p.0) =
          ap (λ ys. length (calls_for j ys)) p.2 ∙ calls-append j p.0 fs ∙ omega (arith, quiet_calls j fs quiet) in
          subst (Owes b k j) (sym same) (paced xs p.0 k j p.1 apart on.waited)
      | inr p ↦ nothing_owed b k j _ (quiet_calls j since (quiet_last p.0 since (subst AreQuiet p.2 quiet)))
    ]

-- there is a cause for what is closed, if this is given of what was before
abbrev DueAfter : (Option Event → Type 0) → List Event → Type 0
DueAfter given fs = (before : Option Event) → given before → AreDue before fs

then_due : (given : Option Event → Type 0) (b : ℕ) (es fs : List Event) → given (last_of None es) → AreKept b es → DueAfter given fs
    → AreDue None (es ++ fs)
then_due given b es fs now kept due = due_then None es fs kept.due (due (last_of None es) now)

pub quiet_keeps : (given : Option Event → Type 0) (b : ℕ) (stages : ℕ → Stage) (fs : List Event) → AreQuiet fs → length (arrivals fs) ≡ 0
    → DueAfter given fs → Keeps given b b stages fs
quiet_keeps given b stages fs quiet none due es now leads kept = record {
  due = then_due given b es fs now kept due;
  still = quiet_still b es fs kept.still none;
  steady = then_steady es fs kept.steady (λ gs hs e.
      steady_of b (es ++ gs)
      (quiet_still b es gs kept.still (none_came gs hs (subst (λ (ys : List Event). length (arrivals ys) ≡ 0) e none))));
  paced = quiet_paced b es fs kept.paced quiet;
  fair = then_fair es fs kept.fair (λ gs hs e. fair_of b (es ++ gs) (quiet_paced b es gs kept.paced (quiet_first gs hs (subst AreQuiet e quiet))));
}

-- before the events of one connection none waited
alone_paced : (b m : ℕ) (es fs : List Event) → ((k : ℕ) → IsWaiting k es → ⊥) → AreOf m fs → IsPaced b (es ++ fs)
alone_paced b m es fs none own xs since k j is apart waited =
    elim (two_ways es fs xs since is) as (λ _. Owes b k j (length (calls_for j since))) [
      | inl p ↦
          let on = waited_on k xs p.0 fs (subst (λ (ys : List Event). HasWaited k xs ys) p.2 waited) in
          absurd (none k (subst (IsWaiting k) (sym p.1) on.waited.1))
      | inr p ↦ one p.0 p.1 p.2 (nat_eq j m) refl
    ]
  where
    one : (gs : List Event) → xs ≡ es ++ gs → fs ≡ gs ++ since → (t : Bool) → nat_eq j m ≡ t → Owes b k j (length (calls_for j since))
    one gs before after true same =
        let differ : m ≡ k → ⊥ = λ w. apart (eqb-true j m same ∙ w) in
        absurd
        (none k
        (waits_before k m es gs (own_first m gs since (subst (AreOf m) after own)) differ (subst (IsWaiting k) before waited.0)))
    one gs before after false same =
        nothing_owed b k j _ (other_calls m j since (own_last m gs since (subst (AreOf m) after own)) (eqb-false j m same))

alone_still : (b m : ℕ) (es fs : List Event) → ((k : ℕ) → IsWaiting k es → ⊥) → AreOf m fs → IsStill b (es ++ fs)
alone_still b m es fs none own =
    still_then (Came b) es fs
    (λ xs gs k is waited. absurd (none k (subst (IsWaiting k) (sym is) (waited_on k xs gs fs waited).waited.1)))
    (λ gs since k is waited. one gs since k is waited (nat_eq m k) refl)
  where
    one : (gs since : List Event) (k : ℕ) → fs ≡ gs ++ since → HasWaited k (es ++ gs) since → (t : Bool) → nat_eq m k ≡ t
        → Came b k (length (arrivals since))
    one gs since k is waited true same =
        let owned = subst (λ (i : ℕ). AreOf i since) (eqb-true m k same) (own_last m gs since (subst (AreOf m) is own)) in
        let calm = waits_calm k (es ++ gs) since waited owned in
        record { one = omega arith; none = λ _. calm }
    one gs since k is waited false same =
        absurd (none k (waits_before k m es gs (own_first m gs since (subst (AreOf m) is own)) (eqb-false m k same) waited.0))

pub alone_keeps : (given : Option Event → Type 0) (b c m : ℕ) (count : ℕ) (ls : List Connection) (fs : List Event) → ArePrompt ls → AreOf m fs
    → DueAfter given fs → Keeps given b c (λ k. stage_of k count ls) fs
alone_keeps given b c m count ls fs are own due es now leads kept =
    let none = none_waits count ls es leads are in
    record {
      due = then_due given b es fs now kept due;
      paced = alone_paced c m es fs none own;
      still = alone_still c m es fs none own;
      steady = then_steady es fs kept.steady (λ gs hs e.
          steady_of c (es ++ gs) (alone_still c m es gs none (own_first m gs hs (subst (AreOf m) e own))));
      fair = then_fair es fs kept.fair (λ gs hs e. fair_of c (es ++ gs) (alone_paced c m es gs none (own_first m gs hs (subst (AreOf m) e own))));
    }

-- One turn of the connection m, where those that wait come before it, or had their turn
module _ (b m : ℕ) (es fs : List Event) (paced : IsPaced b es) (own : AreOf m fs) (once : length (all_calls fs) ≤ 1) (below : m < b)
    (placed : (k : ℕ) → IsWaiting k es → k ≢ m → (k < m) ⊎ (b ≤ k)) where
  owed_other : (k j n : ℕ) → (k < m) ⊎ (b ≤ k) → Owes b k j n → Owes m k j n
  owed_other k j n (inl lt) owes = record {
    one = owes.one;
    between = λ p q. owes.between p (omega arith);
    early = λ p q. absurd (omega arith);
    above = λ p q. absurd (omega arith);
  }
  owed_other k j n (inr le) owes = record {
    one = owes.one;
    between = λ p q. absurd (omega arith);
    early = λ p q. owes.early le (omega arith);
    above = λ p q. owes.above le q;
  }

  none_yet : (k n : ℕ) → (k < m) ⊎ (b ≤ k) → Owes b k m n → n ≡ 0
  none_yet k n (inl lt) owes = owes.between lt below
  none_yet k n (inr le) owes = owes.early le below

  owed_own : (k n : ℕ) → (k < m) ⊎ (b ≤ k) → n ≤ 1 → Owes m k m n
  owed_own k n (inl lt) few = record {
    one = few;
    between = λ p q. absurd (omega arith);
    early = λ p q. absurd (omega arith);
    above = λ p q. absurd (omega arith);
  }
  owed_own k n (inr le) few = record {
    one = few;
    between = λ p q. absurd (omega arith);
    early = λ p q. absurd (omega arith);
    above = λ p q. absurd (omega arith);
  }

  module _ (goal : ℕ → ℕ → ℕ → Type 0) (put : (k j n : ℕ) → Owes m k j n → goal k j n)
      (still : (j n : ℕ) → Owes b m j n → IsWaiting m es → marks_of m fs ≡ [] → IsWaiting m (es ++ fs) → goal m j n) where
    -- k waited before the turn
    waited_before : (xs gs : List Event) (k j : ℕ) → es ≡ xs ++ gs → j ≢ k → HasWaited k xs (gs ++ fs)
        → goal k j (length (calls_for j (gs ++ fs)))
    waited_before xs gs k j is apart waited = by_k (nat_eq k m) refl
      where
        on : WaitedOn k xs gs fs
        on = waited_on k xs gs fs waited

        owes : Owes b k j (length (calls_for j gs))
        owes = paced xs gs k j is apart on.waited

        now : IsWaiting k es
        now = subst (IsWaiting k) (sym is) on.waited.1

        end : IsWaiting k (es ++ fs)
        end = subst (IsWaiting k) (sym (append_assoc xs gs fs) ∙ ap (λ ys. ys ++ fs) (sym is)) waited.1

        no_more : j ≢ m → length (calls_for j (gs ++ fs)) ≡ length (calls_for j gs)
        no_more differ = let none = other_calls m j fs own differ in calls-append j gs fs ∙ omega arith

        by_j : k ≢ m → (t : Bool) → nat_eq j m ≡ t → goal k j (length (calls_for j (gs ++ fs)))
        by_j differ true same =
            let is_m = eqb-true j m same in
            let none = none_yet k (length (calls_for m gs)) (placed k now differ)
            (subst (λ (i : ℕ). Owes b k i (length (calls_for i gs))) is_m owes) in
            let few : length (calls_for m (gs ++ fs)) ≤ 1 = omega (arith, calls-append m gs fs, ap length (own_calls m fs own), none, once) in
            subst (λ (i : ℕ). goal k i (length (calls_for i (gs ++ fs)))) (sym is_m) (put k m _ (owed_own k _ (placed k now differ) few))
        by_j differ false same =
            subst (goal k j) (sym (no_more (eqb-false j m same))) (put k j _ (owed_other k j _ (placed k now differ) owes))

        by_k : (t : Bool) → nat_eq k m ≡ t → goal k j (length (calls_for j (gs ++ fs)))
        by_k true same =
            let is_m = eqb-true k m same in
            subst (goal k j) (sym (no_more (λ w. apart (w ∙ sym is_m))))
            (subst (λ (i : ℕ). goal i j (length (calls_for j gs))) (sym is_m)
            (still j _ (subst (λ (i : ℕ). Owes b i j (length (calls_for j gs))) is_m owes) (subst (λ (i : ℕ). IsWaiting i es) is_m now)
            (subst (λ (i : ℕ). marks_of i fs ≡ []) is_m on.none_then)
            (subst (λ (i : ℕ). IsWaiting i (es ++ fs)) is_m end)))
        by_k false same = by_j (eqb-false k m same) (nat_eq j m) refl

    -- k waits since some event of the turn
    waited_within : (xs gs since : List Event) (k j : ℕ) → xs ≡ es ++ gs → fs ≡ gs ++ since → j ≢ k → IsWaiting k xs
        → goal k j (length (calls_for j since))
    waited_within xs gs since k j before after apart waiting = by_j (nat_eq j m) refl
      where
        by_j : (t : Bool) → nat_eq j m ≡ t → goal k j (length (calls_for j since))
        by_j true same =
            let is_m = eqb-true j m same in
            let differ : m ≡ k → ⊥ = λ w. apart (is_m ∙ w) in
            let now = waits_before k m es gs (own_first m gs since (subst (AreOf m) after own)) differ (subst (IsWaiting k) before waiting) in
            let all = ap length (sym (own_calls m fs own) ∙ ap (calls_for m) after) ∙ calls-append m gs since in
            let few : length (calls_for m since) ≤ 1 = omega (arith, all, once) in
            subst (λ (i : ℕ). goal k i (length (calls_for i since))) (sym is_m)
            (put k m _ (owed_own k _ (placed k now (λ w. differ (sym w))) few))
        by_j false same =
            put k j _ (nothing_owed m k j _ (other_calls m j since (own_last m gs since (subst (AreOf m) after own)) (eqb-false j m same)))

    turn_at_end : At goal (es ++ fs)
    turn_at_end xs since k j is apart waited =
        elim (two_ways es fs xs since is) as (λ _. goal k j (length (calls_for j since))) [
          | inl p ↦ subst (λ (ys : List Event). goal k j (length (calls_for j ys))) (sym p.2)
              (waited_before xs p.0 k j p.1 apart (subst (λ (ys : List Event). HasWaited k xs ys) p.2 waited))
          | inr p ↦ waited_within xs p.0 since k j p.1 p.2 apart waited.0
        ]

  turn_fair : IsFair (es ++ fs)
  turn_fair = turn_at_end (λ k j n. n ≤ 1) (λ k j n owes. owes.one) (λ j n owes _ _ _. owes.one)

  turn_paced : (IsWaiting m es → marks_of m fs ≡ [] → IsWaiting m (es ++ fs) → ⊥) → IsPaced m (es ++ fs)
  turn_paced answered = turn_at_end (Owes m) (λ k j n owes. owes) (λ j n owes now none end. absurd (answered now none end))

-- one turn of the connection m, in which nothing came
turn_still : (b m : ℕ) (es fs : List Event) → IsStill b es → length (arrivals fs) ≡ 0 → AreOf m fs
    → ((k : ℕ) → IsWaiting k es → k ≢ m → (k < m) ⊎ (b ≤ k)) → (IsWaiting m es → marks_of m fs ≡ [] → IsWaiting m (es ++ fs) → ⊥)
    → IsStill m (es ++ fs)
turn_still b m es fs still calm own placed answered =
    still_then (Came m) es fs (λ xs gs k is waited. by_k xs gs k is waited (nat_eq k m) refl)
    (λ gs since k is waited.
    let all = ap (λ ys. length (arrivals ys)) is ∙ arrive-append gs since in
    record { one = omega arith; none = λ _. omega arith })
  where
    by_k : (xs gs : List Event) (k : ℕ) → es ≡ xs ++ gs → HasWaited k xs (gs ++ fs) → (t : Bool) → nat_eq k m ≡ t
        → Came m k (length (arrivals gs) + length (arrivals fs))
    by_k xs gs k is waited true same =
        let on = waited_on k xs gs fs waited in
        let is_m = eqb-true k m same in
        let end = subst (IsWaiting k) (sym (append_assoc xs gs fs) ∙ ap (λ ys. ys ++ fs) (sym is)) waited.1 in
        absurd
        (answered (subst (λ (i : ℕ). IsWaiting i es) is_m (subst (IsWaiting k) (sym is) on.waited.1))
        (subst (λ (i : ℕ). marks_of i fs ≡ []) is_m on.none_then)
        (subst (λ (i : ℕ). IsWaiting i (es ++ fs)) is_m end))
    by_k xs gs k is waited false same =
        let on = waited_on k xs gs fs waited in
        let came = still xs gs k is on.waited in
        record {
          one = omega (arith, came.one);
          none = λ le.
              elim (placed k (subst (IsWaiting k) (sym is) on.waited.1) (eqb-false k m same)) as
              (λ _. length (arrivals gs) + length (arrivals fs) ≡ 0) [
                | inl lt ↦ absurd (omega arith)
                | inr beyond ↦ omega (arith, came.none beyond)
              ];
        }

few_first : (es fs : List Event) → length (all_calls (es ++ fs)) ≤ 1 → length (all_calls es) ≤ 1
few_first es fs few =
    omega (arith, few, ap length (flat_map-append calls_in es fs), length-append (all_calls es) (all_calls fs))

-- Places of numbers
below_at : (n : ℕ) (ls : List Connection) (at : ℕ) (l : Connection) → IsBelow n (numbers ls) → slice_get ls at ≡ Some l → n < l.number
below_at n [] at l below is = cc
below_at n (x ∷ ls) zero l below is = let e : x ≡ l = cc in subst (λ (y : Connection). n < y.number) e below.0
below_at n (x ∷ ls) (suc at) l below is = below_at n ls at l below.1 is

pub from_at : (b k : ℕ) (ls : List Connection) (x : Connection) → Splits b zero (numbers ls) → connection_with k ls ≡ Some x → b ≤ k
from_at b k [] x splits is = cc
from_at b k (y ∷ ls) x splits is = go (nat_eq y.number k) refl (from_at b k ls x splits.1) is
  where
    go : (t : Bool) → nat_eq y.number k ≡ t → (connection_with k ls ≡ Some x → b ≤ k) → cond t (Some y) (connection_with k ls) ≡ Some x → b ≤ k
    go true e later found = subst (λ (n : ℕ). b ≤ n) (eqb-true y.number k e) splits.0
    go false e later found = later found

pub placed_at : (b at k : ℕ) (ls : List Connection) (l x : Connection) → Splits b (suc at) (numbers ls) → AreRising (numbers ls) → slice_get ls at ≡ Some l
    → connection_with k ls ≡ Some x → k ≢ l.number → (k < l.number) ⊎ (b ≤ k)
placed_at b at k [] l x splits rising is found differ = cc
placed_at b zero k (y ∷ ls) l x splits rising is found differ = go (nat_eq y.number k) refl found
  where
    go : (t : Bool) → nat_eq y.number k ≡ t → cond t (Some y) (connection_with k ls) ≡ Some x → (k < l.number) ⊎ (b ≤ k)
    go true e now = let same : y ≡ l = cc in absurd (differ (sym (eqb-true y.number k e) ∙ ap (λ (z : Connection). z.number) same))
    go false e now = inr (from_at b k ls x splits.1 now)
placed_at b (suc at) k (y ∷ ls) l x splits rising is found differ =
    go (nat_eq y.number k) refl (λ now. placed_at b at k ls l x splits.1 rising.1 is now differ) found
  where
    go : (t : Bool) → nat_eq y.number k ≡ t → (connection_with k ls ≡ Some x → (k < l.number) ⊎ (b ≤ k))
        → cond t (Some y) (connection_with k ls) ≡ Some x → (k < l.number) ⊎ (b ≤ k)
    go true e later now = inl (subst (λ (n : ℕ). n < l.number) (eqb-true y.number k e) (below_at y.number ls at l rising.0 is))
    go false e later now = later now

below_bound : (b at : ℕ) (ls : List Connection) (l : Connection) → Splits b (suc at) (numbers ls) → slice_get ls at ≡ Some l → l.number < b
below_bound b at [] l splits is = cc
below_bound b zero (y ∷ ls) l splits is = let e : y ≡ l = cc in subst (λ (z : Connection). z.number < b) e splits.0
below_bound b (suc at) (y ∷ ls) l splits is = below_bound b at ls l splits.1 is

all_above : (n : ℕ) (ns : List ℕ) → IsBelow n ns → Splits n zero ns
all_above n [] below = tt
all_above n (m ∷ ns) below = (omega (arith, below.0), all_above n ns below.1)

pub splits_here : (ls : List Connection) (at : ℕ) (l : Connection) → AreRising (numbers ls) → slice_get ls at ≡ Some l → Splits l.number at (numbers ls)
splits_here [] at l rising is = tt
splits_here (y ∷ ls) zero l rising is =
    let e : y ≡ l = cc in
    subst (λ (z : Connection). Splits z.number zero (numbers (y ∷ ls))) e (omega arith, all_above y.number (numbers ls) rising.0)
splits_here (y ∷ ls) (suc at) l rising is = (below_at y.number ls at l rising.0 is, splits_here ls at l rising.1 is)

pub splits_removed : (b : ℕ) (ns : List ℕ) (at : ℕ) → Splits b at ns → Splits b at (remove ns at)
splits_removed b [] zero splits = tt
splits_removed b [] (suc at) splits = tt
splits_removed b (n ∷ ns) zero splits = splits.1
splits_removed b (n ∷ ns) (suc at) splits = (splits.0, splits_removed b ns at splits.1)

pub splits_past : (b at : ℕ) (ns : List ℕ) → length ns ≤ at → Splits b (suc at) ns → Splits b at ns
splits_past b at [] past splits = tt
splits_past b zero (n ∷ ns) past splits = absurd (omega arith)
splits_past b (suc at) (n ∷ ns) past splits = (splits.0, splits_past b at ns (omega arith) splits.1)

pub numbers_length : (ls : List Connection) → length (numbers ls) ≡ length ls
numbers_length [] = refl
numbers_length (l ∷ ls) = ap suc (numbers_length ls)

pub got : (ls : List Connection) (at : ℕ) → at < length ls → (l : Connection) × (slice_get ls at ≡ Some l)
got [] at lt = absurd (omega arith)
got (l ∷ ls) zero lt = (l, refl)
got (l ∷ ls) (suc at) lt = got ls at (omega arith)

pub splits_start : (count : ℕ) (ls : List Connection) → AreOpenConnections count ls → Splits count (length ls) (numbers ls)
splits_start count [] ok = tt
splits_start count (l ∷ ls) ok = (ok.0, splits_start count ls ok.3)

pub below_removed : (n : ℕ) (ns : List ℕ) (at : ℕ) → IsBelow n ns → IsBelow n (remove ns at)
below_removed n [] zero below = tt
below_removed n [] (suc at) below = tt
below_removed n (m ∷ ns) zero below = below.1
below_removed n (m ∷ ns) (suc at) below = (below.0, below_removed n ns at below.1)

pub rising_removed : (ns : List ℕ) (at : ℕ) → AreRising ns → AreRising (remove ns at)
rising_removed [] zero rising = tt
rising_removed [] (suc at) rising = tt
rising_removed (n ∷ ns) zero rising = rising.1
rising_removed (n ∷ ns) (suc at) rising = (below_removed n ns at rising.0, rising_removed ns at rising.1)

pub numbers_set : (ls : List Connection) (at : ℕ) (l l' : Connection) → slice_get ls at ≡ Some l → l'.number ≡ l.number
    → numbers (slice_set ls at l') ≡ numbers ls
numbers_set [] at l l' is same = refl
numbers_set (x ∷ ls) zero l l' is same =
    let e : x ≡ l = cc in ap (λ n. n ∷ numbers ls) (same ∙ ap (λ (y : Connection). y.number) (sym e))
numbers_set (x ∷ ls) (suc at) l l' is same = ap (λ ns. x.number ∷ ns) (numbers_set ls at l l' is same)

pub numbers_removed : (ls : List Connection) (at : ℕ) → numbers (remove ls at) ≡ remove (numbers ls) at
numbers_removed [] zero = refl
numbers_removed [] (suc at) = refl
numbers_removed (x ∷ ls) zero = refl
numbers_removed (x ∷ ls) (suc at) = ap (λ ns. x.number ∷ ns) (numbers_removed ls at)

below_pushed : (n : ℕ) (ls : List Connection) (l : Connection) → IsBelow n (numbers ls) → n < l.number → IsBelow n (numbers (ls ++ l ∷ []))
below_pushed n [] l below lt = (lt, tt)
below_pushed n (x ∷ ls) l below lt = (below.0, below_pushed n ls l below.1 lt)

pub rising_pushed : (count : ℕ) (ls : List Connection) (l : Connection) → AreOpenConnections count ls → AreRising (numbers ls) → l.number ≡ count
    → AreRising (numbers (ls ++ l ∷ []))
rising_pushed count [] l ok rising is = (tt, tt)
rising_pushed count (x ∷ ls) l ok rising is =
    (below_pushed x.number ls l rising.0 (omega (arith, ok.0, is)), rising_pushed count ls l ok.3 rising.1 is)

pub rising_start : (ls : List Connection) → ls ≡ [] → AreRising (numbers ls)
rising_start [] e = tt
rising_start (x ∷ ls) e = cc

-- One turn of the connection at a place
pub turn_keeps : (b at count : ℕ) (ls : List Connection) (l : Connection) (fs : List Event) → AreOpenConnections count ls → AreRising (numbers ls)
    → slice_get ls at ≡ Some l → Splits b (suc at) (numbers ls) → IsTurnOf l false true fs → Keeps Always b l.number (λ k. stage_of k count ls) fs
turn_keeps b at count ls l fs ok rising is splits one es now leads kept =
    let below = below_bound b at ls l splits is in
    record {
      due = then_due Always b es fs now kept (λ before _. one.due before);
      paced = turn_paced b l.number es fs kept.paced one.own one.once below placed answered;
      still = turn_still b l.number es fs kept.still (one.arrives.none refl) one.own placed answered;
      steady = then_steady es fs kept.steady (λ gs hs e.
          steady_of b (es ++ gs)
          (quiet_still b es gs kept.still
          (none_came gs hs (subst (λ (ys : List Event). length (arrivals ys) ≡ 0) e (one.arrives.none refl)))));
      fair = then_fair es fs kept.fair (λ gs hs e.
          turn_fair b l.number es gs kept.paced (own_first l.number gs hs (subst (AreOf l.number) e one.own))
          (few_first gs hs (subst (λ (ys : List Event). length (all_calls ys) ≤ 1) e one.once))
          below placed);
    }
  where
    placed : (k : ℕ) → IsWaiting k es → k ≢ l.number → (k < l.number) ⊎ (b ≤ k)
    placed k (u, at_it, busy) differ =
        let it = open_of k count ls u [] (leads_once k fresh (stage_of k count ls) (served u []) es (leads k) at_it) in
        placed_at b at k ls l it.0 splits rising is it.1 differ

    answered : IsWaiting l.number es → marks_of l.number fs ≡ [] → IsWaiting l.number (es ++ fs) → ⊥
    answered (u, at_it, busy) none (v, all, still_busy) =
        let here = stage_at count ls at l ok is in
        let stage = sym here ∙ leads_once l.number fresh (stage_of l.number count ls) (served u []) es (leads l.number) at_it in
        let halves = leads_parts l.number fresh (served v []) es fs all in
        let mid = leads_once l.number fresh halves.0 (stage_of l.number count ls) es halves.1 (leads l.number) ∙ here in
        one.answers refl u stage busy none v (subst (λ (t : Stage). Leads l.number t fs (served v [])) mid halves.2)

-- before a turn of all connections none had its own, and one thing may come
pub come_keeps : (given : Option Event → Type 0) (count : ℕ) (ls : List Connection) (first : ℕ → Stage) (fs : List Event) → AreQuiet fs
    → length (arrivals fs) ≤ 1 → ((k : ℕ) → Leads k (first k) fs (stage_of k count ls)) → DueAfter given fs → Keeps given 0 count first fs
come_keeps given count ls first fs quiet few goes due es now leads kept = record {
  due = then_due given 0 es fs now kept due;
  paced = paced;
  still = still;
  fair = then_fair es fs kept.fair (λ gs hs e. fair_of 0 (es ++ gs) (quiet_paced 0 es gs kept.paced (quiet_first gs hs (subst AreQuiet e quiet))));
  steady = then_steady es fs kept.steady (λ gs hs e.
      come_steady es gs kept.still (few_came gs hs (subst (λ (ys : List Event). length (arrivals ys) ≤ 1) e few)));
}
  where
    counted : (k : ℕ) → IsWaiting k (es ++ fs) → k < count
    counted k now =
        let all = leads_then k fresh (first k) (stage_of k count ls) es fs (leads k) (goes k) in
        counted_of k count ls now.0 [] (leads_once k fresh (stage_of k count ls) (served now.0 []) (es ++ fs) all now.1)

    paced : IsPaced count (es ++ fs)
    paced xs since k j is apart waited =
        let owes = quiet_paced 0 es fs kept.paced quiet xs since k j is apart waited in
        let lt = counted k (subst (IsWaiting k) (sym is) waited.1) in
        record {
          one = owes.one;
          between = λ p q. owes.above (omega arith) p;
          early = λ p q. absurd (omega arith);
          above = λ p q. absurd (omega arith);
        }

    still : IsStill count (es ++ fs)
    still xs since k is waited =
        let lt = counted k (subst (IsWaiting k) (sym is) waited.1) in
        record { one = come_steady es fs kept.still few xs since k is waited; none = λ le. absurd (omega arith) }

-- after it all had
pub keeps_end : (given : Option Event → Type 0) (a b count : ℕ) (ls : List Connection) (first : ℕ → Stage) (es : List Event)
    → ((k : ℕ) → Leads k (first k) es (stage_of k count ls)) → Splits b zero (numbers ls) → Keeps given a b first es → Keeps given a 0 first es
keeps_end given a b count ls first es goes splits p before it leads kept =
    record { paced = paced; still = still; fair = after.fair; steady = after.steady; due = after.due }
  where
    after : AreKept b (before ++ es)
    after = p before it leads kept

    reached : (k : ℕ) → IsWaiting k (before ++ es) → b ≤ k
    reached k now =
        let all = leads_then k fresh (first k) (stage_of k count ls) before es (leads k) (goes k) in
        let it = open_of k count ls now.0 [] (leads_once k fresh (stage_of k count ls) (served now.0 []) (before ++ es) all now.1) in
        from_at b k ls it.0 splits it.1

    still : IsStill 0 (before ++ es)
    still xs since k is waited =
        let came = after.still xs since k is waited in
        record { one = came.one; none = λ _. came.none (reached k (subst (IsWaiting k) (sym is) waited.1)) }

    paced : IsPaced 0 (before ++ es)
    paced xs since k j is apart waited =
        let owes = after.paced xs since k j is apart waited in
        let now = subst (IsWaiting k) (sym is) waited.1 in
        let all = leads_then k fresh (first k) (stage_of k count ls) before es (leads k) (goes k) in
        let it = open_of k count ls now.0 [] (leads_once k fresh (stage_of k count ls) (served now.0 []) (before ++ es) all now.1) in
        let le = from_at b k ls it.0 splits it.1 in
        record {
          one = owes.one;
          between = λ p q. absurd (omega arith);
          early = λ p q. absurd (omega arith);
          above = λ p q. owes.above le q;
        }

pub keeps_then : (given next_given : Option Event → Type 0) (a b c : ℕ) (first next : ℕ → Stage) (es fs : List Event)
    → ((k : ℕ) → Leads k (first k) es (next k)) → Keeps given a b first es
    → ((before : List Event) → given (last_of None before) → ((k : ℕ) → Leads k fresh (before ++ es) (next k)) → next_given (last_of None (before ++ es)))
    → Keeps next_given b c next fs → Keeps given a c first (es ++ fs)
keeps_then given next_given a b c first next es fs goes p gives q before now leads kept =
    let all : (k : ℕ) → Leads k fresh (before ++ es) (next k) = λ k. leads_then k fresh (first k) (next k) before es (leads k) (goes k) in
    subst (AreKept c) (append_assoc before es fs) (q (before ++ es) (gives before now all) all (p before now leads kept))
