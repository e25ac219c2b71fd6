-- While one waits, fewer calls are made than connections were open.
use Rattle.std.proofs.Common.{◌≡◌, ◌≢◌, ◌⊎◌, ◌<◌, ◌≤◌, ◌+◌, ℕ, List, [], ◌∷◌, Bool, true, false, true≢false, cond, length, inl, inr}
use Rattle.std.proofs.Common.{refl, sym, ap, subst, ◌∙◌, arith, nat_eq, eq-eqb, eqb-true, length-append}
use Rattle.std.proofs.lemmas.Bool.{eqb-false}
use Rattle.plant_model.specs.declared.call.Call.{Call}
use Rattle.plant_wire_call.{specs.Front.{Item, StandsAtFront, body_length, item_of, whole}, proofs.public.Cuts.{whole_fits}}
use Rattle.plant_wire.specs.{Marks.{Last, begun, breaking, calls_of, last_marks, marked_item, nothing}, Session.{IsIdle}, Step.{StandsLast}}
use Rattle.plant_server_clients.specs.Events.{Event, opened, came, ended, answered, broke, stopped, left, failed, closed, reported, who, of, all_calls, arrivals}
use Rattle.plant_server_clients.specs.Events.{arrivals_in, calls_for, calls_in, marks_in, marks_of}
use Rattle.plant_server_clients.specs.{Accounts.{AtEachMoment}, Fairness.{IsBounded, IsFair, IsSteady, open_after, open_with, without}}
use Rattle.plant_server_clients.specs.Stages.{Leads, Moves, Stage, fresh, gone, served, ending}
use Rattle.plant_server_clients.proofs.Waited.{is_over, leads_once, leads_parts, none_of, not_over, over_leads, over_moves, own_marks, wait_moves}

abbrev Has : ℕ → List ℕ → Type 0
Has j [] = ⊥
Has j (i ∷ ks) = (i ≡ j) ⊎ Has j ks

has_without : (j k : ℕ) (ks : List ℕ) → k ≢ j → Has j ks → Has j (without k ks)
has_without j k [] differ has = absurd has
has_without j k (i ∷ ks) differ has = go (nat_eq i k) refl (λ later. has_without j k ks differ later) has
  where
    go : (b : Bool) → nat_eq i k ≡ b → (Has j ks → Has j (without k ks)) → (i ≡ j) ⊎ Has j ks → Has j (cond b (without k ks) (i ∷ without k ks))
    go true e more (inl is) = absurd (differ (sym (eqb-true i k e) ∙ is))
    go true e more (inr later) = more later
    go false e more (inl is) = inl is
    go false e more (inr later) = inr (more later)

abbrev is_live : Stage → Bool
is_live fresh = false
is_live (served u p) = true
is_live (ending end p) = true
is_live gone = false

dead : {A : Type 0} (s t : Stage) → s ≡ t → is_live t ≡ false → is_live s ≡ true → A
dead s t is off on = absurd (true≢false (sym on ∙ ap is_live is ∙ off))

-- an event of the connection itself
open_own : (ks : List ℕ) (s t : Stage) (e : Event) → Moves s e t → (is_live s ≡ true → Has (who e) ks) → is_live t ≡ true
    → Has (who e) (open_with ks e)
open_own ks fresh t (opened k) is has live = inl refl
open_own ks fresh t (came k bytes) is has live = absurd is
open_own ks fresh t (ended k) is has live = absurd is
open_own ks fresh t (answered k mark) is has live = absurd is
open_own ks fresh t (broke k cause) is has live = absurd is
open_own ks fresh t (stopped k last) is has live = absurd is
open_own ks fresh t (left k bytes) is has live = absurd is
open_own ks fresh t (failed k trial) is has live = dead t fresh is refl live
open_own ks fresh t (closed k how) is has live = absurd is
open_own ks fresh t (reported ready) is has live = dead t fresh is refl live
open_own ks (served u p) t (opened k) is has live = absurd is
open_own ks (served u p) t (came k bytes) is has live = has refl
open_own ks (served u p) t (ended k) is has live = has refl
open_own ks (served u p) t (answered k mark) is has live = has refl
open_own ks (served u p) t (broke k cause) is has live = has refl
open_own ks (served u p) t (stopped k last) is has live = has refl
open_own ks (served u p) t (left k bytes) is has live = has refl
open_own ks (served u p) t (failed k trial) is has live = has refl
open_own ks (served u p) t (closed k how) is has live = dead t gone is.1 refl live
open_own ks (served u p) t (reported ready) is has live = has refl
open_own ks (ending end p) t (opened k) is has live = absurd is
open_own ks (ending end p) t (came k bytes) is has live = absurd is
open_own ks (ending end p) t (ended k) is has live = absurd is
open_own ks (ending end p) t (answered k mark) is has live = absurd is
open_own ks (ending end p) t (broke k cause) is has live = absurd is
open_own ks (ending end p) t (stopped k last) is has live = absurd is
open_own ks (ending end p) t (left k bytes) is has live = has refl
open_own ks (ending end p) t (failed k trial) is has live = has refl
open_own ks (ending end p) t (closed k how) is has live = dead t gone is.1 refl live
open_own ks (ending end p) t (reported ready) is has live = has refl
open_own ks gone t (opened k) is has live = absurd is
open_own ks gone t (came k bytes) is has live = absurd is
open_own ks gone t (ended k) is has live = absurd is
open_own ks gone t (answered k mark) is has live = absurd is
open_own ks gone t (broke k cause) is has live = absurd is
open_own ks gone t (stopped k last) is has live = absurd is
open_own ks gone t (left k bytes) is has live = absurd is
open_own ks gone t (failed k trial) is has live = absurd is
open_own ks gone t (closed k how) is has live = absurd is
open_own ks gone t (reported ready) is has live = dead t gone is refl live

-- one of another
open_other : (ks : List ℕ) (j : ℕ) (e : Event) → who e ≢ j → Has j ks → Has j (open_with ks e)
open_other ks j (opened k) differ has = inr has
open_other ks j (came k bytes) differ has = has
open_other ks j (ended k) differ has = has
open_other ks j (answered k mark) differ has = has
open_other ks j (broke k cause) differ has = has
open_other ks j (stopped k last) differ has = has
open_other ks j (left k bytes) differ has = has
open_other ks j (failed k trial) differ has = has
open_other ks j (closed k how) differ has = has_without j k ks differ has
open_other ks j (reported ready) differ has = has

open_live : (j : ℕ) (ks : List ℕ) (s t : Stage) (es : List Event) → (is_live s ≡ true → Has j ks) → Leads j s es t → is_live t ≡ true
    → Has j (open_after ks es)
open_live j ks s t [] has leads live = has (ap is_live (sym leads) ∙ live)
open_live j ks s t (e ∷ es) has (mid, goes, rest) live = open_live j (open_with ks e) mid t es (one (nat_eq (who e) j) refl) rest live
  where
    one : (own : Bool) → nat_eq (who e) j ≡ own → is_live mid ≡ true → Has j (open_with ks e)
    one true is now =
        let same = eqb-true (who e) j is in
        subst (λ (i : ℕ). Has i (open_with ks e)) same
        (open_own ks s mid e (goes.own same) (λ on. subst (λ (i : ℕ). Has i ks) (sym same) (has on)) now)
    one false is now =
        let differ = eqb-false (who e) j is in
        open_other ks j e differ (has (ap is_live (sym (goes.other differ)) ∙ now))

-- Calls of one connection
calls_one : (j : ℕ) (e : Event) (es : List Event) → length (calls_for j (e ∷ es)) ≡ length (of j e (calls_in e)) + length (calls_for j es)
calls_one j e es = length-append (of j e (calls_in e)) (calls_for j es)

none_one : (j : ℕ) (e : Event) (es : List Event) → (who e ≡ j → calls_in e ≡ []) → length (calls_for j es) ≡ 0
    → length (calls_for j (e ∷ es)) ≡ 0
none_one j e es none later = one (nat_eq (who e) j) refl
  where
    one : (own : Bool) → nat_eq (who e) j ≡ own → length (calls_for j (e ∷ es)) ≡ 0
    one true is =
        let here : of j e (calls_in e) ≡ [] = ap (λ b. cond b (calls_in e) []) is ∙ none (eqb-true (who e) j is) in
        omega (arith, calls_one j e es, ap length here, later)
    one false is =
        let here : of j e (calls_in e) ≡ [] = ap (λ b. cond b (calls_in e) []) is in
        omega (arith, calls_one j e es, ap length here, later)

over_call : (s t : Stage) (e : Event) → Moves s e t → is_over s ≡ true → calls_in e ≡ []
over_call fresh t e is over = cc
over_call (served u p) t e is over = cc
over_call (ending end p) t (opened k) is over = refl
over_call (ending end p) t (came k bytes) is over = refl
over_call (ending end p) t (ended k) is over = refl
over_call (ending end p) t (answered k mark) is over = absurd is
over_call (ending end p) t (broke k cause) is over = refl
over_call (ending end p) t (stopped k last) is over = absurd is
over_call (ending end p) t (left k bytes) is over = refl
over_call (ending end p) t (failed k trial) is over = refl
over_call (ending end p) t (closed k how) is over = refl
over_call (ending end p) t (reported ready) is over = refl
over_call gone t (opened k) is over = refl
over_call gone t (came k bytes) is over = refl
over_call gone t (ended k) is over = refl
over_call gone t (answered k mark) is over = absurd is
over_call gone t (broke k cause) is over = refl
over_call gone t (stopped k last) is over = absurd is
over_call gone t (left k bytes) is over = refl
over_call gone t (failed k trial) is over = refl
over_call gone t (closed k how) is over = refl
over_call gone t (reported ready) is over = refl

over_calls : (j : ℕ) (s t : Stage) (es : List Event) → Leads j s es t → is_over s ≡ true → length (calls_for j es) ≡ 0
over_calls j s t [] leads over = refl
over_calls j s t (e ∷ es) (mid, goes, rest) over =
    none_one j e es (λ own. over_call s mid e (goes.own own) over) (over_calls j mid t es rest (one (nat_eq (who e) j) refl))
  where
    one : (own : Bool) → nat_eq (who e) j ≡ own → is_over mid ≡ true
    one true is = over_moves s mid e (goes.own (eqb-true (who e) j is)) over
    one false is = ap is_over (goes.other (eqb-false (who e) j is)) ∙ over

-- one that waits throughout
wait_call : (u : List ℕ) (e : Event) (t : Stage) → Moves (served u []) e t → marks_in e ≡ [] → is_over t ≡ false → calls_in e ≡ []
wait_call u (opened k) t is none going = refl
wait_call u (came k bytes) t is none going = refl
wait_call u (ended k) t is none going = refl
wait_call u (answered k mark) t is none going = cc
wait_call u (broke k cause) t is none going = refl
wait_call u (stopped k last) t (empty, stands, why, is) none going = absurd (true≢false (sym (ap is_over is) ∙ going))
wait_call u (left k bytes) t is none going = refl
wait_call u (failed k trial) t is none going = refl
wait_call u (closed k how) t is none going = refl
wait_call u (reported ready) t is none going = refl

wait_calls : (k : ℕ) (u v : List ℕ) (s : Stage) (es : List Event) → s ≡ served u [] → (IsIdle u → ⊥) → Leads k s es (served v [])
    → marks_of k es ≡ [] → length (calls_for k es) ≡ 0
wait_calls k u v s [] at busy leads none = refl
wait_calls k u v s (e ∷ es) at busy (mid, goes, rest) none =
    let marks = none_of (of k e (marks_in e)) (marks_of k es) none in
    elim (here (nat_eq (who e) k) refl marks.0) as (λ _. length (calls_for k (e ∷ es)) ≡ 0) [
      | inl same ↦ none_one k e es (λ own. quiet own marks.0 same) (wait_calls k u v mid es same busy rest marks.1)
      | inr over ↦ not_over (served v []) v [] refl (over_leads k mid (served v []) es rest over)
    ]
  where
    moved : who e ≡ k → Moves (served u []) e mid
    moved own = subst (λ (x : Stage). Moves x e mid) at (goes.own own)

    here : (own : Bool) → nat_eq (who e) k ≡ own → of k e (marks_in e) ≡ [] → (mid ≡ served u []) ⊎ (is_over mid ≡ true)
    here true is now = wait_moves u e mid busy (moved (eqb-true (who e) k is)) (own_marks k e is now)
    here false is now = inl (goes.other (eqb-false (who e) k is) ∙ at)

    quiet : who e ≡ k → of k e (marks_in e) ≡ [] → mid ≡ served u [] → calls_in e ≡ []
    quiet own now same = wait_call u e mid (moved own) (own_marks k e (eq-eqb (who e) k own) now) (ap is_over same)

-- one that came meanwhile: nothing of it was read yet
nothing_whole : {A : Type 0} (x : Item) (n : ℕ) → StandsAtFront [] (whole x n) → A
nothing_whole x n stands = let fits = whole_fits body_length item_of [] x n stands in absurd (omega (arith, fits.0, fits.1))

nothing_last : (last : Last) → StandsLast [] last → calls_of (last_marks last) ≡ []
nothing_last nothing stands = refl
nothing_last (begun m) (n, stands) = nothing_whole (marked_item m) n stands
nothing_last (breaking cause) stands = refl

-- an event of it, if nothing comes: no call is made, and it stays so or is over
new_moves : (e : Event) (t : Stage) → Moves (served [] []) e t → arrivals_in e ≡ []
    → (calls_in e ≡ []) × ((t ≡ served [] []) ⊎ (is_over t ≡ true))
new_moves (opened k) t is calm = absurd is
new_moves (came k bytes) t is calm = cc
new_moves (ended k) t is calm = cc
new_moves (answered k mark) t (empty, (n, stands, is)) calm = nothing_whole (marked_item mark) n stands
new_moves (broke k cause) t (empty, stands, is) calm = (refl, inr (ap is_over is))
new_moves (stopped k last) t (empty, stands, why, is) calm = (nothing_last last stands, inr (ap is_over is))
new_moves (left k bytes) t (rest, split, is) calm = (refl, inl (is ∙ ap (λ r. served [] r) (none_of bytes rest (sym split)).1))
new_moves (failed k trial) t is calm = (refl, inl is)
new_moves (closed k how) t (given, is) calm = (refl, inr (ap is_over is))
new_moves (reported ready) t is calm = (refl, inl is)

calm_parts : (e : Event) (es : List Event) → length (arrivals (e ∷ es)) ≡ length (arrivals_in e) + length (arrivals es)
calm_parts e es = length-append (arrivals_in e) (arrivals es)

nil_of : {A : Type 0} (xs : List A) → length xs ≡ 0 → xs ≡ []
nil_of [] none = refl
nil_of (x ∷ xs) none = absurd (omega (arith, none))

new_calls : (j : ℕ) (s t : Stage) (es : List Event) → s ≡ served [] [] → Leads j s es t → length (arrivals es) ≡ 0 → length (calls_for j es) ≡ 0
new_calls j s t [] at leads calm = refl
new_calls j s t (e ∷ es) at (mid, goes, rest) calm = one (nat_eq (who e) j) refl (λ same. new_calls j mid t es same rest later)
  where
    quiet : arrivals_in e ≡ []
    quiet = nil_of (arrivals_in e) (omega (arith, calm, calm_parts e es))

    later : length (arrivals es) ≡ 0
    later = omega (arith, calm, calm_parts e es)

    one : (own : Bool) → nat_eq (who e) j ≡ own → (mid ≡ served [] [] → length (calls_for j es) ≡ 0) → length (calls_for j (e ∷ es)) ≡ 0
    one true is more =
        let moved = new_moves e mid (subst (λ (x : Stage). Moves x e mid) at (goes.own (eqb-true (who e) j is))) quiet in
        none_one j e es (λ _. moved.0)
        (elim moved.1 as (λ _. length (calls_for j es) ≡ 0) [
          | inl same ↦ more same
          | inr over ↦ over_calls j mid t es rest over
        ])
    one false is more =
        let differ = eqb-false (who e) j is in
        none_one j e es (λ own. absurd (differ own)) (more (goes.other differ ∙ at))

fresh_moves : (e : Event) (t : Stage) → Moves fresh e t
    → (calls_in e ≡ []) × (((t ≡ served [] []) × (length (arrivals_in e) ≡ 1)) ⊎ (t ≡ fresh))
fresh_moves (opened k) t is = (refl, inl (is, refl))
fresh_moves (came k bytes) t is = absurd is
fresh_moves (ended k) t is = absurd is
fresh_moves (answered k mark) t is = absurd is
fresh_moves (broke k cause) t is = absurd is
fresh_moves (stopped k last) t is = absurd is
fresh_moves (left k bytes) t is = absurd is
fresh_moves (failed k trial) t is = (refl, inr is)
fresh_moves (closed k how) t is = absurd is
fresh_moves (reported ready) t is = (refl, inr is)

fresh_calls : (j : ℕ) (s t : Stage) (es : List Event) → s ≡ fresh → Leads j s es t → length (arrivals es) ≤ 1 → length (calls_for j es) ≡ 0
fresh_calls j s t [] at leads few = refl
fresh_calls j s t (e ∷ es) at (mid, goes, rest) few =
    one (nat_eq (who e) j) refl (λ same. fresh_calls j mid t es same rest (omega (arith, few, calm_parts e es)))
  where
    one : (own : Bool) → nat_eq (who e) j ≡ own → (mid ≡ fresh → length (calls_for j es) ≡ 0) → length (calls_for j (e ∷ es)) ≡ 0
    one true is more =
        let moved = fresh_moves e mid (subst (λ (x : Stage). Moves x e mid) at (goes.own (eqb-true (who e) j is))) in
        none_one j e es (λ _. moved.0)
        (elim moved.1 as (λ _. length (calls_for j es) ≡ 0) [
          | inl came_now ↦ new_calls j mid t es came_now.0 rest (omega (arith, few, calm_parts e es, came_now.1))
          | inr same ↦ more same
        ])
    one false is more =
        let differ = eqb-false (who e) j is in
        none_one j e es (λ own. absurd (differ own)) (more (goes.other differ ∙ at))

-- Counting them
abbrev total : List ℕ → List Event → ℕ
total [] es = 0
total (j ∷ js) es = length (calls_for j es) + total js es

abbrev total_one : List ℕ → Event → ℕ
total_one [] e = 0
total_one (j ∷ js) e = length (of j e (calls_in e)) + total_one js e

total_parts : (ks : List ℕ) (e : Event) (es : List Event) → total ks (e ∷ es) ≡ total_one ks e + total ks es
total_parts [] e es = refl
total_parts (j ∷ js) e es = omega (arith, total_parts js e es, calls_one j e es)

of_own : (e : Event) (j : ℕ) → j ≡ who e → of j e (calls_in e) ≡ calls_in e
of_own e j is = ap (λ b. cond b (calls_in e) []) (eq-eqb (who e) j (sym is))

total_has : (ks : List ℕ) (e : Event) → Has (who e) ks → length (calls_in e) ≤ total_one ks e
total_has [] e has = absurd has
total_has (j ∷ js) e (inl is) = omega (arith, ap length (of_own e j is))
total_has (j ∷ js) e (inr has) = omega (arith, total_has js e has)

covers : (ks : List ℕ) (es : List Event) → ((j : ℕ) → 0 < length (calls_for j es) → Has j ks) → length (all_calls es) ≤ total ks es
covers ks [] has = omega arith
covers ks (e ∷ es) has =
    let later = covers ks es (λ j some. has j (omega (arith, some, calls_one j e es))) in
    omega (arith, later, now (calls_in e) refl, total_parts ks e es, length-append (calls_in e) (all_calls es))
  where
    now : (cs : List Call) → calls_in e ≡ cs → length (calls_in e) ≤ total_one ks e
    now [] none = omega (arith, ap length none)
    now (c ∷ cs) some =
        total_has ks e (has (who e) (omega (arith, calls_one (who e) e es, ap length (of_own e (who e) refl), ap length some)))

total_most : (ks : List ℕ) (es : List Event) → ((j : ℕ) → length (calls_for j es) ≤ 1) → total ks es ≤ length ks
total_most [] es few = omega arith
total_most (j ∷ js) es few = omega (arith, few j, total_most js es few)

total_fewer : (ks : List ℕ) (es : List Event) (k : ℕ) → ((j : ℕ) → length (calls_for j es) ≤ 1) → length (calls_for k es) ≡ 0 → Has k ks
    → total ks es < length ks
total_fewer [] es k few none has = absurd has
total_fewer (j ∷ js) es k few none (inl is) =
    let own : length (calls_for j es) ≡ 0 = subst (λ (i : ℕ). length (calls_for i es) ≡ 0) (sym is) none in
    omega (arith, own, total_most js es few)
total_fewer (j ∷ js) es k few none (inr has) = omega (arith, few j, total_fewer js es k few none has)

bounded_now : (now : List Event) → IsFair now → IsSteady now → ((k : ℕ) → (s : Stage) × Leads k fresh now s) → IsBounded now
bounded_now now fair steady goes es since k is waited =
    let most = covers (open_after [] es) since among in
    let fewer = total_fewer (open_after [] es) since k each own here in
    omega (arith, most, fewer)
  where
    own : length (calls_for k since) ≡ 0
    own =
        let first = waited.0 in
        let last = waited.1 in
        let halves = leads_parts k fresh (served last.0 []) es since last.1 in
        wait_calls k first.0 last.0 halves.0 since (leads_once k fresh halves.0 (served first.0 []) es halves.1 first.1) first.2 halves.2 waited.2

    here : Has k (open_after [] es)
    here = open_live k [] fresh (served waited.0.0 []) es (λ off. absurd (true≢false (sym off))) waited.0.1 refl

    each : (j : ℕ) → length (calls_for j since) ≤ 1
    each j = one (nat_eq j k) refl
      where
        one : (same : Bool) → nat_eq j k ≡ same → length (calls_for j since) ≤ 1
        one true e = subst (λ (i : ℕ). length (calls_for i since) ≤ 1) (sym (eqb-true j k e)) (omega (arith, own))
        one false e = fair es since k j is (eqb-false j k e) waited

    among : (j : ℕ) → 0 < length (calls_for j since) → Has j (open_after [] es)
    among j some =
        let all = goes j in
        let halves = leads_parts j fresh all.0 es since (subst (λ (ys : List Event). Leads j fresh ys all.0) is all.1) in
        by_stage halves.0 halves.1 all.0 halves.2
      where
        by_stage : (s : Stage) → Leads j fresh es s → (t : Stage) → Leads j s since t → Has j (open_after [] es)
        by_stage fresh first t next =
            let none = fresh_calls j fresh t since refl next (steady es since k is waited) in absurd (omega (arith, none, some))
        by_stage (served u p) first t next = open_live j [] fresh (served u p) es (λ off. absurd (true≢false (sym off))) first refl
        by_stage (ending end p) first t next = open_live j [] fresh (ending end p) es (λ off. absurd (true≢false (sym off))) first refl
        by_stage gone first t next = let none = over_calls j gone t since next refl in absurd (omega (arith, none, some))

pub bounded : (events : List Event) (last : ℕ → Stage) → ((k : ℕ) → Leads k fresh events (last k)) → AtEachMoment IsFair events
    → AtEachMoment IsSteady events → AtEachMoment IsBounded events
bounded events last goes fair steady es fs is =
    bounded_now es (fair es fs is) (steady es fs is)
    (λ k. let halves = leads_parts k fresh (last k) es fs (subst (λ (ys : List Event). Leads k fresh ys (last k)) is (goes k)) in (halves.0, halves.1))
