-- A connection goes in one way by its events, and one that waits stays as it is until a request of it is answered.
use Rattle.std.proofs.Common.{◌≡◌, ◌⊎◌, ◌<◌, ℕ, List, [], ◌∷◌, ◌++◌, Bool, true, false, cond, length, drop, inl, inr}
use Rattle.std.proofs.Common.{Option, Some, None, refl, sym, ap, subst, ◌∙◌, append-nil, nat_eq, nat_lt, eq-eqb, eqb-true, ltb-true}
use Rattle.std.proofs.lemmas.{Bool.{eqb-false}, Grind.{flat_map-append}}
use Rattle.plant_types.specs.Limits.{max_head}
use Rattle.plant_wire_head.specs.Head.{IsHopeless}
use Rattle.plant_wire_call.{specs.Front.{Item, StandsAtFront, body_length, broken, item_of, waits, whole}, specs.declared.causes.Cause.TheVariants.{HeadTooLong}}
use Rattle.plant_wire_call.proofs.public.Cuts.{front_unique}
use Rattle.plant_wire.specs.{Marks.{mark_text, marked_item}, Session.{IsIdle}}
use Rattle.plant_wire.specs.declared.reads.End.{End}
use Rattle.plant_server_clients.specs.Events.{Event, opened, came, ended, answered, broke, stopped, left, failed, closed, reported, who, of, arrivals, arrivals_in}
use Rattle.plant_server_clients.specs.Events.{marks_in, marks_of}
use Rattle.plant_server_clients.specs.{Fairness.{HasWaited, IsWaiting}, Happens.{AreOf}, Prompt.{ArePrompt, IsPrompt}}
use Rattle.plant_server_clients.specs.Stages.{Leads, Moves, Stage, fresh, gone, served, ending, connection_with, stage_by, stage_if_open, stage_in, stage_of}
use Rattle.plant_server_clients.proofs.Leading.{leads_then}
use Rattle.plant_server_clients.specs.declared.connections.Connection.{Connection}

-- a whole request takes so many bytes and no others
begun : (u : List ℕ) (x : Item) (n : ℕ) → StandsAtFront u (whole x n) → IsHopeless u → ⊥
begun u x n (inl (head, (rest, reads), is)) never = never [] head rest (rw append-nil reads)
begun u x n (inr (inl (hopeless, is))) never = cc
begun u x n (inr (inr (open_still, is))) never = go (nat_lt (length u) max_head) is
  where
    go : (b : Bool) → whole x n ≡ cond b waits (broken HeadTooLong) → ⊥
    go true e = cc
    go false e = cc

whole_once : (u : List ℕ) (x y : Item) (n m : ℕ) → StandsAtFront u (whole x n) → StandsAtFront u (whole y m) → n ≡ m
whole_once u x y n m p q = elim (front_unique body_length item_of u (whole x n) (whole y m) p q) as (λ _. n ≡ m) [
  | inl e ↦ let same : n ≡ m = cc in same
  | inr h ↦ absurd (begun u x n p h.0)
]

same_rest : (bytes rest rest' : List ℕ) → bytes ++ rest ≡ bytes ++ rest' → rest ≡ rest'
same_rest [] rest rest' e = e
same_rest (x ∷ bytes) rest rest' e = let tails : bytes ++ rest ≡ bytes ++ rest' = cc in same_rest bytes rest rest' tails

pub none_of : {A : Type 0} (xs ys : List A) → xs ++ ys ≡ [] → (xs ≡ []) × (ys ≡ [])
none_of [] ys e = (refl, e)
none_of (x ∷ xs) ys e = cc

-- an event leads to one stage
moves_once : (s : Stage) (e : Event) (a b : Stage) → Moves s e a → Moves s e b → a ≡ b
moves_once fresh (opened k) a b p q = p ∙ sym q
moves_once fresh (came k bytes) a b p q = absurd p
moves_once fresh (ended k) a b p q = absurd p
moves_once fresh (answered k mark) a b p q = absurd p
moves_once fresh (broke k cause) a b p q = absurd p
moves_once fresh (stopped k last) a b p q = absurd p
moves_once fresh (left k bytes) a b p q = absurd p
moves_once fresh (failed k trial) a b p q = p ∙ sym q
moves_once fresh (closed k how) a b p q = absurd p
moves_once fresh (reported ready) a b p q = p ∙ sym q
moves_once (served u p) (opened k) a b f g = absurd f
moves_once (served u p) (came k bytes) a b (now, is) (now', is') = is ∙ sym is'
moves_once (served u p) (ended k) a b (now, is) (now', is') = is ∙ sym is'
moves_once (served u p) (answered k mark) a b (none, (n, stands, is)) (none', (m, stands', is')) =
    is ∙ ap (λ i. served (drop i u) (mark_text mark)) (whole_once u (marked_item mark) (marked_item mark) n m stands stands') ∙ sym is'
moves_once (served u p) (broke k cause) a b (none, stands, is) (none', stands', is') = is ∙ sym is'
moves_once (served u p) (stopped k last) a b (none, stands, why, is) (none', stands', why', is') = is ∙ sym is'
moves_once (served u p) (left k bytes) a b (rest, split, is) (rest', split', is') =
    is ∙ ap (λ r. served u r) (same_rest bytes rest rest' (sym split ∙ split')) ∙ sym is'
moves_once (served u p) (failed k trial) a b f g = f ∙ sym g
moves_once (served u p) (closed k how) a b (given, is) (given', is') = is ∙ sym is'
moves_once (served u p) (reported ready) a b f g = f ∙ sym g
moves_once (ending end p) (opened k) a b f g = absurd f
moves_once (ending end p) (came k bytes) a b f g = absurd f
moves_once (ending end p) (ended k) a b f g = absurd f
moves_once (ending end p) (answered k mark) a b f g = absurd f
moves_once (ending end p) (broke k cause) a b f g = absurd f
moves_once (ending end p) (stopped k last) a b f g = absurd f
moves_once (ending end p) (left k bytes) a b (rest, split, is) (rest', split', is') =
    is ∙ ap (λ r. ending end r) (same_rest bytes rest rest' (sym split ∙ split')) ∙ sym is'
moves_once (ending end p) (failed k trial) a b f g = f ∙ sym g
moves_once (ending end p) (closed k how) a b (may, is) (may', is') = is ∙ sym is'
moves_once (ending end p) (reported ready) a b f g = f ∙ sym g
moves_once gone (opened k) a b p q = absurd p
moves_once gone (came k bytes) a b p q = absurd p
moves_once gone (ended k) a b p q = absurd p
moves_once gone (answered k mark) a b p q = absurd p
moves_once gone (broke k cause) a b p q = absurd p
moves_once gone (stopped k last) a b p q = absurd p
moves_once gone (left k bytes) a b p q = absurd p
moves_once gone (failed k trial) a b p q = absurd p
moves_once gone (closed k how) a b p q = absurd p
moves_once gone (reported ready) a b p q = p ∙ sym q

pub leads_once : (k : ℕ) (s a b : Stage) (es : List Event) → Leads k s es a → Leads k s es b → a ≡ b
leads_once k s a b [] p q = p ∙ sym q
leads_once k s a b (e ∷ es) (mid, goes, rest) (mid', goes', rest') =
    let same : mid ≡ mid' = one (nat_eq (who e) k) refl in
    leads_once k mid a b es rest (subst (λ (t : Stage). Leads k t es b) (sym same) rest')
  where
    one : (own : Bool) → nat_eq (who e) k ≡ own → mid ≡ mid'
    one true is = let w = eqb-true (who e) k is in moves_once s e mid mid' (goes.own w) (goes'.own w)
    one false is = let n = eqb-false (who e) k is in goes.other n ∙ sym (goes'.other n)

pub leads_parts : (k : ℕ) (s t : Stage) (es fs : List Event) → Leads k s (es ++ fs) t → (mid : Stage) × Leads k s es mid × Leads k mid fs t
leads_parts k s t [] fs all = (s, refl, all)
leads_parts k s t (e ∷ es) fs (next, goes, rest) =
    let later = leads_parts k next t es fs rest in
    (later.0, (next, goes, later.1), later.2)

-- another's events change nothing
pub leads_stays : (k j : ℕ) (s t : Stage) (es : List Event) → AreOf j es → (j ≡ k → ⊥) → Leads k s es t → t ≡ s
leads_stays k j s t [] own differ is = is
leads_stays k j s t (e ∷ es) (is, own) differ (mid, goes, rest) =
    leads_stays k j mid t es own differ rest ∙ goes.other (λ w. differ (sym is ∙ w))

-- once nothing more is answered, nothing ever is
abbrev pub is_over : Stage → Bool
is_over fresh = false
is_over (served u p) = false
is_over (ending end p) = true
is_over gone = true

pub over_moves : (s t : Stage) (e : Event) → Moves s e t → is_over s ≡ true → is_over t ≡ true
over_moves fresh t e is over = cc
over_moves (served u p) t e is over = cc
over_moves (ending end p) t (opened k) is over = absurd is
over_moves (ending end p) t (came k bytes) is over = absurd is
over_moves (ending end p) t (ended k) is over = absurd is
over_moves (ending end p) t (answered k mark) is over = absurd is
over_moves (ending end p) t (broke k cause) is over = absurd is
over_moves (ending end p) t (stopped k last) is over = absurd is
over_moves (ending end p) t (left k bytes) (rest, split, is) over = ap is_over is
over_moves (ending end p) t (failed k trial) is over = ap is_over is
over_moves (ending end p) t (closed k how) (may, is) over = ap is_over is
over_moves (ending end p) t (reported ready) is over = ap is_over is
over_moves gone t (opened k) is over = absurd is
over_moves gone t (came k bytes) is over = absurd is
over_moves gone t (ended k) is over = absurd is
over_moves gone t (answered k mark) is over = absurd is
over_moves gone t (broke k cause) is over = absurd is
over_moves gone t (stopped k last) is over = absurd is
over_moves gone t (left k bytes) is over = absurd is
over_moves gone t (failed k trial) is over = absurd is
over_moves gone t (closed k how) is over = absurd is
over_moves gone t (reported ready) is over = ap is_over is

pub over_leads : (k : ℕ) (s t : Stage) (es : List Event) → Leads k s es t → is_over s ≡ true → is_over t ≡ true
over_leads k s t [] is over = ap is_over is ∙ over
over_leads k s t (e ∷ es) (mid, goes, rest) over = over_leads k mid t es rest (one (nat_eq (who e) k) refl)
  where
    one : (own : Bool) → nat_eq (who e) k ≡ own → is_over mid ≡ true
    one true is = over_moves s mid e (goes.own (eqb-true (who e) k is)) over
    one false is = ap is_over (goes.other (eqb-false (who e) k is)) ∙ over

pub not_over : {A : Type 0} (s : Stage) (u p : List ℕ) → s ≡ served u p → is_over s ≡ true → A
not_over s u p is over = let no : false ≡ true = sym (ap is_over is) ∙ over in cc

-- one event of a connection that waits, other than an answer to a request
pub wait_moves : (u : List ℕ) (e : Event) (t : Stage) → (IsIdle u → ⊥) → Moves (served u []) e t → marks_in e ≡ []
    → (t ≡ served u []) ⊎ (is_over t ≡ true)
wait_moves u (opened k) t busy is none = absurd is
wait_moves u (came k bytes) t busy (now, is) none = absurd (busy now.1)
wait_moves u (ended k) t busy (now, is) none = absurd (busy now.1)
wait_moves u (answered k mark) t busy is none = cc
wait_moves u (broke k cause) t busy (empty, stands, is) none = inr (ap is_over is)
wait_moves u (stopped k last) t busy (empty, stands, why, is) none = inr (ap is_over is)
wait_moves u (left k bytes) t busy (rest, split, is) none = inl (is ∙ ap (λ r. served u r) (none_of bytes rest (sym split)).1)
wait_moves u (failed k trial) t busy is none = inl is
wait_moves u (closed k how) t busy (given, is) none = inr (ap is_over is)
wait_moves u (reported ready) t busy is none = inl is

pub own_marks : (k : ℕ) (e : Event) → nat_eq (who e) k ≡ true → of k e (marks_in e) ≡ [] → marks_in e ≡ []
own_marks k e is none = sym (ap (λ b. cond b (marks_in e) []) is) ∙ none

pub wait_leads : (k : ℕ) (u : List ℕ) (s t : Stage) (es : List Event) → s ≡ served u [] → (IsIdle u → ⊥) → Leads k s es t → marks_of k es ≡ []
    → (t ≡ served u []) ⊎ (is_over t ≡ true)
wait_leads k u s t [] at busy is none = inl (is ∙ at)
wait_leads k u s t (e ∷ es) at busy (mid, goes, rest) none =
    let marks = none_of (of k e (marks_in e)) (marks_of k es) none in
    elim (one (nat_eq (who e) k) refl marks.0) as (λ _. (t ≡ served u []) ⊎ (is_over t ≡ true)) [
      | inl same ↦ wait_leads k u mid t es same busy rest marks.1
      | inr over ↦ inr (over_leads k mid t es rest over)
    ]
  where
    one : (own : Bool) → nat_eq (who e) k ≡ own → of k e (marks_in e) ≡ [] → (mid ≡ served u []) ⊎ (is_over mid ≡ true)
    one true is none =
        wait_moves u e mid busy (subst (λ (x : Stage). Moves x e mid) at (goes.own (eqb-true (who e) k is))) (own_marks k e is none)
    one false is none = inl (goes.other (eqb-false (who e) k is) ∙ at)

-- nothing comes of a connection that waits, or that is over
over_arrives : (s t : Stage) (e : Event) → Moves s e t → is_over s ≡ true → arrivals_in e ≡ []
over_arrives fresh t e is over = cc
over_arrives (served u p) t e is over = cc
over_arrives (ending end p) t (opened k) is over = absurd is
over_arrives (ending end p) t (came k bytes) is over = absurd is
over_arrives (ending end p) t (ended k) is over = absurd is
over_arrives (ending end p) t (answered k mark) is over = refl
over_arrives (ending end p) t (broke k cause) is over = refl
over_arrives (ending end p) t (stopped k last) is over = refl
over_arrives (ending end p) t (left k bytes) is over = refl
over_arrives (ending end p) t (failed k trial) is over = refl
over_arrives (ending end p) t (closed k how) is over = refl
over_arrives (ending end p) t (reported ready) is over = refl
over_arrives gone t (opened k) is over = absurd is
over_arrives gone t (came k bytes) is over = absurd is
over_arrives gone t (ended k) is over = absurd is
over_arrives gone t (answered k mark) is over = absurd is
over_arrives gone t (broke k cause) is over = absurd is
over_arrives gone t (stopped k last) is over = absurd is
over_arrives gone t (left k bytes) is over = absurd is
over_arrives gone t (failed k trial) is over = absurd is
over_arrives gone t (closed k how) is over = absurd is
over_arrives gone t (reported ready) is over = refl

wait_arrives : (u : List ℕ) (e : Event) (t : Stage) → (IsIdle u → ⊥) → Moves (served u []) e t → arrivals_in e ≡ []
wait_arrives u (opened k) t busy is = absurd is
wait_arrives u (came k bytes) t busy (now, is) = absurd (busy now.1)
wait_arrives u (ended k) t busy (now, is) = absurd (busy now.1)
wait_arrives u (answered k mark) t busy is = refl
wait_arrives u (broke k cause) t busy is = refl
wait_arrives u (stopped k last) t busy is = refl
wait_arrives u (left k bytes) t busy is = refl
wait_arrives u (failed k trial) t busy is = refl
wait_arrives u (closed k how) t busy is = refl
wait_arrives u (reported ready) t busy is = refl

over_calm : (k : ℕ) (s t : Stage) (es : List Event) → AreOf k es → Leads k s es t → is_over s ≡ true → length (arrivals es) ≡ 0
over_calm k s t [] own leads over = refl
over_calm k s t (e ∷ es) (is, own) (mid, goes, rest) over =
    ap (λ (xs : List ℕ). length (xs ++ arrivals es)) (over_arrives s mid e (goes.own is) over)
    ∙ over_calm k mid t es own rest (over_moves s mid e (goes.own is) over)

pub wait_calm : (k : ℕ) (u : List ℕ) (s t : Stage) (es : List Event) → s ≡ served u [] → (IsIdle u → ⊥) → AreOf k es → Leads k s es t
    → marks_of k es ≡ [] → length (arrivals es) ≡ 0
wait_calm k u s t [] at busy own leads none = refl
wait_calm k u s t (e ∷ es) at busy (is, own) (mid, goes, rest) none =
    let marks = none_of (of k e (marks_in e)) (marks_of k es) none in
    let moved = subst (λ (x : Stage). Moves x e mid) at (goes.own is) in
    ap (λ (xs : List ℕ). length (xs ++ arrivals es)) (wait_arrives u e mid busy moved)
    ∙ elim (wait_moves u e mid busy moved (own_marks k e (eq-eqb (who e) k is) marks.0)) as (λ _. length (arrivals es) ≡ 0) [
      | inl same ↦ wait_calm k u mid t es same busy own rest marks.1
      | inr over ↦ over_calm k mid t es own rest over
    ]

pub marks-append : (k : ℕ) (es fs : List Event) → marks_of k (es ++ fs) ≡ marks_of k es ++ marks_of k fs
marks-append k es fs = flat_map-append (λ e. of k e (marks_in e)) es fs

-- one that waits through all of these events waits after the first of them
pub record WaitsOn (k : ℕ) (s : Stage) (u v : List ℕ) (es fs : List Event) : Type 0 where
  pub first : Leads k s es (served u [])
  pub rest : Leads k (served u []) fs (served v [])
  pub none : marks_of k es ≡ []
  pub none_then : marks_of k fs ≡ []

pub waits_on : (k : ℕ) (s : Stage) (u v : List ℕ) (es fs : List Event) → s ≡ served u [] → (IsIdle u → ⊥) → Leads k s (es ++ fs) (served v [])
    → marks_of k (es ++ fs) ≡ [] → WaitsOn k s u v es fs
waits_on k s u v es fs at busy all none =
    let halves = leads_parts k s (served v []) es fs all in
    let marks = none_of (marks_of k es) (marks_of k fs) (sym (marks-append k es fs) ∙ none) in
    elim (wait_leads k u s halves.0 es at busy halves.1 marks.0) as (λ _. WaitsOn k s u v es fs) [
      | inl same ↦ record {
        first = subst (λ (t : Stage). Leads k s es t) same halves.1;
        rest = subst (λ (t : Stage). Leads k t fs (served v [])) same halves.2;
        none = marks.0;
        none_then = marks.1;
      }
      | inr over ↦ not_over (served v []) v [] refl (over_leads k halves.0 (served v []) fs halves.2 over)
    ]

-- the same, where it waited from the start of a service on
pub record WaitedOn (k : ℕ) (es gs fs : List Event) : Type 0 where
  pub waited : HasWaited k es gs
  pub none_then : marks_of k fs ≡ []

pub waited_on : (k : ℕ) (es gs fs : List Event) → HasWaited k es (gs ++ fs) → WaitedOn k es gs fs
waited_on k es gs fs ((u, first, busy), (v, last, still_busy), none) =
    let halves = leads_parts k fresh (served v []) es (gs ++ fs) last in
    let at = leads_once k fresh halves.0 (served u []) es halves.1 first in
    let on = waits_on k halves.0 u v gs fs at busy halves.2 none in
    record {
      waited = (
        (u, first, busy),
        (u, leads_then k fresh halves.0 (served u []) es gs halves.1 on.first, busy),
        on.none,
      );
      none_then = on.none_then;
    }

-- it waited already before another's events
pub waits_before : (k m : ℕ) (es fs : List Event) → AreOf m fs → (m ≡ k → ⊥) → IsWaiting k (es ++ fs) → IsWaiting k es
waits_before k m es fs own differ (u, all, busy) =
    let halves = leads_parts k fresh (served u []) es fs all in (
      u,
      subst (λ (t : Stage). Leads k fresh es t) (sym (leads_stays k m halves.0 (served u []) fs own differ halves.2)) halves.1,
      busy,
    )

-- nothing comes of one while it waits
pub waits_calm : (k : ℕ) (es fs : List Event) → HasWaited k es fs → AreOf k fs → length (arrivals fs) ≡ 0
waits_calm k es fs ((u, first, busy), (v, last, still_busy), none) own =
    let halves = leads_parts k fresh (served v []) es fs last in
    wait_calm k u halves.0 (served v []) fs (leads_once k fresh halves.0 (served u []) es halves.1 first) busy own halves.2 none

-- a line of which nothing more than the beginning of a request is unread does not wait
pub idle_stage : (n p : List ℕ) (e : Option End) (u : List ℕ) → (e ≡ None → p ≡ [] → IsIdle n) → stage_by n p e ≡ served u [] → IsIdle u
idle_stage n p None u idle is =
    let unread : n ≡ u = cc in
    let pending : p ≡ [] = cc in
    subst IsIdle unread (idle refl pending)
idle_stage n p (Some end) u idle is = let no : ending end p ≡ served u [] = is in cc

prompt_of : (k : ℕ) (ls : List Connection) (l : Connection) → ArePrompt ls → connection_with k ls ≡ Some l → IsPrompt l
prompt_of k [] l are is = cc
prompt_of k (x ∷ ls) l are is = go (nat_eq x.number k) (prompt_of k ls l are.1) is
  where
    go : (b : Bool) → (connection_with k ls ≡ Some l → IsPrompt l) → cond b (Some x) (connection_with k ls) ≡ Some l → IsPrompt l
    go true later e = let same : x ≡ l = cc in subst IsPrompt same are.0
    go false later e = later e

-- a connection that is served is open
pub open_of : (k count : ℕ) (ls : List Connection) (u p : List ℕ) → stage_of k count ls ≡ served u p → (l : Connection) × (connection_with k ls ≡ Some l)
open_of k count ls u p is = go (nat_lt k count) (connection_with k ls) refl is
  where
    go : (b : Bool) (o : Option Connection) → connection_with k ls ≡ o → cond b (stage_if_open o) fresh ≡ served u p
        → (l : Connection) × (connection_with k ls ≡ Some l)
    go true None e now = cc
    go true (Some l) e now = (l, e)
    go false o e now = cc

stage_with : (k count : ℕ) (ls : List Connection) (u p : List ℕ) (l : Connection) → stage_of k count ls ≡ served u p → connection_with k ls ≡ Some l
    → stage_in l ≡ served u p
stage_with k count ls u p l is with_it = go (nat_lt k count) is
  where
    go : (b : Bool) → cond b (stage_if_open (connection_with k ls)) fresh ≡ served u p → stage_in l ≡ served u p
    go true e = sym (ap stage_if_open with_it) ∙ e
    go false e = cc

pub counted_of : (k count : ℕ) (ls : List Connection) (u p : List ℕ) → stage_of k count ls ≡ served u p → k < count
counted_of k count ls u p is = go (nat_lt k count) refl is
  where
    go : (b : Bool) → nat_lt k count ≡ b → cond b (stage_if_open (connection_with k ls)) fresh ≡ served u p → k < count
    go true e now = ltb-true k count e
    go false e now = cc

-- where no request is left that can be answered, none waits
pub none_waits : (count : ℕ) (ls : List Connection) (es : List Event) → ((k : ℕ) → Leads k fresh es (stage_of k count ls)) → ArePrompt ls
    → (k : ℕ) → IsWaiting k es → ⊥
none_waits count ls es leads are k (u, at, busy) =
    let is = leads_once k fresh (stage_of k count ls) (served u []) es (leads k) at in
    let it = open_of k count ls u [] is in
    let prompt = prompt_of k ls it.0 are it.1 in
    busy
    (idle_stage it.0.unread.items it.0.pending.text.items it.0.end u (λ live none. (prompt live none).0)
    (stage_with k count ls u [] it.0 is it.1))
