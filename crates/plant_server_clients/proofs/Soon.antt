-- How soon those are served who wait, and that what the ports report is heeded.
use Rattle.std.proofs.Common.{◌≡◌, ◌≢◌, ◌+◌, ◌<◌, ◌≤◌, ℕ, suc, List, [], ◌∷◌, ◌++◌, Bool, true, false, ap, arith, append-nil, append_assoc, inl, inr, length, length-append, refl, subst, sym, ◌∙◌}
use Rattle.std.proofs.Common.{nat_eq, eqb-true, Some, None, Option, slice_get}
use Rattle.std.proofs.lemmas.{Bool.{eqb-false}, Grind.{flat_map-append}}
use Rattle.plant_wire.specs.Session.{IsIdle}
use Rattle.plant_server_clients.specs.{Accounts.{AtEachMoment}, Causes.{OffersTo}, Fairness.{HasWaited, IsSoon, IsUpToDate, IsWaiting}}
use Rattle.plant_server_clients.specs.{Events.{Event, marks_of, reported, reports, reports_in}, Happens.{Answers}, Service.{AnswersFrom, KeepsUp}}
use Rattle.plant_server_clients.specs.Heeded.{AreHeeded, Heeds, IsOpening, IsReading, Starts, pending_at}
use Rattle.plant_server_clients.specs.{Paces.{AreRising, Splits, numbers}, Stages.{AreOpenConnections, Leads, Stage, fresh, served, stage_in, stage_of}}
use Rattle.plant_server_clients.specs.Prompt.{ArePrompt}
use Rattle.plant_server_clients.proofs.{Leading.{leads_then, reports-append}, Numbers.{stage_at}, Paced.{from_at, placed_at, two_ways}}
use Rattle.plant_server_clients.proofs.Waited.{WaitsOn, counted_of, leads_once, leads_parts, none_waits, open_of, waited_on, waits_on}
use Rattle.plant_server_clients.specs.declared.{connections.Connection.{Connection}, ports.Ready.{Ready}}
use Rattle.plant_server_clients.specs.declared.ports.Ready.TheVariants.{Came, Readable, Writable, Expired, Nothing, Failed}

none_last : (es fs : List Event) → reports (es ++ fs) ≡ [] → reports fs ≡ []
none_last [] fs none = none
none_last (e ∷ es) fs none = none_last es fs (rest (reports_in e) (reports (es ++ fs)) none)
  where
    rest : {A : Type 0} (xs ys : List A) → xs ++ ys ≡ [] → ys ≡ []
    rest [] ys is = is
    rest (x ∷ xs) ys is = cc

-- there is no report among these
not_asked : {A : Type 0} (es fs : List Event) (what : Ready) → reports (es ++ reported what ∷ fs) ≡ [] → A
not_asked es fs what none = let some : what ∷ reports fs ≡ [] = none_last es (reported what ∷ fs) none in cc

-- Each that waited before these events, in which the ports are not asked, is answered in them.
pub up_to_date : (ps ts : List Event) → reports ts ≡ []
    → ((k : ℕ) → IsWaiting k ps → marks_of k ts ≡ [] → IsWaiting k (ps ++ ts) → ⊥) → IsUpToDate (ps ++ ts)
up_to_date ps ts unasked answered es since k is waited = elim (two_ways ps ts es since is) as (λ _. reports since ≡ []) [
  | inl p ↦
      let on = waited_on k es p.0 ts (subst (λ (ys : List Event). HasWaited k es ys) p.2 waited) in
      absurd (answered k (subst (IsWaiting k) (sym p.1) on.waited.1) on.none_then (subst (IsWaiting k) (sym is) waited.1))
  | inr p ↦ none_last p.0 since (ap reports (sym p.2) ∙ unasked)
]

few_last : (es fs : List Event) → length (reports (es ++ fs)) ≤ 1 → length (reports fs) ≤ 1
few_last es fs few = omega (arith, few, reports-append es fs)

few_first : (es fs : List Event) → length (reports (es ++ fs)) ≤ 1 → length (reports es) ≤ 1
few_first es fs few = omega (arith, few, reports-append es fs)

soon_within : (es fs : List Event) → IsUpToDate es → length (reports fs) ≤ 1 → IsSoon (es ++ fs)
soon_within es fs now few xs since k is waited = elim (two_ways es fs xs since is) as (λ _. length (reports since) ≤ 1) [
  | inl p ↦
      let on = waited_on k xs p.0 fs (subst (λ (ys : List Event). HasWaited k xs ys) p.2 waited) in
      let none = ap length (now xs p.0 k p.1 on.waited) in
      let all = ap (λ (ys : List Event). length (reports ys)) p.2 ∙ reports-append p.0 fs in
      omega (arith, none, all, few)
  | inr p ↦ few_last p.0 since (subst (λ (ys : List Event). length (reports ys) ≤ 1) p.2 few)
]

-- the ports were asked at most once after these events
pub soon_then : (es fs : List Event) → IsUpToDate es → AtEachMoment IsSoon es → length (reports fs) ≤ 1 → AtEachMoment IsSoon (es ++ fs)
soon_then es fs now before few xs ys is = elim (two_ways es fs xs ys is) as (λ _. IsSoon xs) [
  | inl p ↦ before xs p.0 p.1
  | inr p ↦ subst IsSoon (sym p.1)
      (soon_within es p.0 now (few_first p.0 ys (subst (λ (zs : List Event). length (reports zs) ≤ 1) p.2 few)))
]

-- ---- reports are heeded

pub starts_more : (P : Event → Type 0) (es fs : List Event) → Starts P es → Starts P (es ++ fs)
starts_more P [] fs none = absurd none
starts_more P (e ∷ es) fs is = is

pub offers_more : (k : ℕ) (es fs : List Event) → OffersTo k es → OffersTo k (es ++ fs)
offers_more k [] fs none = absurd none
offers_more k (e ∷ es) fs is = is

pub heeds_more : (n : ℕ) (at : ℕ → Stage → Type 0) (what : Ready) (es fs : List Event) → Heeds n at what es → Heeds n at what (es ++ fs)
heeds_more n at Came es fs heeds = λ k below is. starts_more IsOpening es fs (heeds k below is)
heeds_more n at (Readable k) es fs heeds = λ is. starts_more (IsReading k) es fs (heeds is)
heeds_more n at (Writable k) es fs heeds = λ stage is some. offers_more k es fs (heeds stage is some)
heeds_more n at (Expired k) es fs heeds = tt
heeds_more n at Nothing es fs heeds = tt
heeds_more n at Failed es fs heeds = tt

-- by another word for where connections are
pub heeds_by : (n : ℕ) (at there : ℕ → Stage → Type 0) (what : Ready) (es : List Event) → ((k : ℕ) (s : Stage) → there k s → at k s)
    → Heeds n at what es → Heeds n there what es
heeds_by n at there Came es by heeds = λ k below is. heeds k below (by k fresh is)
heeds_by n at there (Readable k) es by heeds = λ is. heeds (by k (served [] []) is)
heeds_by n at there (Writable k) es by heeds = λ stage is some. heeds stage (by k stage is) some
heeds_by n at there (Expired k) es by heeds = tt
heeds_by n at there Nothing es by heeds = tt
heeds_by n at there Failed es by heeds = tt

-- where connections are after these events
abbrev pub led : List Event → ℕ → Stage → Type 0
led es k stage = Leads k fresh es stage

-- a report after these events, and what followed it
heeded_last : (n : ℕ) (es gs xs ys : List Event) (what now : Ready) → AreHeeded n es → Heeds n (led es) now gs
    → es ++ reported now ∷ [] ≡ xs ++ reported what ∷ ys → Heeds n (led xs) what (ys ++ gs)
heeded_last n es gs xs ys what now before heeds is =
    elim (two_ways es (reported now ∷ []) xs (reported what ∷ ys) is) as (λ _. Heeds n (led xs) what (ys ++ gs)) [
      | inl p ↦ earlier p.0 p.1 p.2
      | inr p ↦ here p.0 p.1 p.2
    ]
  where
    exactly : xs ≡ es → reported what ∷ ys ≡ reported now ∷ [] → Heeds n (led xs) what (ys ++ gs)
    exactly same one =
        let none : ys ≡ [] = cc in
        let what_is : now ≡ what = cc in
        subst (λ (zs : List Event). Heeds n (led zs) what (ys ++ gs)) (sym same)
        (subst (λ (zs : List Event). Heeds n (led es) what (zs ++ gs)) (sym none)
        (subst (λ (r : Ready). Heeds n (led es) r gs) what_is heeds))

    earlier : (hs : List Event) → es ≡ xs ++ hs → reported what ∷ ys ≡ hs ++ reported now ∷ [] → Heeds n (led xs) what (ys ++ gs)
    earlier [] whole one = exactly (sym (append-nil xs) ∙ sym whole) one
    earlier (h ∷ hs) whole more =
        let first : h ≡ reported what = cc in
        let rest : ys ≡ hs ++ reported now ∷ [] = cc in
        let old = before xs hs what (whole ∙ ap (λ (e : Event). xs ++ e ∷ hs) first) in
        subst (λ (zs : List Event). Heeds n (led xs) what zs) (ap (λ (zs : List Event). zs ++ gs) (sym rest))
        (subst (λ (zs : List Event). Heeds n (led xs) what zs) (sym (append_assoc hs (reported now ∷ []) gs))
        (heeds_more n (led xs) what hs (reported now ∷ gs) old))

    here : (hs : List Event) → xs ≡ es ++ hs → reported now ∷ [] ≡ hs ++ reported what ∷ ys → Heeds n (led xs) what (ys ++ gs)
    here [] whole one = exactly (whole ∙ append-nil es) (sym one)
    here (h ∷ []) whole more = cc
    here (h ∷ i ∷ hs) whole more = cc

pub heeded_then : (n : ℕ) (es gs : List Event) (now : Ready) → AreHeeded n es → reports gs ≡ [] → Heeds n (led es) now gs
    → AreHeeded n ((es ++ reported now ∷ []) ++ gs)
heeded_then n es gs now before unasked heeds xs ys what is =
    elim (two_ways (es ++ reported now ∷ []) gs xs (reported what ∷ ys) is) as (λ _. Heeds n (led xs) what ys) [
      | inl p ↦ earlier p.0 p.1 p.2
      | inr p ↦ not_asked p.0 ys what (ap reports (sym p.2) ∙ unasked)
    ]
  where
    earlier : (hs : List Event) → es ++ reported now ∷ [] ≡ xs ++ hs → reported what ∷ ys ≡ hs ++ gs → Heeds n (led xs) what ys
    earlier [] whole rest = not_asked [] ys what (ap reports rest ∙ unasked)
    earlier (h ∷ hs) whole rest =
        let first : h ≡ reported what = cc in
        let later : ys ≡ hs ++ gs = cc in
        subst (λ (zs : List Event). Heeds n (led xs) what zs) (sym later)
        (heeded_last n es gs xs hs what now before heeds (whole ∙ ap (λ (e : Event). xs ++ e ∷ hs) first))

-- ---- each that waits is answered in a turn of all

-- by those connections of which the numbers are from the bound on, and by the next one
pub answers_next : (first next : ℕ → Stage) (count bound at : ℕ) (ls : List Connection) (l : Connection) (es fs : List Event)
    → ((k : ℕ) → next k ≡ stage_of k count ls) → ((k : ℕ) → Leads k (first k) es (next k)) → AreOpenConnections count ls
    → AreRising (numbers ls) → slice_get ls at ≡ Some l → Splits bound (suc at) (numbers ls) → AnswersFrom bound first es → Answers l fs
    → AnswersFrom l.number first (es ++ fs)
answers_next first next count bound at ls l es fs here goes ok rising is splits before own k from u at_it busy none v leads =
    one (nat_eq k l.number) refl
  where
    on : WaitsOn k (first k) u v es fs
    on = waits_on k (first k) u v es fs at_it busy leads none

    mid : stage_of k count ls ≡ served u []
    mid = sym (here k) ∙ leads_once k (first k) (next k) (served u []) es (goes k) on.first

    one : (b : Bool) → nat_eq k l.number ≡ b → ⊥
    one true same =
        let is_l = eqb-true k l.number same in
        let stage : stage_in l ≡ served u [] = sym (stage_at count ls at l ok is) ∙ ap (λ (i : ℕ). stage_of i count ls) (sym is_l) ∙ mid in
        own u stage busy (subst (λ (i : ℕ). marks_of i fs ≡ []) is_l on.none_then) v
        (subst (λ (s : Stage). Leads l.number s fs (served v [])) (sym stage)
        (subst (λ (i : ℕ). Leads i (served u []) fs (served v [])) is_l on.rest))
    one false other =
        let it = open_of k count ls u [] mid in
        elim (placed_at bound at k ls l it.0 splits rising is it.1 (eqb-false k l.number other)) as (λ _. ⊥) [
          | inl lower ↦ absurd (omega (arith, lower, from))
          | inr beyond ↦ before k beyond u at_it busy on.none u on.first
        ]

-- by the first of these events, and so by all
pub answers_more : (l : Connection) (es fs : List Event) → Answers l es → Answers l (es ++ fs)
answers_more l es fs before u at_it busy none v leads =
    let on = waits_on l.number (stage_in l) u v es fs at_it busy leads none in before u at_it busy on.none u on.first

pub answers_start : (count : ℕ) (ls : List Connection) → AnswersFrom count (λ k. stage_of k count ls) []
answers_start count ls k from u at_it busy none v leads =
    let below = counted_of k count ls u [] at_it in absurd (omega (arith, below, from))

-- after a turn of all connections
pub recent_end : (first next : ℕ → Stage) (count bound : ℕ) (ls : List Connection) (ts : List Event) → reports ts ≡ []
    → ((k : ℕ) → next k ≡ stage_of k count ls) → ((k : ℕ) → Leads k (first k) ts (next k)) → Splits bound 0 (numbers ls)
    → AnswersFrom bound first ts → (es : List Event) → ((k : ℕ) → Leads k fresh es (first k)) → IsUpToDate (es ++ ts)
recent_end first next count bound ls ts unasked here goes splits answers es leads =
    up_to_date es ts unasked (λ k waits none ends. all k waits none ends)
  where
    all : (k : ℕ) → IsWaiting k es → marks_of k ts ≡ [] → IsWaiting k (es ++ ts) → ⊥
    all k (u, at_it, busy) none (v, last, still_busy) =
        let stage = leads_once k fresh (first k) (served u []) es (leads k) at_it in
        let halves = leads_parts k fresh (served v []) es ts last in
        let mid = leads_once k fresh halves.0 (first k) es halves.1 (leads k) in
        let rest = subst (λ (s : Stage). Leads k s ts (served v [])) mid halves.2 in
        let ended = sym (here k) ∙ leads_once k (first k) (next k) (served v []) ts (goes k) rest in
        let it = open_of k count ls v [] ended in
        answers k (from_at bound k ls it.0 splits it.1) u stage busy none v rest

-- if none waited before, whatever one connection did
pub recent_alone : (count : ℕ) (ls : List Connection) (ts : List Event) → reports ts ≡ [] → ArePrompt ls
    → (es : List Event) → ((k : ℕ) → Leads k fresh es (stage_of k count ls)) → IsUpToDate (es ++ ts)
recent_alone count ls ts unasked prompt es leads =
    up_to_date es ts unasked (λ k waits _ _. none_waits count ls es leads prompt k waits)

-- ---- a service

pub keeps_up_none : (n : ℕ) → KeepsUp n []
keeps_up_none n = record {
  soon = λ es fs is xs since k e waited. few es fs xs since is e;
  heeded = λ es fs what is. cons es fs what is;
  recent = λ es since k is waited. ap reports (last es since is);
}
  where
    last : {A : Type 0} (es fs : List A) → [] ≡ es ++ fs → fs ≡ []
    last [] fs is = sym is
    last (e ∷ es) fs is = cc

    head : {A : Type 0} (es fs : List A) → [] ≡ es ++ fs → es ≡ []
    head [] fs is = refl
    head (e ∷ es) fs is = cc

    few : (es fs xs since : List Event) → [] ≡ es ++ fs → es ≡ xs ++ since → length (reports since) ≤ 1
    few es fs xs since is e =
        let none = ap (λ (ys : List Event). length (reports ys)) (last xs since (sym (head es fs is) ∙ e)) in omega (arith, none)

    cons : (es fs : List Event) (what : Ready) → [] ≡ es ++ reported what ∷ fs → Heeds n (led es) what fs
    cons [] fs what is = cc
    cons (e ∷ es) fs what is = cc

pub keeps_up : (n : ℕ) (es gs : List Event) (now : Ready) → KeepsUp n es → reports gs ≡ [] → Heeds n (led es) now gs
    → IsUpToDate ((es ++ reported now ∷ []) ++ gs) → KeepsUp n ((es ++ reported now ∷ []) ++ gs)
keeps_up n es gs now kept unasked heeds recent = record {
  soon = subst (AtEachMoment IsSoon) (sym (append_assoc es (reported now ∷ []) gs))
      (soon_then es (reported now ∷ gs) kept.recent kept.soon (omega (arith, ap length unasked)));
  heeded = heeded_then n es gs now kept.heeded unasked heeds;
  recent = recent;
}

-- where the ports failed as they were asked
pub soon_failed : (n : ℕ) (es : List Event) (now : Ready) → KeepsUp n es → AtEachMoment IsSoon (es ++ reported now ∷ [])
soon_failed n es now kept = soon_then es (reported now ∷ []) kept.recent kept.soon (omega arith)

pub heeded_failed : (n : ℕ) (es : List Event) (now : Ready) → KeepsUp n es → Heeds n (led es) now [] → AreHeeded n (es ++ reported now ∷ [])
heeded_failed n es now kept heeds =
    subst (AreHeeded n) (append-nil (es ++ reported now ∷ [])) (heeded_then n es [] now kept.heeded refl heeds)
