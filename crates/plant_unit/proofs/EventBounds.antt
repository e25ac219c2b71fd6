-- The events that a legal history keeps are at most 100,000.
use Rattle.std.proofs.lemmas.Bool.{ltb-false}
use Rattle.std.proofs.Common.{arith, refl, subst, sym, nat_cmp, Err, List, Ok, Result, [], filter_map, length, ℕ, ◌++◌, ◌+◌, ◌∷◌, ◌≡◌, ◌≤◌, find}
use Rattle.plant_types.specs.{KeyedRows.{in_order, put_row}, Limits.{max_events}, Names.{Name}, Options.{or_else}}
use Rattle.plant_alarm.specs.declared.event.Event.{Event}
use Rattle.plant_import.specs.{Merging.{fresh}, Numbers.{event_number, has_number, new_numbers, numbers_of, with_events}}
use Rattle.plant_import.{specs.declared.bad_file.BadFile.{BadFile}, proofs.public.Counted.{fresh_count}}
use Rattle.plant_model.specs.{Events.{event_numbered, events, imported}, Facts.{facts}, Legality.{IsLegal}, Refusals.{tags_of}}
use Rattle.plant_model.{specs.declared.call.{Call.{Call}, Request.{Request, TheVariants.{Import}}}, proofs.public.Accepted.{by_legal, IsEntry, made}}
use Rattle.plant_model.proofs.public.{EventLaws.{import_accepted, legal_kept}, HistoryLaws.{numbers_of_events}, ImportLaws.{events_put}}
use Rattle.plant_model.proofs.public.PutLaws.{length-put}

pub length_with : (es more : List Event) → length (with_events es more) ≤ length es + length more
length_with es [] = omega arith
length_with es (e ∷ more) =
    let rest = length_with (put_row nat_cmp event_number e es) more in
    let here = length-put nat_cmp event_number e es in
    omega (arith, rest, here)

few_import : (h : List Call) (p : Name) (t : ℕ) (u : Name) (file : Result (List Event) BadFile) → IsLegal h → IsEntry h (made p t (Import u file))
    → length (events (made p t (Import u file) ∷ h)) ≤ max_events
few_import h p t u (Err fault) legal entry = absurd (import_accepted h p t u (Err fault) entry)
few_import h p t u (Ok rows) legal entry =
    let file = import_accepted h p t u (Ok rows) entry in
    let room = ltb-false max_events (length (events h) + length (new_numbers (events h) rows)) file.0 in
    let count = fresh_count (tags_of (facts h)) t 2 (events h) rows file.1 in
    let put = events_put h p t u rows (legal_kept h legal) file.1 in
    let long = length_with (events h) (fresh (events h) rows) in
    subst (λ (es : List Event). length es ≤ max_events) put (omega (arith, room, count, long))

few_other : (h : List Call) (p : Name) (t : ℕ) (q : Request) → imported q ≡ [] → length (events h) ≤ max_events
    → length (events (made p t q ∷ h)) ≤ max_events
few_other h p t q none few =
    subst (λ (rows : List Event). length (filter_map (λ n. or_else (find (has_number n) rows) (event_numbered h n)) (in_order nat_cmp (numbers_of rows
    ++ numbers_of_events h))) ≤ max_events) (sym none) few

few_next : (h : List Call) (p : Name) (t : ℕ) (q : Request) → IsLegal h → IsEntry h (made p t q) → length (events h) ≤ max_events
    → length (events (made p t q ∷ h)) ≤ max_events
few_next h p t (Import u file) legal entry few = few_import h p t u file legal entry
few_next h p t q legal entry few = few_other h p t q refl few

pub few_events : (h : List Call) → IsLegal h → length (events h) ≤ max_events
few_events =
    by_legal (λ h. length (events h) ≤ max_events) (λ p t u s m k shape. omega arith)
    (λ h c f. few_next h c.person c.moment c.request f.legal f.entry)
