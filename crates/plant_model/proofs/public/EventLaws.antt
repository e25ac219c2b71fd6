-- In a legal history the kept events fit, rise, and are of alarms that are registered.
use Rattle.std.specs.List.{list_any}
use Rattle.std.proofs.Common.{ap, cond, refl, subst, sym, true, ◌++◌, ◌+◌, ◌∙◌, ◌≡◌, find, nat_cmp, Bool, Err, List, None, Ok, Option, Result, Some, [], false, filter_map, is_some, length, nat_lt, ℕ, ◌||◌, ◌∷◌, true≢false}
use Rattle.std.proofs.lemmas.{Bool.{false_from_ne_true, and_parts}, List.Folds.{list_any-append}}
use Rattle.plant_import.specs.{Files.{are_known, is_fit}, Merging.{IsRising, first_fault}, Numbers.{has_number, new_numbers, numbers_of}}
use Rattle.plant_import.{specs.declared.bad_file.BadFile.{BadFile}, proofs.public.FileLaws.{clash_of, fit_within, member, none_within}}
use Rattle.plant_model.specs.{Alarms.{latching, said_of_latching}, Events.{event_numbered, events, imported}, Facts.{facts}, Legality.{IsLegal}}
use Rattle.plant_model.specs.{Refusals.{fault_entries, file_refusals, tags_of}, Rows.{alarm_rows}}
use Rattle.plant_model.specs.steps.{Parts.{none}, RowFacts.{alarm_tag, event_number}}
use Rattle.plant_model.specs.declared.call.{Call.{Call}, Request.{Request, TheVariants.{Import}}}
use Rattle.plant_model.proofs.{EventLists.{IsOf, member_told, of_both, of_find, rising, rows_known, whole_fits}, ProposalLaws.{no_revision}}
use Rattle.plant_model.proofs.public.{Accepted.{by_legal, AllOff, IsEntry, made, unrefused}, ChangeLaws.{IsUnspoken}}
use Rattle.plant_model.proofs.public.{FactLaws.{alarm_in, is_some-map}, HistoryLaws.{alarm_of, events_told, numbers_of_events}, PutLaws.{key_in}}
use Rattle.plant_model.proofs.public.ServiceLaws.{no_outage}
use Rattle.plant_alarm.specs.declared.event.Event.{Event}
use Rattle.plant_floods.specs.Activations.{of_alarm}
use Rattle.plant_types.specs.{KeyedRows.{IsInOrder, in_order}, Limits.{max_events}, Names.{Name, name_cmp, same_name}, Options.{or_else}}
use Rattle.plant_types.proofs.public.{KeyedRowLaws.{IsInOrder-rows, row_at-rows, tied}, Orders.{same_names}}

-- what follows for its file from the acceptance of an import
abbrev FileAccepted : List Call → ℕ → Result (List Event) BadFile → Type 0
FileAccepted h t (Err fault) = ⊥
FileAccepted h t (Ok rows) = (nat_lt max_events (length (events h) + length (new_numbers (events h) rows)) ≡ false)
    × (first_fault (tags_of (facts h)) t 2 (events h) rows ≡ None)

no_fault : (fault : Option BadFile) → AllOff (fault_entries fault) → fault ≡ None
no_fault None off = refl
no_fault (Some fault) off = absurd (true≢false off.0)

file_accepted : (h : List Call) (t : ℕ) (file : Result (List Event) BadFile) → AllOff (file_refusals (facts h) t file) → FileAccepted h t file
file_accepted h t (Err fault) off = true≢false off.0
file_accepted h t (Ok rows) off = (off.0, no_fault _ off.1)

pub import_accepted : (h : List Call) (p : Name) (t : ℕ) (u : Name) (file : Result (List Event) BadFile) → IsEntry h (made p t (Import u file))
    → FileAccepted h t file
import_accepted h p t u file entry = file_accepted h t file (unrefused h (made p t (Import u file)) entry).1.1.1

-- what the history has at a number is what its events have there
pub found_event : (h : List Call) (n : ℕ) → find (has_number n) (events h) ≡ event_numbered h n
found_event h n = row_at-rows (event_numbered h) (numbers_of_events h) (events_told h) n

pub events_in_order : (h : List Call) → IsInOrder nat_cmp event_number (events h)
events_in_order h = IsInOrder-rows (event_numbered h) (numbers_of_events h) (events_told h)

module _ (h : List Call) (p : Name) (t : ℕ) (u : Name) (rows : List Event) where
  abbrev pub now : List Call
  now = record { person = p; moment = t; request = Import u (Ok rows) } ∷ h

  -- the events after an import are those kept and those of its rows
  pub events_brought : (e : Event) → member e (events now) ≡ true → member e (events h ++ rows) ≡ true
  events_brought e there =
      let told = member_told (event_numbered now) (in_order nat_cmp (numbers_of_events now)) e there in
      let n : ℕ = told.0 in
      let is : or_else (find (has_number n) rows) (find (has_number n) (events h)) ≡ Some e =
      ap (or_else (find (has_number n) rows)) (found_event h n) ∙ told.1 in
      (subst (IsOf (events h ++ rows) n) is (of_both n (events h) rows _ _ (of_find n rows) (of_find n (events h)))).0

-- a tag among those of the alarms is registered
pub tag_registered : (h : List Call) (a : Name) → list_any (same_name a) (tags_of (facts h)) ≡ is_some (latching h a)
tag_registered h a = key_in name_cmp alarm_tag a (alarm_rows h) ∙ ap is_some (alarm_in h a) ∙ is_some-map (alarm_of h a) (latching h a)

-- of an alarm that is not registered no row of a file without fault is
abbrev pub is_of : Name → Event → Bool
is_of a e = same_name a e.tag

none_named : (tags : List Name) (a : Name) (rows : List Event) → are_known tags rows ≡ true → list_any (same_name a) tags ≡ false
    → list_any (is_of a) rows ≡ false
none_named tags a [] known none = refl
none_named tags a (e ∷ rows) known none =
    let parts = and_parts (list_any (same_name e.tag) tags) (are_known tags rows) known in
    let rest = none_named tags a rows parts.1 none in
    let other : same_name a e.tag ≡ false =
    false_from_ne_true (same_name a e.tag)
    (λ is. clash_of (list_any (same_name a) tags) (ap (λ y. list_any (same_name y) tags) (same_names a e.tag (tied _ true is refl))
    ∙ parts.0) none) in
    λ i. other i || rest i

-- what follows for the events from legality
pub record Kept (h : List Call) : Type 0 where
  pub fit : is_fit (events h) ≡ true
  pub known : (a : Name) → latching h a ≡ None → list_any (is_of a) (events h) ≡ false

kept_import : (h : List Call) (p : Name) (t : ℕ) (u : Name) (file : Result (List Event) BadFile) → Kept h → FileAccepted h t file
    → Kept (made p t (Import u file) ∷ h)
kept_import h p t u (Err fault) k accepted = absurd accepted
kept_import h p t u (Ok rows) k accepted =
    record {
      fit = fit_within (events h ++ rows) (events (now h p t u rows)) (whole_fits (tags_of (facts h)) t (events h) rows k.fit accepted.1)
          (events_brought h p t u rows);
      known = λ a none.
          none_within (is_of a) (events (now h p t u rows)) (events h ++ rows) (events_brought h p t u rows)
          (list_any-append (is_of a) (events h) rows
          ∙ (λ i. k.known a none i
          || none_named (tags_of (facts h)) a rows (rows_known (tags_of (facts h)) t 2 (events h) rows accepted.1)
          (tag_registered h a ∙ ap is_some none) i));
    }

-- another call brings no event, and what it registers is registered now
kept_other : (h : List Call) (p : Name) (t : ℕ) (q : Request) → imported q ≡ [] → Kept h → Kept (made p t q ∷ h)
kept_other h p t q none k =
    record {
      fit = fit_within (events h) (events (made p t q ∷ h)) k.fit same;
      known = λ a unregistered. none_within (is_of a) (events (made p t q ∷ h)) (events h) same (k.known a (before a unregistered));
    }
  where
    same : (e : Event) → member e (events (made p t q ∷ h)) ≡ true → member e (events h) ≡ true
    same e there =
        ap (λ rows. member e (filter_map (λ n. or_else (find (has_number n) rows) (event_numbered h n)) (in_order nat_cmp (numbers_of rows
        ++ numbers_of_events h)))) (sym none) ∙ there

    before : (a : Name) → latching (made p t q ∷ h) a ≡ None → latching h a ≡ None
    before a e = elim (said_of_latching a q) as (λ o. or_else o (latching h a) ≡ None → latching h a ≡ None) [ None ↦ λ is. is | Some l ↦ λ is. cc ] e

kept_next : (h : List Call) (p : Name) (t : ℕ) (q : Request) → IsEntry h (made p t q) → Kept h → Kept (made p t q ∷ h)
kept_next h p t (Import u file) entry k = kept_import h p t u file k (import_accepted h p t u file entry)
kept_next h p t _ entry k = kept_other h p t _ refl k

pub legal_kept : (h : List Call) → IsLegal h → Kept h
legal_kept =
    by_legal Kept (λ p t u s m k shape. record { fit = refl; known = λ a none. refl }) (λ h c f. kept_next h c.person c.moment c.request f.entry)

-- so they rise
pub events_rise : (h : List Call) → IsLegal h → IsRising (events h)
events_rise h legal = rising (events h) ((legal_kept h legal).fit) (events_in_order h)

-- and an alarm that is not registered has none
no_event_of : (a : Name) (es : List Event) → list_any (is_of a) es ≡ false → of_alarm a es ≡ []
no_event_of a [] none = refl
no_event_of a (e ∷ es) none =
    elim (same_name a e.tag) as (λ b. (b || list_any (is_of a) es) ≡ false
    → cond b (e ∷ of_alarm a es) (of_alarm a es) ≡ []) [ true ↦ λ no. cc | false ↦ λ rest. no_event_of a es rest ] none

pub unspoken : (h : List Call) → IsLegal h → (a : Name) → latching h a ≡ None → IsUnspoken h a
unspoken h legal a none =
    record {
      no_revision = no_revision h legal a none;
      no_event = no_event_of a (events h) ((legal_kept h legal).known a none);
      no_outage = no_outage h legal a none;
    }
