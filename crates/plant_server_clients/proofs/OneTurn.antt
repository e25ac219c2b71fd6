-- A turn of a connection: a read, an answer and a write, or a read that failed.
use Rattle.std.proofs.Common.{◌≡◌, ◌≢◌, ◌+◌, ℕ, List, [], ◌∷◌, ◌++◌, Bool, false, None, Option, Some, length, inl, inr, refl, sym, ap, subst, ◌∙◌, arith, length-append}
use Rattle.std.proofs.lemmas.Grind.{flat_map-append}
use Rattle.plant_books.specs.declared.books.Books as books
use Rattle.plant_office.specs.declared.office.Faults.{Faults}
use Rattle.plant_wire.specs.{declared.reads.End.{End, TheVariants.{ReadFailed, WriteFailed}}}
use Rattle.plant_server_clients.specs.{Books.{AreQuiet}, Causes.{OffersTo, last_of}}
use Rattle.plant_server_clients.specs.Events.{Event, all_calls, arrivals, arrivals_in, calls_in, closed, marks_of, reading, writing}
use Rattle.plant_server_clients.specs.{Happens.{IsTurnOf, Made, Moved}, Heeded.{IsReading}}
use Rattle.plant_server_clients.specs.Stages.{Leads, MayClose, Moves, Stage, gone, served, stage_by, stage_in}
use Rattle.plant_server_clients.proofs.{Due.{due_then}, Leading.{quiet_then, went_then}, Soon.{starts_more}, Waited.{leads_once, not_over, wait_leads, waits_on}}
use Rattle.plant_server_clients.specs.declared.connections.Connection.{Connection}

no_calls : (es : List Event) → AreQuiet es → all_calls es ≡ []
no_calls [] quiet = refl
no_calls (e ∷ es) quiet = ap (λ cs. cs ++ all_calls es) quiet.0 ∙ no_calls es quiet.2

calls_all : (es fs gs : List Event)
    → length (all_calls (es ++ (fs ++ gs))) ≡ length (all_calls es) + (length (all_calls fs) + length (all_calls gs))
calls_all es fs gs =
    ap length (flat_map-append calls_in es (fs ++ gs)) ∙ length-append (all_calls es) (all_calls (fs ++ gs))
    ∙ ap (λ n. length (all_calls es) + n) (ap length (flat_map-append calls_in fs gs) ∙ length-append (all_calls fs) (all_calls gs))

arrive_all : (es fs gs : List Event)
    → length (arrivals (es ++ (fs ++ gs))) ≡ length (arrivals es) + (length (arrivals fs) + length (arrivals gs))
arrive_all es fs gs =
    ap length (flat_map-append arrivals_in es (fs ++ gs)) ∙ length-append (arrivals es) (arrivals (fs ++ gs))
    ∙ ap (λ n. length (arrivals es) + n) (ap length (flat_map-append arrivals_in fs gs) ∙ length-append (arrivals fs) (arrivals gs))

module _ {B : Type 0} (b : books.Ghosts B) (x y : B) (f g : Faults) (s t u : Option (List Event)) (l m n o : Connection)
    (reads serves here goes_on : Bool) where
  pub turn_one : (p : Moved s t l m reads reading here) (made : Made b x y f g m n serves) (q : Moved t u n o false writing goes_on)
      → IsTurnOf l reads serves (p.events ++ (made.events ++ q.events))
  turn_one p made q = record {
    own = (went_then p.events (made.events ++ q.events) l m o p.went (went_then made.events q.events m n o made.went q.went)).own;
    once = omega (
      arith,
      calls_all p.events made.events q.events,
      ap length (no_calls p.events p.quiet),
      ap length (no_calls q.events q.quiet),
      made.once,
    );
    answers = λ is unread at busy none v leads.
        let on = waits_on l.number (stage_in l) unread v p.events (made.events ++ q.events) at busy leads none in
        let now = leads_once l.number (stage_in l) (stage_in m) (served unread []) p.events p.went.leads on.first in
        let answer = waits_on l.number (served unread []) unread v made.events q.events refl busy on.rest on.none_then in
        made.answers is unread now busy (subst (λ (k : ℕ). marks_of k made.events ≡ []) (sym p.went.same) answer.none) unread
        (subst (λ (st : Stage). Leads m.number st made.events (served unread [])) (sym now)
        (subst (λ (k : ℕ). Leads k (served unread []) made.events (served unread [])) (sym p.went.same) answer.first));
    quiet = λ no.
        quiet_then p.events (made.events ++ q.events) p.quiet (quiet_then made.events q.events (made.asks no) q.quiet);
    arrives = record {
      one = omega (arith, arrive_all p.events made.events q.events, p.arrives.one, made.calm, q.arrives.none refl);
      none = λ no.
          omega (arith, arrive_all p.events made.events q.events, p.arrives.none no, made.calm, q.arrives.none refl);
    };
    due = λ before.
        due_then before p.events (made.events ++ q.events) (p.due before)
        (made.due (last_of before p.events) q.events q.due
        (λ some. subst (λ (k : ℕ). OffersTo k q.events) made.went.same (q.offers refl some)));
    tries = λ on free. starts_more (IsReading l.number) p.events (made.events ++ q.events) (p.tries on refl free);
    offers = λ some.
        let still = p.waits refl some in
        let some_left : m.pending.text.items ≢ [] = λ none. some (sym still.pending ∙ none) in
        let unmade = made.waits some_left in
        let some_sent : n.pending.text.items ≢ [] = λ none. some_left (sym unmade.pending ∙ none) in
        let all : p.events ++ (made.events ++ q.events) ≡ q.events = (λ i. still.none i ++ (unmade.none i ++ q.events)) in
        subst (OffersTo l.number) (sym all)
        (subst (λ (k : ℕ). OffersTo k q.events) (made.went.same ∙ p.went.same) (q.offers refl some_sent));
  }

-- a connection that is closed for a failed read has nothing to send
closes_empty : (k : ℕ) (u p : List ℕ) (e : Option End) → Moves (stage_by u p e) (closed k ReadFailed) gone → p ≡ []
closes_empty k u p None (given, is) = given.0
closes_empty k u p (Some end) (may, is) = elim may as (λ _. p ≡ []) [ inl h ↦ h.1 | inr h ↦ not_write h.0 ]
  where
    not_write : {A : Type 0} → ReadFailed ≡ WriteFailed → A
    not_write is = cc

-- a connection on which a request can be answered is not read
pub short_one : (s t : Option (List Event)) (l m : Connection) (reads serves here : Bool) (p : Moved s t l m reads reading here) → MayClose m ReadFailed
    → IsTurnOf l reads serves p.events
short_one s t l m reads serves here p may = record {
  own = p.went.own;
  once = omega (arith, ap length (no_calls p.events p.quiet));
  answers = λ is unread at busy none v leads.
      elim (wait_leads l.number unread (stage_in l) (served v []) p.events at busy leads none) as (λ _. ⊥) [
        | inl same ↦
            let now = leads_once l.number (stage_in l) (stage_in m) (served v []) p.events p.went.leads leads ∙ same in
            let closes = subst (λ (st : Stage). Moves st (closed m.number ReadFailed) gone) now may in
            busy closes.0.1
        | inr over ↦ not_over (served v []) v [] refl over
      ];
  quiet = λ _. p.quiet;
  arrives = p.arrives;
  due = p.due;
  tries = λ on free. p.tries on refl free;
  offers = λ some. absurd (some (sym (p.waits refl some).pending ∙ closes_empty m.number m.unread.items m.pending.text.items m.end may));
}
