-- A service from its start to its end.
use Rattle.std.proofs.Common.{◌≡◌, ℕ, List, None, subst}
use Rattle.std.specs.Prelude.{Err}
use Rattle.plant_books.specs.declared.books.Books as books
use Rattle.plant_model.specs.declared.{call.Call.{Call}, reply.Answer.{Answer}}
use Rattle.plant_server_clients.specs.Accounts.{AreSent, AreServed, AtEachMoment, HasOpened, Outcome}
use Rattle.plant_server_clients.specs.{Causes.{AreDue, HaveFailed}, Fairness.{IsFair, IsSoon, IsSteady}, Heeded.{AreHeeded}, Happens.{ServiceState, stages}, Service.{IsUnderWay}}
use Rattle.plant_server_clients.specs.{Events.{Event, Seen, all_answers, all_calls}, Stages.{Leads, Stage, fresh, stage_of}}
use Rattle.plant_server_clients.proofs.{Few.{bounded}, Ordered.{in_order, lasting}}
use Rattle.plant_server_clients.proofs.{Apart.{apart_from}, Ends.{ends_each}, Numbers.{none_yet}, Leading.{each_all, moment}}
use Rattle.plant_server_clients.proofs.Moments.{at_each_moment}
use Rattle.plant_server_clients.specs.declared.{connections.Connection.{Connection}, serving.Halted.TheVariants.{Ports}}

module _ {ran : List Call → List Answer → Type 0} {n : ℕ} {r : Outcome} where
  abbrev pub sent_from : (events : List Event) (count : ℕ) (ls : List Connection) → ran (all_calls events) (all_answers events)
      → ((k : ℕ) → Leads k fresh events (stage_of k count ls)) → AtEachMoment IsFair events → AtEachMoment IsSteady events → AreDue None events
      → AtEachMoment IsSoon events → AreHeeded n events → HasOpened n count ls r → AreSent ran n r
  sent_from events count ls made goes fair steady due soon heeded stops = record {
    events = events;
    count = count;
    connections = ls;
    made = made;
    answered = λ k. at_each_moment k events (stage_of k count ls) (goes k);
    goes = goes;
    ends = ends_each events (λ k. stage_of k count ls) goes;
    fair = fair;
    steady = steady;
    bounded = bounded events (λ k. stage_of k count ls) goes fair steady;
    soon = soon;
    heeded = heeded;
    in_order = in_order events (λ k. stage_of k count ls) goes;
    caused = due.caused;
    offered = due.offered;
    stops = stops;
  }

module _ {B : Type 0} {b : books.Ghosts B} {x y : B} {seen : Seen} {now : ServiceState} {n turns : ℕ} {r : Outcome} where
  unfoldable pub served_from : (w : IsUnderWay b x y seen now turns) → AtEachMoment IsSoon w.happened.events → AreHeeded n w.happened.events → HasOpened n now.count now.connections r → (r ≡ Err Ports → HaveFailed w.happened.events)
      → AreServed b x y seen now.seen n r
  served_from w soon heeded stops halts =
      let h = w.happened in
      let goes : (k : ℕ) → Leads k fresh h.events (stages now k) = λ k. subst (λ (a : Stage). Leads k a h.events (stages now k))
      (none_yet k) (h.leads k) in
      let all = each_all b x y h.events h.makes in
      record {
        sent = sent_from h.events now.count now.connections all.ran goes w.kept.fair w.kept.steady w.kept.due soon heeded stops;
        shown = h.shown;
        halts = halts;
        moments = λ es fs is. moment b x y h.events es fs is h.makes;
        lasting = λ es fs is. lasting b x (moment b x y h.events es fs is h.makes).books es (moment b x y h.events es fs is h.makes).made;
        apart = λ m held w legal holds t. apart_from w h.events (all.ran.run m held w legal holds t).isolated;
      }
