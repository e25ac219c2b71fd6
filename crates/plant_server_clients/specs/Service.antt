-- The open connections, and the turns that they have.
use Rattle.std.specs.Prelude.{Bool, false, true, ℕ, suc, length, map, List, [], Option, Some, slice_get, remove, ◌⊎◌, ◌≡◌, ◌≢◌, ◌<◌, ◌≤◌, ◌++◌}
use Rattle.plant_books.specs.declared.books.Books.{Ghosts}
use Rattle.plant_server_clients.specs.{Accounts.{AtEachMoment}, Causes.{Always, OffersTo}, Events.{Event, Log, Seen, marks_of, reports, seen_by}}
use Rattle.plant_server_clients.specs.{Fairness.{IsSoon, IsUpToDate}, Happens.{Answers, Happened, Passed, ServiceState, stages}, Heeded.{AreHeeded, IsOpening, IsReading, Starts, pending_at}}
use Rattle.plant_wire.specs.Session.{IsIdle}
use Rattle.plant_server_clients.specs.{Paces.{AreKept, AreRising, Keeps, Splits, numbers}, Prompt.{ArePrompt}}
use Rattle.plant_server_clients.specs.Stages.{AreOpenConnections, Leads, Stage, fresh, served, stage_in}
use Rattle.plant_server_clients.specs.declared.connections.Connection.{Connection}
use Rattle.plant_server_clients.specs.declared.serving.{Due.{Due}, Service.{Service}, Turn.{Turn}}

-- the open connections, in the order in which they were accepted, each with its client; no more were accepted than are
-- to be served
pub record IsConsistent {C : Type 0} (number_of : C → ℕ) (service : Service C) : Type 0 where
  pub connections : AreOpenConnections service.count service.connections.items
  pub few : service.count ≤ service.plan.connections
  pub rising : AreRising (numbers service.connections.items)
  pub clients : map number_of service.clients.items ≡ numbers service.connections.items

-- unless the service is busy, the ports may be waited for
abbrev pub MayWait : {C : Type 0} → Service C → Type 0
MayWait service = service.busy ≡ false → ArePrompt service.connections.items

-- the service, with what the ports and the log show
abbrev pub service_state : {C : Type 0} → Log → Option (List ℕ) → Service C → ServiceState
service_state ports log service = record { seen = seen_by ports log; count = service.count; connections = service.connections.items }

-- a service before it accepted any connection
abbrev pub new_service : Seen → ServiceState
new_service seen = record { seen = seen; count = 0; connections = [] }

-- each connection from the bound on that waits is answered by these events, or is over
abbrev pub AnswersFrom : ℕ → (ℕ → Stage) → List Event → Type 0
AnswersFrom bound at events = (k : ℕ) → bound ≤ k → (unread : List ℕ) → at k ≡ served unread [] → (IsIdle unread → ⊥)
    → marks_of k events ≡ [] → (v : List ℕ) → Leads k (at k) events (served v []) → ⊥

-- What happened, and that it keeps the turns going from this bound on, if `given` is true of the event before. The ports
-- were not asked, and whoever still waits began to wait meanwhile.
pub record IsRound {B : Type 0} (given : Option Event → Type 0) (from : ℕ) (b : Ghosts B) (x y : B) (before after : ServiceState) : Type 0 where
  pub happened : Happened b x y before after
  pub keeps : Keeps given from 0 (stages before) happened.events
  pub unasked : reports happened.events ≡ []
  pub recent : (es : List Event) → ((k : ℕ) → Leads k fresh es (stages before k)) → IsUpToDate (es ++ happened.events)

-- the same within a turn of all connections, from the last one to this place: those from the bound on had their turns
pub record IsWithinRound {B : Type 0} (b : Ghosts B) (x y : B) (before after : ServiceState) (at : ℕ) : Type 0 where
  pub happened : Happened b x y before after
  pub bound : ℕ
  pub splits : Splits bound at (numbers after.connections)
  pub keeps : Keeps Always before.count bound (stages before) happened.events
  pub unasked : reports happened.events ≡ []
  pub answers : AnswersFrom bound (stages before) happened.events

-- a service so far, after this many turns
pub record IsUnderWay {B : Type 0} (b : Ghosts B) (x y : B) (seen : Seen) (now : ServiceState) (turns : ℕ) : Type 0 where
  pub happened : Happened b x y (new_service seen) now
  pub kept : AreKept 0 happened.events
  pub asked : turns ≤ length (reports happened.events)

-- the connection that waits was accepted, or that was tried, if fewer than n were accepted; otherwise nothing happened
abbrev pub IsAccepting : ℕ → ServiceState → ServiceState → Type 0
IsAccepting n before after = (passed : Passed Always true before after) × (before.count < n → Starts IsOpening passed.events)

-- where each connection is
abbrev pub at_stages : ServiceState → ℕ → Stage → Type 0
at_stages s k stage = stages s k ≡ stage

-- first of all the connection was read, if that was asked for and nothing of it was left, or sent what was still to be
-- sent
pub record IsDueTurn (due : Due) (before : ServiceState) (events : List Event) : Type 0 where
  pub tries : due.reads ≡ true → stages before due.number ≡ served [] [] → Starts (IsReading due.number) events
  pub offers : (stage : Stage) → stages before due.number ≡ stage → pending_at stage ≢ [] → OffersTo due.number events

-- of n connections, before the ports are asked again: whoever waits was soon served, and what they reported was heeded
pub record KeepsUp (n : ℕ) (events : List Event) : Type 0 where
  pub soon : AtEachMoment IsSoon events
  pub heeded : AreHeeded n events
  pub recent : IsUpToDate events

-- One turn, from one state of the books and of the service to another. `given` is assumed of the event before.
pub record IsTurn {B : Type 0} (given : Option Event → Type 0) (b : Ghosts B) (x y : B) (before after : ServiceState) (serves : Bool) : Type 0 where
  pub happened : Happened b x y before after
  pub unasked : reports happened.events ≡ []
  -- requests are answered in it only if none was left before
  pub alone : serves ≡ true → ArePrompt before.connections → Keeps given 0 0 (stages before) happened.events
  pub busy : serves ≡ false → Keeps given 0 after.count (stages before) happened.events

-- A turn of the connection at its place: it has its turn after those from the bound on, and its number is the next
-- bound.
pub record IsTurnAt {B : Type 0} (b : Ghosts B) (x y : B) (before after : ServiceState) (turn : Turn) : Type 0 where
  pub turned : IsTurn Always b x y before after turn.asked.serves
  pub paces : turn.asked.reads ≡ false → turn.asked.serves ≡ true → (bound : ℕ) (l : Connection) → slice_get before.connections turn.at ≡ Some l
      → Splits bound (suc turn.at) (numbers before.connections)
      → Keeps Always bound l.number (stages before) turned.happened.events
  pub others : (numbers after.connections ≡ numbers before.connections)
      ⊎ (numbers after.connections ≡ remove (numbers before.connections) turn.at)
  pub answers : turn.asked.serves ≡ true → (l : Connection) → slice_get before.connections turn.at ≡ Some l
      → Answers l turned.happened.events
  pub tries : turn.asked.reads ≡ true → (l : Connection) → slice_get before.connections turn.at ≡ Some l
      → stage_in l ≡ served [] [] → Starts (IsReading l.number) turned.happened.events
  pub offers : (l : Connection) → slice_get before.connections turn.at ≡ Some l
      → l.pending.text.items ≢ [] → OffersTo l.number turned.happened.events
