-- What is done at connections: by one connection, and by all.
use Rattle.std.specs.Prelude.{◌≡◌, ◌≢◌, ◌≤◌, ℕ, Bool, false, true, List, [], ◌∷◌, ◌++◌, length, IfSome, Option, Some}
use Rattle.plant_wire.specs.{Session.{IsIdle}, declared.reads.End.{End}}
use Rattle.plant_books.specs.declared.books.Books.{Ghosts}
use Rattle.plant_office.specs.{Faults.{noted}, declared.office.Faults.{Faults}}
use Rattle.plant_server_clients.specs.{Books.{AreQuiet, MakesEach}, Causes.{AreDue, IsDueTo, OffersTo, last_of}}
use Rattle.plant_server_clients.specs.Events.{AreTold, Event, Log, Logs, Seen, Shows, Trial, all_answers, all_calls, arrivals, at_ports, failed, marks_of, reading, reports, who, writing}
use Rattle.plant_server_clients.specs.Heeded.{IsReading, Starts}
use Rattle.plant_server_clients.specs.Stages.{Leads, Stage, served, stage_in, stage_of}
use Rattle.plant_server_clients.specs.declared.connections.{Asked.{Asked}, Connection.{Connection}}

-- a connection at a moment, and what the ports saw until then
pub record ConnectionState : Type 0 where
  pub seen : Log
  pub connection : Connection

abbrev pub connection_state : Log → Connection → ConnectionState
connection_state seen connection = record { seen = seen; connection = connection }

-- a service at a moment: what was seen of it until then, how many connections were accepted, and those that are open
pub record ServiceState : Type 0 where
  pub seen : Seen
  pub count : ℕ
  pub connections : List Connection

-- where each connection is
abbrev pub stages : ServiceState → ℕ → Stage
stages service k = stage_of k service.count service.connections

-- these events are of the connection k
abbrev pub AreOf : ℕ → List Event → Type 0
AreOf k [] = Unit {0}
AreOf k (e ∷ es) = (who e ≡ k) × AreOf k es

-- where a whole request waits and nothing is left to send, these events answer it or end the connection
abbrev pub Answers : Connection → List Event → Type 0
Answers l events = (unread : List ℕ) → stage_in l ≡ served unread [] → (IsIdle unread → ⊥) → marks_of l.number events ≡ []
    → (v : List ℕ) → Leads l.number (stage_in l) events (served v []) → ⊥

-- at most one thing came, and none if the connection was not to be read
pub record Arrives (reads : Bool) (events : List Event) : Type 0 where
  pub one : length (arrivals events) ≤ 1
  pub none : reads ≡ false → length (arrivals events) ≡ 0

-- It had one turn: at most one call was made; a request was answered if `serves`, and otherwise no call was made. It was
-- read first of all if that was asked for and nothing was left of it, and sent first of all what was still to be sent.
pub record IsTurnOf (l : Connection) (reads serves : Bool) (events : List Event) : Type 0 where
  pub own : AreOf l.number events
  pub once : length (all_calls events) ≤ 1
  pub answers : serves ≡ true → Answers l events
  pub quiet : serves ≡ false → AreQuiet events
  pub arrives : Arrives reads events
  pub due : (before : Option Event) → AreDue before events
  pub tries : reads ≡ true → stage_in l ≡ served [] [] → Starts (IsReading l.number) events
  pub offers : l.pending.text.items ≢ [] → OffersTo l.number events

-- These events, none of which is in the log or a report of the ports, lead the connection from its stage before to that
-- after.
pub record Went (events : List Event) (before after : Connection) : Type 0 where
  pub own : AreOf before.number events
  pub same : after.number ≡ before.number
  pub untold : AreTold events []
  pub unasked : reports events ≡ []
  pub leads : Leads before.number (stage_in before) events (stage_in after)

-- nothing happened at the connection, and what is still to be sent stayed
pub record IsPassedOver (before after : Connection) (events : List Event) : Type 0 where
  pub none : events ≡ []
  pub pending : after.pending.text.items ≡ before.pending.text.items

-- A read or a write was tried, and no call was made. A connection of which nothing is left is read, and one to which an
-- answer is still to be sent is not. If a write was tried, what is still to be sent was offered; if the
-- connection does not go on, what was tried failed.
pub record Moved (s t : Log) (before after : Connection) (reads : Bool) (trial : Trial) (goes_on : Bool) : Type 0 where
  pub events : List Event
  pub quiet : AreQuiet events
  pub arrives : Arrives reads events
  pub logged : Logs s t (at_ports events)
  pub went : Went events before after
  pub due : (last : Option Event) → AreDue last events
  pub offers : trial ≡ writing → before.pending.text.items ≢ [] → OffersTo before.number events
  pub tries : reads ≡ true → trial ≡ reading → stage_in before ≡ served [] [] → Starts (IsReading before.number) events
  pub waits : trial ≡ reading → before.pending.text.items ≢ [] → IsPassedOver before after events
  pub lost : goes_on ≡ false → (last : Option Event) → last_of last events ≡ Some (failed before.number trial)

-- The office was asked, and noted which faults it answered; nothing was read or sent. Each answer is offered at once, if
-- the text that it leaves to be sent is.
pub record Made {B : Type 0} (b : Ghosts B) (from to : B) (faults faults_after : Faults) (before after : Connection)
    (serves : Bool) : Type 0 where
  pub events : List Event
  pub unseen : at_ports events ≡ []
  pub makes : MakesEach b from events to
  pub notes : faults_after ≡ noted faults (all_answers events)
  pub went : Went events before after
  pub once : length (all_calls events) ≤ 1
  pub answers : serves ≡ true → Answers before events
  pub asks : serves ≡ false → AreQuiet events
  pub calm : length (arrivals events) ≡ 0
  pub waits : before.pending.text.items ≢ [] → IsPassedOver before after events
  pub due : (last : Option Event) (later : List Event) → ((each : Option Event) → AreDue each later)
      → (after.pending.text.items ≢ [] → OffersTo before.number later) → AreDue last (events ++ later)

-- A read and an answer of a connection, each if it was asked for, and a write: from one state of the books and of the
-- connection to another. The connection may then be closed with this end.
pub record Turned {B : Type 0} (b : Ghosts B) (x y : B) (before after : ConnectionState) (asked : Asked) (over : Option End) : Type 0 where
  pub events : List Event
  pub logged : Logs before.seen after.seen (at_ports events)
  pub makes : MakesEach b x events y
  pub went : Went events before.connection after.connection
  pub one : IsTurnOf before.connection asked.reads asked.serves events
  pub why : IfSome over (λ end. IsDueTo after.connection end events)

-- What happened in all, from one state of the books and of the service to another: the events are what was seen and what
-- the office did, all calls one after another, whatever the connection, and each connection goes by its own events
-- alone.
pub record Happened {B : Type 0} (b : Ghosts B) (x y : B) (before after : ServiceState) : Type 0 where
  pub events : List Event
  pub shown : Shows before.seen after.seen events
  pub makes : MakesEach b x events y
  pub leads : (k : ℕ) → Leads k (stages before k) events (stages after k)

-- the same at one connection, without a call; it has its cause, if `cause` is true of the event before
pub record Passed (cause : Option Event → Type 0) (comes : Bool) (before after : ServiceState) : Type 0 where
  pub events : List Event
  pub quiet : AreQuiet events
  pub one : (k : ℕ) × AreOf k events
  pub unasked : reports events ≡ []
  pub due : (last : Option Event) → cause last → AreDue last events
  pub arrives : Arrives comes events
  pub shown : Shows before.seen after.seen events
  pub leads : (k : ℕ) → Leads k (stages before k) events (stages after k)
