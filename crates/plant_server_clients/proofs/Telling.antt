-- Turns, and the faults that are reported in them.
use Rattle.std.proofs.Common.{◌≡◌, ◌≤◌, ◌∙◌, ◌+◌, ap, ℕ, suc, List, [], ◌∷◌, ◌++◌, Bool, false, true, Option, arith, length, refl, slice_get, slice_set, subst, sym}
use Rattle.std.specs.List.{remove}
use Rattle.plant_wire_call.specs.Cut.{WaitsBelow}
use Rattle.plant_wire.specs.declared.reads.End.{End}
use Rattle.plant_books.specs.declared.books.Books as books
use Rattle.plant_server_log.specs.Log.{TellsFaults}
use Rattle.plant_server_clients.specs.{Accounts.{AreServed, AtEachMoment, HasOpened, Outcome}, Causes.{Always, CausedAt, HasReported, HaveFailed, last_of}}
use Rattle.plant_server_clients.specs.Events.{Event, Logs, Seen, reported}
use Rattle.plant_server_clients.specs.Faults.{StayNoted, TellsIf, reported_faults}
use Rattle.plant_server_clients.specs.Happens.{ConnectionState, Passed, ServiceState, Turned, connection_state, stages}
use Rattle.plant_server_clients.specs.Service.{IsRound, IsTurn, IsTurnAt, IsUnderWay, IsWithinRound, KeepsUp, at_stages, new_service}
use Rattle.plant_server_clients.specs.{Fairness.{IsSoon, IsUpToDate}, Heeded.{AreHeeded, Heeds}}
use Rattle.plant_server_clients.specs.{Paces.{AreKept, AreRising, Splits, numbers}, Stages.{AreOpenConnections, fresh}}
use Rattle.plant_server_clients.specs.declared.{connections.{Asked.{Asked}, Connection.{Connection}}, ports.Ready.{Ready}, serving.{Halted.TheVariants.{Ports}, Plan.{Plan}}}
use Rattle.std.specs.Prelude.{Err, None, Some}
use Rattle.plant_server_clients.proofs.Handled.{events_connection, happened_connection, turned_at}
use Rattle.plant_server_clients.proofs.Leading.{events_asked, events_none, events_passed, events_then, happened_none, happened_passed, sees}
use Rattle.plant_server_clients.proofs.Rounds.{kept_none, round_end, round_next, round_past, round_start, turn_closes, turn_given, turn_none, turn_passed, turn_stays, way_asked, way_last, way_leads, way_then}
use Rattle.plant_server_clients.proofs.{Soon.{heeds_by, keeps_up, keeps_up_none, led}, Waited.{leads_once}}
use Rattle.plant_server_clients.proofs.{Told.{tells_all, tells_if_then, tells_none, tells_quiet, tells_then_quiet}, Whole.{served_from}}

-- these were reported, by other words for the events
with_events : {reports : Bool} {s t : ServiceState} {es fs : List Event} {a b : Option (List ℕ)} → fs ≡ es → TellsIf reports s t es a b
    → TellsIf reports s t fs a b
with_events {reports = reports} {s = s} {t = t} {a = a} {b = b} is it = subst (λ events. TellsIf reports s t events a b) (sym is) it

events_turn : {B : Type 0} (b : books.Ghosts B) (x : B) {s t : ServiceState} {cause : Option Event → Type 0} {comes : Bool}
    (p : Passed cause comes s t) (given : Option Event → Type 0) (gives : (before : Option Event) → given before → cause before)
    (serves : Bool) → (turn_passed b x p given gives serves).happened.events ≡ p.events
unfolding turn_passed
events_turn b x p given gives serves = events_passed b x p

module _ {B : Type 0} (b : books.Ghosts B) where
  -- a turn without a call
  pub passed_told : (x : B) {s t : ServiceState} {cause : Option Event → Type 0} {comes : Bool} (p : Passed cause comes s t)
      (given : Option Event → Type 0) (gives : (before : Option Event) → given before → cause before) (serves reports : Bool)
      (written : Option (List ℕ)) → StayNoted s t → (Q : List Event → Type 0) → Q p.events
      → (turn : IsTurn given b x x s t serves) × TellsIf reports s t turn.happened.events written written × Q turn.happened.events
  passed_told x {s} {t} p given gives serves reports written stay Q also = (
    turn_passed b x p given gives serves,
    with_events (events_turn b x p given gives serves) (tells_quiet reports s t p.events written p.quiet stay),
    subst Q (sym (events_turn b x p given gives serves)) also,
  )

  -- nothing was done
  pub none_told : (x : B) (s : ServiceState) (given : Option Event → Type 0) (serves reports : Bool) (written : Option (List ℕ))
      → (Q : List Event → Type 0) → Q []
      → (turn : IsTurn given b x x s s serves) × TellsIf reports s s turn.happened.events written written × Q turn.happened.events
  unfolding turn_none
  none_told x s given serves reports written Q also = (
    turn_none b x s given serves,
    with_events (events_none b x s) (tells_none reports s written),
    subst Q (sym (events_none b x s)) also,
  )

  pub given_told : {x y : B} {s t : ServiceState} {serves reports : Bool} {written written' : Option (List ℕ)} (given : Option Event → Type 0)
      (turn : IsTurn Always b x y s t serves) → TellsIf reports s t turn.happened.events written written'
      → (Q : List Event → Type 0) → Q turn.happened.events
      → (turn : IsTurn given b x y s t serves) × TellsIf reports s t turn.happened.events written written' × Q turn.happened.events
  unfolding turn_given
  given_told given turn told Q also = (turn_given given turn, told, also)

-- one connection
module _ {B : Type 0} {b : books.Ghosts B} {x y : B} {l : Connection} {after : ConnectionState} {asked : Asked} {over : Option End}
    (s : ServiceState) (at : ℕ) (ok : AreOpenConnections s.count s.connections) (is : slice_get s.connections at ≡ Some l)
    (p : Turned b x y (connection_state s.seen.ports l) after asked over) {reports : Bool} {written written' : Option (List ℕ)}
    (told : TellsIf reports s (turned_at s at after) p.events written written') where
  pub stays_told : AreRising (numbers s.connections)
      → (turned : IsTurnAt b x y s (turned_at s at after) (record { at = at; asked = asked }))
      × TellsIf reports s (turned_at s at after) turned.turned.happened.events written written'
  unfolding turn_stays
  stays_told rising = (turn_stays s at ok is p rising, with_events (events_connection s at ok is p) told)

  pub closes_told : AreRising (numbers s.connections) → WaitsBelow after.connection.unread.items after.connection.wanted → (end : End)
      → over ≡ Some end → (u : ServiceState)
      → (passed : Passed (CausedAt (slice_set s.connections at after.connection) at end) false (turned_at s at after) u)
      → u.count ≡ s.count → u.connections ≡ remove (slice_set s.connections at after.connection) at → StayNoted (turned_at s at after) u
      → (turned : IsTurnAt b x y s u (record { at = at; asked = asked })) × TellsIf reports s u turned.turned.happened.events written written'
  unfolding turn_closes
  closes_told rising waits end now u passed same gone stay = (
    turn_closes s at ok is p rising waits end now u passed same gone,
    tells_then_quiet passed.events
        (events_then (happened_connection s at ok is p) (happened_passed {b = b} {x = y} passed)
        ∙ (λ i. events_connection s at ok is p i ++ events_passed b y passed i)) passed.quiet stay told,
  )

-- a turn of all connections
abbrev pub RoundTold : {B : Type 0} → books.Ghosts B → B → B → ServiceState → ServiceState → ℕ → Bool → Option (List ℕ) → Option (List ℕ) → Type 0
RoundTold b x y s t at reports written written' =
    (round : IsWithinRound b x y s t at) × TellsIf reports s t round.happened.events written written'

pub round_start_told : {B : Type 0} {b : books.Ghosts B} {x : B} {s : ServiceState} (at : ℕ) (reports : Bool) (written : Option (List ℕ))
    → Splits s.count at (numbers s.connections) → RoundTold b x x s s at reports written written
unfolding round_start
round_start_told {b = b} {x = x} {s = s} at reports written splits =
    (round_start at splits, with_events (events_none b x s) (tells_none reports s written))

pub round_next_told : {B : Type 0} {b : books.Ghosts B} {x y z : B} {s t u : ServiceState} {p q : Plan} {a c d : Option (List ℕ)} (i at : ℕ)
    (l : Connection) → i ≡ suc at → q ≡ p → RoundTold b x y s t i p.while_open a c → AreOpenConnections t.count t.connections
    → AreRising (numbers t.connections)
    → slice_get t.connections at ≡ Some l
    → ((turned : IsTurnAt b y z t u (record { at = at; asked = record { reads = false; serves = true } }))
    × TellsIf q.while_open t u turned.turned.happened.events c d)
    → RoundTold b x z s u at p.while_open a d
unfolding round_next
round_next_told i at l e same (round, told) ok rising is (turned, more) = (
  round_next i at l e round ok rising is turned,
  tells_if_then (events_then round.happened turned.turned.happened) same told more,
)

pub round_past_told : {B : Type 0} {b : books.Ghosts B} {x y : B} {s t : ServiceState} {reports : Bool} {a c : Option (List ℕ)} (i at : ℕ)
    → i ≡ suc at → length t.connections ≤ at → RoundTold b x y s t i reports a c → RoundTold b x y s t at reports a c
unfolding round_past
round_past_told i at e past (round, told) = (round_past i at e past round, told)

pub round_end_told : {B : Type 0} {b : books.Ghosts B} {x y : B} {s t : ServiceState} {reports : Bool} {a c : Option (List ℕ)} (i : ℕ)
    → i ≡ 0 → RoundTold b x y s t i reports a c
    → (round : IsRound Always s.count b x y s t) × TellsIf reports s t round.happened.events a c
unfolding round_end
round_end_told i e (round, told) = (round_end i e round, told)

-- a service from its start on
abbrev pub WayTold : {B : Type 0} → books.Ghosts B → B → B → Seen → ServiceState → ℕ → Plan → Option (List ℕ) → Option (List ℕ) → Type 0
WayTold b x y seen now turns plan written written' =
    (way : IsUnderWay b x y seen now turns) × TellsIf plan.while_open (new_service seen) now way.happened.events written written'
    × KeepsUp plan.connections way.happened.events

pub way_start_told : {B : Type 0} (b : books.Ghosts B) (x : B) (seen : Seen) (ls : List Connection) (plan : Plan) (written : Option (List ℕ))
    → ls ≡ [] → WayTold b x x seen (record { seen = seen; count = 0; connections = ls }) 0 plan written written
way_start_told b x seen ls plan written none =
    subst (λ (ms : List Connection). WayTold b x x seen (record { seen = seen; count = 0; connections = ms }) 0 plan written written) (sym none)
    start
  where
    start : WayTold b x x seen (new_service seen) 0 plan written written
    start = (
      record {
        happened = happened_none;
        kept = subst (AreKept 0) (sym (events_none b x (new_service seen))) kept_none;
        asked = omega arith;
      },
      with_events (events_none b x (new_service seen)) (tells_none plan.while_open (new_service seen) written),
      subst (KeepsUp plan.connections) (sym (events_none b x (new_service seen))) (keeps_up_none plan.connections),
    )

pub way_asked_told : {B : Type 0} {b : books.Ghosts B} {x y : B} {seen : Seen} {now : ServiceState} {turns : ℕ} {reports : Bool}
    {written written' : Option (List ℕ)} (ports : Option (List Event)) (ready : Ready)
    (way : IsUnderWay b x y seen now turns) (logged : Logs now.seen.ports ports (reported ready ∷ []))
    → TellsIf reports (new_service seen) now way.happened.events written written'
    → TellsIf reports (new_service seen) (sees now ports) (way_asked ports ready way logged).happened.events written written'
unfolding way_asked
way_asked_told {now = now} ports ready way logged told =
    tells_then_quiet (reported ready ∷ []) (events_asked ports ready way.happened logged) (refl, refl, tt) (λ past are. are) told

-- the events of a service, after the ports were asked
pub asked_events : {B : Type 0} {b : books.Ghosts B} {x y : B} {seen : Seen} {now : ServiceState} {turns : ℕ} (ports : Option (List Event))
    (ready : Ready) (way : IsUnderWay b x y seen now turns) (logged : Logs now.seen.ports ports (reported ready ∷ []))
    → (way_asked ports ready way logged).happened.events ≡ way.happened.events ++ reported ready ∷ []
unfolding way_asked
asked_events ports ready way logged = events_asked ports ready way.happened logged

pub way_then_told : {B : Type 0} {b : books.Ghosts B} {x y z : B} {seen : Seen} {s t : ServiceState} {turns : ℕ} {p q : Plan}
    {a c d : Option (List ℕ)} (ports : Option (List Event)) (ready : Ready) (way : IsUnderWay b x y seen s turns)
    (logged : Logs s.seen.ports ports (reported ready ∷ [])) → q ≡ p → TellsIf p.while_open (new_service seen) s way.happened.events a c
    → KeepsUp p.connections way.happened.events
    → ((round : IsRound (HasReported ready) 0 b y z (sees s ports) t) × TellsIf q.while_open (sees s ports) t round.happened.events c d
    × Heeds q.connections (at_stages (sees s ports)) ready round.happened.events)
    → WayTold b x z seen t (turns + 1) p a d
unfolding way_then
way_then_told {s = s} {p = p} {q = q} ports ready way logged same told up (round, more, heeds) =
    let asked = way_asked ports ready way logged in
    let before = way.happened.events in
    let gs = round.happened.events in
    let was = events_asked ports ready way.happened logged in
    let is : (way_then (HasReported ready) asked (way_last ports ready way logged) round).happened.events ≡ (before ++ reported ready ∷ []) ++ gs =
    events_then asked.happened round.happened ∙ ap (λ (es : List Event). es ++ gs) (asked_events ports ready way logged) in
    let led_there = way_leads way in (
      way_then (HasReported ready) asked (way_last ports ready way logged) round,
      tells_if_then (events_then asked.happened round.happened) same (way_asked_told ports ready way logged told) more,
      subst (KeepsUp p.connections) (sym is)
          (keeps_up p.connections before gs ready up round.unasked
          (subst (λ (n : ℕ). Heeds n (led before) ready gs) (ap (λ (plan : Plan). plan.connections) same)
          (heeds_by q.connections (at_stages (sees s ports)) (led before) ready gs
          (λ k stage at_it. leads_once k fresh (stages s k) stage before (led_there k) at_it) heeds))
          (subst (λ (es : List Event). IsUpToDate (es ++ gs)) (asked_events ports ready way logged)
          (round.recent asked.happened.events (way_leads asked)))),
    )

-- a service from its start to its end
pub served_told : {B : Type 0} {b : books.Ghosts B} {x y : B} {seen : Seen} {now : ServiceState} {n turns : ℕ} {r : Outcome} {reports : Bool}
    {written written' : Option (List ℕ)} → (w : IsUnderWay b x y seen now turns)
    → TellsIf reports (new_service seen) now w.happened.events written written'
    → AtEachMoment IsSoon w.happened.events → AreHeeded n w.happened.events
    → HasOpened n now.count now.connections r → (r ≡ Err Ports → HaveFailed w.happened.events)
    → (served : AreServed b x y seen now.seen n r) × TellsFaults written (reported_faults reports served.sent.events) written'
unfolding served_from
served_told {seen = seen} {now = now} {reports = reports} {written = written} {written' = written'} w told soon heeded stops halts = (
  served_from w soon heeded stops halts,
  tells_all reports (new_service seen) now w.happened.events written written' refl refl told,
)
