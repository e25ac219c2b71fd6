-- How one session over the streams, or the connections of a port, were served.
use Rattle.std.specs.Io.KnownBytes.{Appends}
use Rattle.std.specs.Prelude.{Bool, true, false, if◌then◌else◌, IsTrue, List, [], ℕ, length, map, nat_lt, ◌≡◌, ◌⊎◌, ◌≤◌}
use Rattle.std.specs.Prelude.{Err, None, Ok, Option, Result, Some}
use Rattle.plant_server_listener.specs.Connections.{AreExchanges, Exchange, answers_over, calls_over, faults_of}
use Rattle.plant_server_listener.specs.declared.while_open.Stopped.{Stopped}
use Rattle.plant_server_listener.specs.declared.while_open.Stopped.TheVariants as stopped
use Rattle.plant_server_options.specs.declared.words.Service.{Service}
use Rattle.plant_server_clients.specs.{Accounts.{AreSent, Outcome}, Causes.{HaveFailed}, Events.{AreTold, Event, Logs, at_ports}, Faults.{reported_faults}}
use Rattle.plant_server_log.specs.Log.{Tells, TellsFaults}
use Rattle.plant_server_clients.specs.declared.serving.Halted.TheVariants as halted
use Rattle.plant_office.specs.declared.office.Faults.{Faults}
use Rattle.plant_model.specs.declared.{call.Call.{Call}, reply.Answer.{Answer}}
use Rattle.plant_server.specs.Statuses.{announced, end_text, exit_status_of, few_descriptors_text, halted_text, served, served_at_once, stopped_text}
use Rattle.plant_server.specs.Nets.{AreOverNet, HasListened, Nets}
use Rattle.plant_server.specs.declared.nets.Standing.TheVariants as standing
use Rattle.plant_server.specs.Streams.{Bytes, IsPrintedOrCut, Lines, Streams}
use Rattle.plant_server.specs.declared.statuses.ExitStatus.{ExitStatus}
use Rattle.plant_wire.specs.{Session.{IsSession, StopsAs}, declared.reads.End.{End}}

-- what may be true of the office: of its calls, with their answers
abbrev pub OfCalls : Type 1
OfCalls = List Call → List Answer → Type 0

-- One session over the input and the output, and its end, which standard error and the status show. It ends by a failed
-- read or write only if one failed, or a million reads were made.
pub record IsStreamed (ran : OfCalls) (s : Streams) (n : ExitStatus) : Type 0 where
  pub end : End
  pub ended : Bool
  pub session : IsSession s.unread s.unread_after ended s.written s.written_after ran end
  pub said : IsPrintedOrCut s.lines.reported s.lines.reported_after (end_text end)
  pub status : n ≡ exit_status_of end
  pub stops : StopsAs s.reader s.reader_after s.lost s.lost_after end
  pub still : s.nets.after ≡ s.nets.before

-- What was written while a port was served. On the output: the address on which the net listens, and then the log. On
-- standard error: a notice, if there is one; then lines about the faults that were answered; then why it is served no
-- longer.
pub record ArePortLines (log : Bytes → Bytes → Type 0) (notice : List ℕ) (kinds : List Faults) (why : List ℕ)
    (nets : Nets) (lines : Lines) : Type 0 where
  pub first : Bytes
  pub listening : IsPrintedOrCut lines.printed first (announced nets.after.standing)
  pub logged : log first lines.printed_after
  pub noted : Bytes
  pub told : Bytes
  pub said : IsPrintedOrCut lines.reported noted notice
  pub faults : TellsFaults noted kinds told
  pub ended : IsPrintedOrCut told lines.reported_after why

-- the log got the lines of these events
abbrev pub IsLogged : List Event → Bytes → Bytes → Type 0
IsLogged events before after = (text : List ℕ) × AreTold events text × Appends before after text

-- The kinds of fault that a service reports, if it reports any: after each connection those that its calls were
-- answered. The latest come first.
abbrev pub reported_in_turn : Bool → List Exchange → List Faults
reported_in_turn reports exchanges = if reports then map faults_of exchanges else []

-- all of n connections were served, or fewer
abbrev pub AreAsMany : ℕ → ℕ → Result (Unit {0}) Stopped → Type 0
AreAsMany n count (Ok u) = count ≡ n
AreAsMany n count (Err e) = count ≤ n

-- The connections of a port were served one after the other: each is a session of its own, and the office's calls are
-- those of all of them, in turn. They are the connections of the net, and were sent what it shows. They end early only if
-- listening was refused or accepting failed, or the store has shut. Only a service that goes on while its store is open ends because the store has shut,
-- and then `lost` is true.
pub record AreInTurn (ran : OfCalls) (lost : Type 0) (service : Service) (nets : Nets) (lines : Lines) (n : ExitStatus) : Type 0 where
  pub exchanges : List Exchange
  pub each : AreExchanges exchanges
  pub made : ran (calls_over exchanges) (answers_over exchanges)
  pub result : Result (Unit {0}) Stopped
  pub many : AreAsMany service.connections (length exchanges) result
  pub status : n ≡ served result
  pub said : ArePortLines (λ before after. Tells before (map (λ x. x.end) exchanges) after) []
      (reported_in_turn service.while_open exchanges) (stopped_text result) nets lines
  pub shut : result ≡ Err stopped.Shut → IsTrue service.while_open × lost
  pub listened : HasListened service nets
  pub over : AreOverNet exchanges nets
  pub failed : result ≡ Err stopped.Failed → (nets.after.standing ≡ standing.Refused) ⊎ (nets.after.turns.failures ≡ 1)

-- They were served many at once: as many in all as the service asks for, or fewer if the port failed, or if the store
-- has shut and the service goes on only while it is open. Of what happened at all of them the office's calls are one
-- list, and each was sent the answers to its own requests. It is what the net shows; and they end early for the port only
-- if listening was refused or the net has failed.
pub record AreAtOnce (ran : OfCalls) (lost : Type 0) (service : Service) (nets : Nets) (lines : Lines) (n : ExitStatus) : Type 0 where
  pub result : Outcome
  pub sent : AreSent ran service.connections result
  pub status : n ≡ served_at_once result
  pub said : ArePortLines (IsLogged sent.events) few_descriptors_text (reported_faults service.while_open sent.events)
      (halted_text result) nets lines
  pub shut : result ≡ Err halted.Shut → IsTrue service.while_open × lost
  pub listened : HasListened service nets
  pub shown : Logs nets.before.log nets.after.log (at_ports sent.events)
  pub halts : result ≡ Err halted.Ports → (nets.after.standing ≡ standing.Refused) ⊎ HaveFailed sent.events

-- whether connections are served many at once
abbrev pub is_at_once : Service → Bool
is_at_once service = nat_lt 1 service.clients

-- the connections of a port, many at once or not
abbrev pub AreOfPort : Bool → OfCalls → Type 0 → Service → Nets → Lines → ExitStatus → Type 0
AreOfPort false ran lost service nets lines n = AreInTurn ran lost service nets lines n
AreOfPort true ran lost service nets lines n = AreAtOnce ran lost service nets lines n

-- Over an office of which `ran` is true: one session ended, or the connections of a port were served. If a service
-- ended because a failure had shut the store, `lost` is true.
abbrev pub HasServed : OfCalls → Type 0 → Option Service → Streams → ExitStatus → Type 0
HasServed ran lost None s n = IsStreamed ran s n
HasServed ran lost (Some service) s n = AreOfPort (is_at_once service) ran lost service s.nets s.lines n
