-- What happens at connections, each by its number, in one order.
use Rattle.std.specs.Io.KnownBytes.{Appends}
use Rattle.std.specs.Prelude.{ℕ, ◌+◌, List, [], ◌∷◌, ◌++◌, take, length, flat_map, Bool, if◌then◌else◌}
use Rattle.std.specs.Prelude.{nat_eq, nat_lt, Option, Some, None, ◌≡◌, ⊤}
use Rattle.plant_model.specs.declared.{call.Call.{Call}, reply.Answer.{Answer}}
use Rattle.plant_wire_call.specs.declared.causes.Cause.{Cause}
use Rattle.plant_wire.specs.{Causes.{cause_text}, Marks.{Mark, Last, calls_of, answers_of, last_marks}}
use Rattle.plant_wire.specs.declared.reads.End.{End}
use Rattle.plant_server_log.specs.Log.{line_of}
use Rattle.plant_server_clients.specs.declared.ports.Ready.{Ready}

-- What was tried at a connection without success: a read or a write failed; a read found nothing yet; a new connection
-- could not be accepted.
pub data Trial : Type 0 where
  reading : Trial
  writing : Trial
  looking : Trial
  accepting : Trial

-- In the order of the variants: a connection was accepted; bytes of it were read; the end of its input was read; one of
-- its requests was answered; the cause that breaks its stream was answered, and nothing more is; memory ran out for its
-- bytes or for an answer that was begun, of which nothing is sent, and nothing more is answered; bytes of its answers
-- were sent; something was tried at it without success; it was closed, with how it ended. Last: the ports were asked what can be
-- done next, and reported this.
pub data Event : Type 0 where
  opened : ℕ → Event
  came : ℕ → List ℕ → Event
  ended : ℕ → Event
  answered : ℕ → Mark → Event
  broke : ℕ → Cause → Event
  stopped : ℕ → Last → Event
  left : ℕ → List ℕ → Event
  failed : ℕ → Trial → Event
  closed : ℕ → End → Event
  reported : Ready → Event

-- the connection's number; 0 for what the ports report, which concerns all
abbrev pub who : Event → ℕ
who (opened k) = k
who (came k bytes) = k
who (ended k) = k
who (answered k mark) = k
who (broke k cause) = k
who (stopped k last) = k
who (left k bytes) = k
who (failed k trial) = k
who (closed k end) = k
who (reported ready) = 0

-- these elements, if the event is of the connection k; otherwise none
abbrev pub of : {A : Type 0} → ℕ → Event → List A → List A
of k e xs = if nat_eq (who e) k then xs else []

-- the elements of all events of the connection k
abbrev pub of_all : {A : Type 0} → (Event → List A) → ℕ → List Event → List A
of_all f k es = flat_map (λ e. of k e (f e)) es

abbrev pub bytes_in : Event → List ℕ
bytes_in (opened k) = []
bytes_in (came k bytes) = bytes
bytes_in (ended k) = []
bytes_in (answered k mark) = []
bytes_in (broke k cause) = []
bytes_in (stopped k last) = []
bytes_in (left k bytes) = []
bytes_in (failed k trial) = []
bytes_in (closed k end) = []
bytes_in (reported ready) = []

abbrev pub ends_in : Event → List ℕ
ends_in (opened k) = []
ends_in (came k bytes) = []
ends_in (ended k) = k ∷ []
ends_in (answered k mark) = []
ends_in (broke k cause) = []
ends_in (stopped k last) = []
ends_in (left k bytes) = []
ends_in (failed k trial) = []
ends_in (closed k end) = []
ends_in (reported ready) = []

abbrev pub marks_in : Event → List Mark
marks_in (opened k) = []
marks_in (came k bytes) = []
marks_in (ended k) = []
marks_in (answered k mark) = mark ∷ []
marks_in (broke k cause) = []
marks_in (stopped k last) = []
marks_in (left k bytes) = []
marks_in (failed k trial) = []
marks_in (closed k end) = []
marks_in (reported ready) = []

-- the text after which nothing more is answered
abbrev pub cut_in : Event → List ℕ
cut_in (opened k) = []
cut_in (came k bytes) = []
cut_in (ended k) = []
cut_in (answered k mark) = []
cut_in (broke k cause) = cause_text cause
cut_in (stopped k last) = []
cut_in (left k bytes) = []
cut_in (failed k trial) = []
cut_in (closed k end) = []
cut_in (reported ready) = []

abbrev pub sent_in : Event → List ℕ
sent_in (opened k) = []
sent_in (came k bytes) = []
sent_in (ended k) = []
sent_in (answered k mark) = []
sent_in (broke k cause) = []
sent_in (stopped k last) = []
sent_in (left k bytes) = bytes
sent_in (failed k trial) = []
sent_in (closed k end) = []
sent_in (reported ready) = []

-- the calls that an event makes, and their answers
abbrev pub calls_in : Event → List Call
calls_in (opened k) = []
calls_in (came k bytes) = []
calls_in (ended k) = []
calls_in (answered k mark) = calls_of (mark ∷ [])
calls_in (broke k cause) = []
calls_in (stopped k last) = calls_of (last_marks last)
calls_in (left k bytes) = []
calls_in (failed k trial) = []
calls_in (closed k end) = []
calls_in (reported ready) = []

abbrev pub answers_in : Event → List Answer
answers_in (opened k) = []
answers_in (came k bytes) = []
answers_in (ended k) = []
answers_in (answered k mark) = answers_of (mark ∷ [])
answers_in (broke k cause) = []
answers_in (stopped k last) = answers_of (last_marks last)
answers_in (left k bytes) = []
answers_in (failed k trial) = []
answers_in (closed k end) = []
answers_in (reported ready) = []

-- what comes from outside: a connection, bytes of one, or the end of one
abbrev pub arrivals_in : Event → List ℕ
arrivals_in (opened k) = k ∷ []
arrivals_in (came k bytes) = k ∷ []
arrivals_in (ended k) = k ∷ []
arrivals_in (answered k mark) = []
arrivals_in (broke k cause) = []
arrivals_in (stopped k last) = []
arrivals_in (left k bytes) = []
arrivals_in (failed k trial) = []
arrivals_in (closed k end) = []
arrivals_in (reported ready) = []

-- what the ports reported
abbrev pub reports_in : Event → List Ready
reports_in (opened k) = []
reports_in (came k bytes) = []
reports_in (ended k) = []
reports_in (answered k mark) = []
reports_in (broke k cause) = []
reports_in (stopped k last) = []
reports_in (left k bytes) = []
reports_in (failed k trial) = []
reports_in (closed k end) = []
reports_in (reported ready) = ready ∷ []

-- what the ports see of an event
abbrev pub port_in : Event → List Event
port_in (opened k) = opened k ∷ []
port_in (came k bytes) = came k bytes ∷ []
port_in (ended k) = ended k ∷ []
port_in (answered k mark) = []
port_in (broke k cause) = []
port_in (stopped k last) = []
port_in (left k bytes) = left k bytes ∷ []
port_in (failed k trial) = failed k trial ∷ []
port_in (closed k end) = closed k end ∷ []
port_in (reported ready) = reported ready ∷ []

-- Of the connection k: the bytes that came; whether their end did; the requests that were answered; the text that was
-- cut; the bytes that left; and the calls that were made for it, with their answers.
abbrev pub came_to : ℕ → List Event → List ℕ
came_to k es = of_all bytes_in k es

abbrev pub has_ended : ℕ → List Event → Bool
has_ended k es = nat_lt 0 (length (of_all ends_in k es))

abbrev pub marks_of : ℕ → List Event → List Mark
marks_of k es = of_all marks_in k es

abbrev pub cut_of : ℕ → List Event → List ℕ
cut_of k es = of_all cut_in k es

abbrev pub sent_to : ℕ → List Event → List ℕ
sent_to k es = of_all sent_in k es

abbrev pub calls_for : ℕ → List Event → List Call
calls_for k es = of_all calls_in k es

abbrev pub answers_for : ℕ → List Event → List Answer
answers_for k es = of_all answers_in k es

-- of all connections together
abbrev pub all_calls : List Event → List Call
all_calls es = flat_map calls_in es

abbrev pub all_answers : List Event → List Answer
all_answers es = flat_map answers_in es

abbrev pub arrivals : List Event → List ℕ
arrivals es = flat_map arrivals_in es

abbrev pub reports : List Event → List Ready
reports es = flat_map reports_in es

abbrev pub at_ports : List Event → List Event
at_ports es = flat_map port_in es

-- what the ports know to have happened, if anything is known
abbrev pub Log : Type 0
Log = Option (List Event)

-- the log grows by these events
abbrev pub Logs : Log → Log → List Event → Type 0
Logs None new es = ⊤
Logs (Some xs) None es = ⊥
Logs (Some xs) (Some ys) es = ys ≡ xs ++ es

-- What the log gets for an event: for a close, a line with the connection's place among all that were accepted and with
-- how it ended, whole or, if the write fails, a part from the front; for any other event nothing.
abbrev pub IsToldBy : Event → List ℕ → Type 0
IsToldBy (opened k) text = text ≡ []
IsToldBy (came k bytes) text = text ≡ []
IsToldBy (ended k) text = text ≡ []
IsToldBy (answered k mark) text = text ≡ []
IsToldBy (broke k cause) text = text ≡ []
IsToldBy (stopped k last) text = text ≡ []
IsToldBy (left k bytes) text = text ≡ []
IsToldBy (failed k trial) text = text ≡ []
IsToldBy (closed k end) text = (part : ℕ) × (text ≡ take part (line_of (k + 1) end))
IsToldBy (reported ready) text = text ≡ []

-- of events, in their order
abbrev pub AreTold : List Event → List ℕ → Type 0
AreTold [] text = text ≡ []
AreTold (e ∷ es) text = (now : List ℕ) × (later : List ℕ) × IsToldBy e now × AreTold es later × (text ≡ now ++ later)

-- what is seen from outside: by the ports, and in the log, each if it is known
pub record Seen : Type 0 where
  pub ports : Log
  pub log : Option (List ℕ)

abbrev pub seen_by : Log → Option (List ℕ) → Seen
seen_by ports log = record { ports = ports; log = log }

-- the ports saw these events, and the log got their lines
pub record Shows (before after : Seen) (events : List Event) : Type 0 where
  pub logged : Logs before.ports after.ports (at_ports events)
  pub text : List ℕ
  pub told : AreTold events text
  pub written : Appends before.log after.log text
