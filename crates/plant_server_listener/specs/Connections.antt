-- Connections served one after the other. Lists of exchanges have the latest first.
use Rattle.std.specs.Prelude.{None, Option, Result, Ok, Err, Some, Bool, IsTrue, false, true, ℕ, ◌≡◌, ◌<◌, ◌+◌, List, [], ◌∷◌, ◌++◌, length, map}
use Rattle.plant_model.specs.declared.{call.Call.{Call}, reply.Answer.{Answer}}
use Rattle.plant_types.specs.Limits.{max_reads}
use Rattle.plant_books.specs.declared.books.Books.{Ghosts}
use Rattle.plant_office.specs.{Faults.{faults_in}, declared.office.Faults.{Faults}}
use Rattle.plant_wire.specs.{Over.{RanOn}, Session.{EndsAs, IsSession}, declared.reads.End.{End, TheVariants.{BrokenInput, Closed, Fault, ReadFailed, WriteFailed}}}
use Rattle.plant_wire.specs.declared.streams.Failed.{Failed}
use Rattle.plant_server_log.specs.Log.{Tells}
use Rattle.plant_server_listener.specs.declared.while_open.Stopped.{Stopped}
use Rattle.plant_server_listener.specs.declared.while_open.Stopped.TheVariants as stopped

-- One connection: the bytes that came and those that went, the calls that were made for its requests, with their
-- answers, and how it ended.
pub record Exchange : Type 0 where
  pub came : List ℕ
  pub went : List ℕ
  pub calls : List Call
  pub answers : List Answer
  pub end : End

-- these are the calls and the answers of the exchange
abbrev pub AreOf : Exchange → List Call → List Answer → Type 0
AreOf x calls answers = (calls ≡ x.calls) × (answers ≡ x.answers)

-- It is a session: the calls are those of the requests that came, and what went are the texts of their answers.
abbrev pub IsExchange : Exchange → Type 0
IsExchange x = EndsAs x.came None true (Some []) (Some x.went) (AreOf x) x.end

abbrev pub AreExchanges : List Exchange → Type 0
AreExchanges [] = Unit {0}
AreExchanges (x ∷ earlier) = IsExchange x × AreExchanges earlier

-- the calls of all of them, and their answers, in the order in which they were made
abbrev pub calls_over : List Exchange → List Call
calls_over [] = []
calls_over (x ∷ earlier) = calls_over earlier ++ x.calls

abbrev pub answers_over : List Exchange → List Answer
answers_over [] = []
answers_over (x ∷ earlier) = answers_over earlier ++ x.answers

-- the kinds of fault that its calls were answered
abbrev pub faults_of : Exchange → Faults
faults_of x = faults_in x.answers

-- the session was given up because of a read or a write
abbrev pub is_given_up : End → Bool
is_given_up Closed = false
is_given_up BrokenInput = false
is_given_up ReadFailed = true
is_given_up WriteFailed = true
is_given_up Fault = false

-- It is a session over a connection whose client sends `incoming` and was sent `outgoing`. It was given up only if a
-- read or a write failed, or a million reads were made, and then `failed` is true.
pub record IsOver (incoming outgoing : List ℕ) (failed : Bool) (x : Exchange) : Type 0 where
  pub unread : List ℕ
  pub ended : Bool
  pub session : IsSession (Some incoming) (Some unread) ended (Some []) (Some outgoing) (AreOf x) x.end
  pub cause : is_given_up x.end ≡ true → IsTrue failed

-- what a listener shows of its connections, by their numbers from 0: what each client sends; and what it was sent, and
-- whether a read or a write failed, as its connection was closed
pub record Traffic : Type 0 where
  pub incoming : ℕ → List ℕ
  pub outgoing : ℕ → List ℕ
  pub failed : ℕ → Bool

-- nothing is shown
abbrev pub unseen : Traffic
unseen = record { incoming = λ k. []; outgoing = λ k. []; failed = λ k. false }

abbrev pub IsSeen : Traffic → ℕ → Exchange → Type 0
IsSeen traffic k x = IsOver (traffic.incoming k) (traffic.outgoing k) (traffic.failed k) x

-- what is shown of a connection is as it was
abbrev pub IsShownAs : Traffic → Traffic → ℕ → Type 0
IsShownAs old new k =
    (new.incoming k ≡ old.incoming k) × (new.outgoing k ≡ old.outgoing k) × (new.failed k ≡ old.failed k)

-- no read and no write of a connection failed, and fewer than a million reads were made, by the counts of these
abbrev pub IsWhole : ℕ → ℕ → ℕ → Type 0
IsWhole failed reads lost = (failed ≡ 0) × (reads < max_reads) × (lost ≡ 0)

-- the exchanges are those over the connections from the one of this number on
abbrev pub AreSeen : Traffic → ℕ → List Exchange → Type 0
AreSeen traffic first [] = Unit {0}
AreSeen traffic first (x ∷ earlier) = IsSeen traffic (first + length earlier) x × AreSeen traffic first earlier

-- Over the connection of this number, which the listener shows if `seen`, there was an exchange with this end, for
-- whose calls `ran` is true of the office.
pub record IsNext (ran : List Call → List Answer → Type 0) (seen : Bool) (traffic : Traffic) (k : ℕ) (end : End) : Type 0 where
  pub exchange : Exchange
  pub is : IsExchange exchange
  pub ended : exchange.end ≡ end
  pub made : ran exchange.calls exchange.answers
  pub shown : IsTrue seen → IsSeen traffic k exchange

-- Connections were served in turn: each is a session, all their calls are one run of the books, and the log got their
-- lines.
pub record AreServedInTurn {B : Type 0} (b : Ghosts B) (before after : B) (log log_after : Option (List ℕ))
    (exchanges : List Exchange) : Type 0 where
  pub each : AreExchanges exchanges
  pub made : RanOn b before after (calls_over exchanges) (answers_over exchanges)
  pub told : Tells log (map (λ x. x.end) exchanges) log_after

-- all n were served, or fewer if accepting failed; `failed` counts failures of accepting
abbrev pub StopsAfter : ℕ → ℕ → ℕ → ℕ → Result (Unit {0}) Failed → Type 0
StopsAfter n failed failed_after count (Ok u) = (count ≡ n) × (failed_after ≡ failed)
StopsAfter n failed failed_after count (Err e) = (count < n) × (failed_after ≡ 1)

-- the same for a service that goes on only while its store is open: fewer were served also if a failure has shut the
-- store
abbrev pub HaltsAfter : ℕ → ℕ → ℕ → ℕ → Result (Unit {0}) Stopped → Type 0
HaltsAfter n failed failed_after count (Ok u) = (count ≡ n) × (failed_after ≡ failed)
HaltsAfter n failed failed_after count (Err stopped.Failed) = (count < n) × (failed_after ≡ 1)
HaltsAfter n failed failed_after count (Err stopped.Shut) = (count < n) × (failed_after ≡ failed)
