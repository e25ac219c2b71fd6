-- How one connection goes from event to event.
use Rattle.std.specs.Prelude.{◌≡◌, ◌≢◌, ◌⊎◌, ◌<◌, ℕ, List, [], ◌∷◌, ◌++◌, drop, Option, Some, None}
use Rattle.std.specs.Prelude.{if◌then◌else◌, nat_eq, nat_lt}
use Rattle.plant_wire_call.specs.{Cut.{WaitsBelow}, Front.{StandsAtFront, broken, whole}}
use Rattle.plant_wire.specs.{Causes.{cause_text}, Marks.{IsFaultless, marked_item, mark_text}, Session.{IsIdle}}
use Rattle.plant_wire.specs.Step.{StandsLast}
use Rattle.plant_wire.specs.declared.reads.End.{End, TheVariants.{BrokenInput, Closed, Fault, ReadFailed, WriteFailed}}
use Rattle.plant_server_clients.specs.Events.{Event, opened, came, ended, answered, broke, stopped, left, failed, closed, reported, who}
use Rattle.plant_server_clients.specs.declared.connections.Connection.{Connection}

-- The stages of a connection: not yet accepted; served, with these bytes unread and these still to be sent; ending in
-- this way once these were sent; closed.
pub data Stage : Type 0 where
  fresh : Stage
  served : List ℕ → List ℕ → Stage
  ending : End → List ℕ → Stage
  gone : Stage

-- how a connection ends if its input ends with these bytes unread
abbrev pub end_for : List ℕ → End
end_for [] = Closed
end_for (x ∷ xs) = BrokenInput

-- a connection is read only while no answer is still to be sent and no whole request is unread
abbrev pub IsOpen : List ℕ → List ℕ → Type 0
IsOpen unread pending = (pending ≡ []) × IsIdle unread

-- The end of a connection that is served and is given up: a read failed, or it was silent too long; or a write failed,
-- or it took nothing of an answer for too long.
abbrev pub IsGivenUp : List ℕ → List ℕ → End → Type 0
IsGivenUp unread pending ReadFailed = IsOpen unread pending
IsGivenUp unread pending WriteFailed = pending ≢ []
IsGivenUp unread pending Fault = ⊥
IsGivenUp unread pending Closed = ⊥
IsGivenUp unread pending BrokenInput = ⊥

-- it ends as intended once all was sent, or as WriteFailed if the rest could not be sent
abbrev pub IsEndOf : End → List ℕ → End → Type 0
IsEndOf end pending how = ((how ≡ end) × (pending ≡ [])) ⊎ ((how ≡ WriteFailed) × (pending ≢ []))

-- An event of this connection leads from one stage to the next. A request is answered only while no answer is still to
-- be sent. At Fault, what was begun is not the answer to a call that got a fault of the office: memory for that is
-- allocated before.
abbrev pub Moves : Stage → Event → Stage → Type 0
Moves fresh (opened k) s = s ≡ served [] []
Moves (served unread pending) (came k bytes) s = IsOpen unread pending × (s ≡ served (unread ++ bytes) [])
Moves (served unread pending) (ended k) s = IsOpen unread pending × (s ≡ ending (end_for unread) [])
Moves (served unread pending) (answered k mark) s =
    (pending ≡ []) × ((n : ℕ) × StandsAtFront unread (whole (marked_item mark) n)
    × (s ≡ served (drop n unread) (mark_text mark)))
Moves (served unread pending) (broke k cause) s =
    (pending ≡ []) × StandsAtFront unread (broken cause) × (s ≡ ending BrokenInput (cause_text cause))
Moves (served unread pending) (stopped k last) s =
    (pending ≡ []) × StandsLast unread last × IsFaultless last × (s ≡ ending Fault [])
Moves (served unread pending) (left k bytes) s = (rest : List ℕ) × (pending ≡ bytes ++ rest) × (s ≡ served unread rest)
Moves (ending end pending) (left k bytes) s = (rest : List ℕ) × (pending ≡ bytes ++ rest) × (s ≡ ending end rest)
Moves (served unread pending) (failed k trial) s = s ≡ served unread pending
Moves (ending end pending) (failed k trial) s = s ≡ ending end pending
Moves (served unread pending) (closed k how) s = IsGivenUp unread pending how × (s ≡ gone)
Moves (ending end pending) (closed k how) s = IsEndOf end pending how × (s ≡ gone)
Moves fresh (reported ready) s = s ≡ fresh
Moves (served unread pending) (reported ready) s = s ≡ served unread pending
Moves (ending end pending) (reported ready) s = s ≡ ending end pending
Moves gone (reported ready) s = s ≡ gone
Moves fresh (came k bytes) s = ⊥
Moves fresh (ended k) s = ⊥
Moves fresh (answered k mark) s = ⊥
Moves fresh (broke k cause) s = ⊥
Moves fresh (stopped k last) s = ⊥
Moves fresh (left k bytes) s = ⊥
Moves fresh (failed k trial) s = s ≡ fresh
Moves fresh (closed k how) s = ⊥
Moves (served unread pending) (opened k) s = ⊥
Moves (ending end pending) (opened k) s = ⊥
Moves (ending end pending) (came k bytes) s = ⊥
Moves (ending end pending) (ended k) s = ⊥
Moves (ending end pending) (answered k mark) s = ⊥
Moves (ending end pending) (broke k cause) s = ⊥
Moves (ending end pending) (stopped k last) s = ⊥
Moves gone (opened k) s = ⊥
Moves gone (came k bytes) s = ⊥
Moves gone (ended k) s = ⊥
Moves gone (answered k mark) s = ⊥
Moves gone (broke k cause) s = ⊥
Moves gone (stopped k last) s = ⊥
Moves gone (left k bytes) s = ⊥
Moves gone (failed k trial) s = ⊥
Moves gone (closed k how) s = ⊥

-- an event; those of other connections change nothing
pub record Goes (k : ℕ) (s : Stage) (e : Event) (s' : Stage) : Type 0 where
  pub own : who e ≡ k → Moves s e s'
  pub other : (who e ≡ k → ⊥) → s' ≡ s

abbrev pub Leads : ℕ → Stage → List Event → Stage → Type 0
Leads k s [] s' = s' ≡ s
Leads k s (e ∷ es) s' = (mid : Stage) × Goes k s e mid × Leads k mid es s'

-- the stage of a connection
abbrev pub stage_by : List ℕ → List ℕ → Option End → Stage
stage_by unread pending None = served unread pending
stage_by unread pending (Some end) = ending end pending

abbrev pub stage_in : Connection → Stage
stage_in l = stage_by l.unread.items l.pending.text.items l.end

-- the connection with this number
abbrev pub connection_with : ℕ → List Connection → Option Connection
connection_with k [] = None
connection_with k (l ∷ ls) = if nat_eq l.number k then Some l else connection_with k ls

abbrev pub stage_if_open : Option Connection → Stage
stage_if_open None = gone
stage_if_open (Some l) = stage_in l

-- the stage of the connection k, if `count` were accepted and these connections are open
abbrev pub stage_of : ℕ → ℕ → List Connection → Stage
stage_of k count ls = if nat_lt k count then stage_if_open (connection_with k ls) else fresh

-- open connections with different numbers, each of which was accepted, and each with a true `wanted`
abbrev pub AreOpenConnections : ℕ → List Connection → Type 0
AreOpenConnections count [] = Unit {0}
AreOpenConnections count (l ∷ ls) =
    (l.number < count) × (connection_with l.number ls ≡ None) × WaitsBelow l.unread.items l.wanted × AreOpenConnections count ls

-- none of these connections has this number
abbrev pub IsNoneNumbered : ℕ → List Connection → Type 0
IsNoneNumbered k [] = Unit {0}
IsNoneNumbered k (l ∷ ls) = (l.number ≢ k) × IsNoneNumbered k ls

-- a connection that may be closed with this end
abbrev pub MayClose : Connection → End → Type 0
MayClose l end = Moves (stage_in l) (closed l.number end) gone
