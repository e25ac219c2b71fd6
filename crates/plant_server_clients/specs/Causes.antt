-- For what cause connections are closed, that each answer is offered to its client at once, and when the ports failed.
use Rattle.std.specs.Prelude.{◌≡◌, ◌⊎◌, ◌≤◌, ◌-◌, ◌^◌, ℕ, List, [], ◌∷◌, length, None, Option, Some, slice_get}
use Rattle.plant_wire_call.specs.declared.causes.Cause.{Cause}
use Rattle.plant_wire.specs.Marks.{Mark}
use Rattle.plant_wire.specs.declared.reads.End.{End, TheVariants.{BrokenInput, Closed, Fault, ReadFailed, WriteFailed}}
use Rattle.plant_server_clients.specs.Events.{Event, answered, broke, closed, failed, left, reading, reported, reports, writing}
use Rattle.plant_server_clients.specs.declared.connections.Connection.{Connection}
use Rattle.plant_server_clients.specs.declared.ports.Ready.{Ready}
use Rattle.plant_server_clients.specs.declared.ports.Ready.TheVariants as ready

-- the event before those that follow: the last of these, or that before them
abbrev pub last_of : Option Event → List Event → Option Event
last_of before [] = before
last_of before (e ∷ es) = last_of (Some e) es

-- Why the connection k may be given up after this event: a read of it failed, or a write of it; or the ports reported
-- that its time is over. Closed, BrokenInput and Fault follow from what came and from memory that ran out.
abbrev pub HasCause : Option Event → ℕ → End → Type 0
HasCause before k ReadFailed = (before ≡ Some (failed k reading)) ⊎ (before ≡ Some (reported (ready.Expired k)))
HasCause before k WriteFailed = (before ≡ Some (failed k writing)) ⊎ (before ≡ Some (reported (ready.Expired k)))
HasCause before k Closed = Unit {0}
HasCause before k BrokenInput = Unit {0}
HasCause before k Fault = Unit {0}

-- each close has its cause just before it
abbrev pub AreCaused : Option Event → List Event → Type 0
AreCaused before [] = Unit {0}
AreCaused before (e ∷ es) = ((k : ℕ) (end : End) → e ≡ closed k end → HasCause before k end) × AreCaused (Some e) es

-- a request of the connection k was answered, or the cause that breaks its stream
abbrev pub IsAnswerOf : ℕ → Event → Type 0
IsAnswerOf k e = ((mark : Mark) × (e ≡ answered k mark)) ⊎ ((cause : Cause) × (e ≡ broke k cause))

-- first of all the answer is offered to the connection k: it takes some bytes, or the write fails
abbrev pub OffersTo : ℕ → List Event → Type 0
OffersTo k [] = ⊥
OffersTo k (e ∷ es) = ((bytes : List ℕ) × (e ≡ left k bytes)) ⊎ (e ≡ failed k writing)

-- each answer is offered to its connection at once
abbrev pub AreOffered : List Event → Type 0
AreOffered [] = Unit {0}
AreOffered (e ∷ es) = ((k : ℕ) → IsAnswerOf k e → OffersTo k es) × AreOffered es

-- both
pub record AreDue (before : Option Event) (es : List Event) : Type 0 where
  pub caused : AreCaused before es
  pub offered : AreOffered es

-- the ports are asked at most this many times
abbrev pub max_turns : ℕ
max_turns = 2 ^ 64 - 1

-- the ports failed: they reported so last, or they were asked as often as may be
abbrev pub HaveFailed : List Event → Type 0
HaveFailed es = (last_of None es ≡ Some (reported ready.Failed)) ⊎ (max_turns ≤ length (reports es))

-- any event before
abbrev pub Always : Option Event → Type 0
Always before = Unit {0}

-- the ports reported this just before
abbrev pub HasReported : Ready → Option Event → Type 0
HasReported what before = before ≡ Some (reported what)

-- they reported that the time of the connection at this place is over
abbrev pub ExpiredAt : List Connection → ℕ → Option Event → Type 0
ExpiredAt ls at before = (l : Connection) → slice_get ls at ≡ Some l → HasReported (ready.Expired l.number) before

-- there is a cause to close the connection at this place with this end
abbrev pub CausedAt : List Connection → ℕ → End → Option Event → Type 0
CausedAt ls at end before = (l : Connection) → slice_get ls at ≡ Some l → HasCause before l.number end

-- why a connection may be closed with this end after these events: it is to end so, or it has a cause, whatever was
-- before them
abbrev pub IsDueTo : Connection → End → List Event → Type 0
IsDueTo l end es = (l.end ≡ Some end) ⊎ ((before : Option Event) → HasCause (last_of before es) l.number end)
