-- What a session did, by how it ended. `unread` is what the reader has left, if that is known, and `written` what the
-- writer holds, each before and after. `ended` says whether the input's end was seen.
use Rattle.std.specs.{Io.KnownBytes.{Consumes, IsAtEnd}, Prelude.{◌≡◌, ◌⊎◌, ◌<◌, ◌≤◌, ◌+◌, ℕ, List, [], ◌++◌, length, Bool, IsTrue, true, false, Option}}
use Rattle.plant_types.specs.Limits.{max_reads}
use Rattle.plant_model.specs.declared.{call.Call.{Call}, reply.Answer.{Answer}}
use Rattle.plant_wire_call.specs.Front.{waits, StandsAtFront}
use Rattle.plant_wire.specs.{Marks.{IsFaultless}, Step.{AnswersFront, ServesBroken, ServesPart}, declared.reads.End.{End}}
use Rattle.plant_wire.specs.declared.reads.{End.TheVariants.{Closed, BrokenInput, ReadFailed, WriteFailed, Fault}, Read.{Read}}
use Rattle.plant_wire.specs.declared.reads.Read.TheVariants as read

-- A reader: the bytes that it has left, if they are known; whether it has seen the input's end; how many of its reads
-- failed, and how many were made.
pub record Reader : Type 0 where
  pub unread : Option (List ℕ)
  pub ended : Bool
  pub failures : ℕ
  pub reads : ℕ

-- how one read went, and the reader and the buffer before and after it
abbrev pub IsRead : Reader → Reader → List ℕ → List ℕ → Read → Type 0
IsRead from to old new read.More = (bytes : List ℕ) × Consumes from.unread to.unread bytes × (new ≡ old ++ bytes)
    × (to.failures ≡ from.failures) × (to.reads ≡ from.reads + 1) × (to.ended ≡ from.ended)
IsRead from to old new read.Finished = Consumes from.unread to.unread [] × (new ≡ old) × (to.failures ≡ from.failures)
    × IsTrue to.ended × IsAtEnd to.unread × (to.reads ≡ from.reads + 1)
IsRead from to old new read.Failed = Consumes from.unread to.unread [] × (new ≡ old) × (to.failures ≡ 1)
    × (from.reads ≤ to.reads) × (to.reads ≤ from.reads + 1) × (to.ended ≡ from.ended)
IsRead from to old new read.Fault = (bytes : List ℕ) × Consumes from.unread to.unread bytes
    × (to.failures ≡ from.failures) × (to.reads ≡ from.reads + 1) × (to.ended ≡ from.ended)

-- after this end the client may still be sending: the office ended the session, and not because of a failed read or
-- write
abbrev pub may_send : End → Bool
may_send Closed = false
may_send BrokenInput = true
may_send ReadFailed = false
may_send WriteFailed = false
may_send Fault = true

-- nothing is left, or an incomplete request
abbrev pub IsIdle : List ℕ → Type 0
IsIdle rest = (rest ≡ []) ⊎ StandsAtFront rest waits

-- the input ended, and what was left is not a whole request
pub record IsCutShort (bytes : List ℕ) (unread_after : Option (List ℕ)) (ended : Bool)
    (written written_after : Option (List ℕ)) (ran : List Call → List Answer → Type 0) : Type 0 where
  pub seen : IsTrue ended
  pub nothing_left : IsAtEnd unread_after
  pub rest : List ℕ
  pub some : 0 < length rest
  pub waiting : StandsAtFront rest waits
  pub serves : AnswersFront bytes written written_after ran rest

-- Closed: the input ended, and its requests use it up. BrokenInput: they end in a cause that breaks the stream, or the
-- input ended within a request. ReadFailed: each whole request was answered. WriteFailed, Fault: the requests at the
-- front were answered whole, and of at most one more a part of its answer was written; those behind it were not
-- answered. At Fault that one is not a call that got a fault of the office.
abbrev pub EndsAs : List ℕ → Option (List ℕ) → Bool → Option (List ℕ) → Option (List ℕ)
    → (List Call → List Answer → Type 0) → End → Type 0
EndsAs bytes unread_after ended written written_after ran Closed =
    IsTrue ended × IsAtEnd unread_after × AnswersFront bytes written written_after ran []
EndsAs bytes unread_after ended written written_after ran BrokenInput =
    ServesBroken bytes written written_after ran ⊎ IsCutShort bytes unread_after ended written written_after ran
EndsAs bytes unread_after ended written written_after ran ReadFailed =
    (rest : List ℕ) × IsIdle rest × AnswersFront bytes written written_after ran rest
EndsAs bytes unread_after ended written written_after ran WriteFailed = ServesPart bytes written written_after ran
EndsAs bytes unread_after ended written written_after ran Fault =
    (s : ServesPart bytes written written_after ran) × IsFaultless s.last

-- the bytes received, and what was done with them
abbrev pub IsSession : Option (List ℕ) → Option (List ℕ) → Bool → Option (List ℕ) → Option (List ℕ)
    → (List Call → List Answer → Type 0) → End → Type 0
IsSession unread unread_after ended written written_after ran end =
    (bytes : List ℕ) × Consumes unread unread_after bytes
    × EndsAs bytes unread_after ended written written_after ran end

-- which reads and writes failed, by the end: at ReadFailed one read did, or 1,000,000 reads were made; at WriteFailed
-- one write did; otherwise none. At these two and at Fault no read saw the input's end. `lost` counts failed writes.
abbrev pub StopsAs : Reader → Reader → ℕ → ℕ → End → Type 0
StopsAs from to lost lost_after Closed = (to.failures ≡ from.failures) × (lost_after ≡ lost)
StopsAs from to lost lost_after BrokenInput = (to.failures ≡ from.failures) × (lost_after ≡ lost)
StopsAs from to lost lost_after ReadFailed =
    ((to.failures ≡ 1) ⊎ ((to.failures ≡ from.failures) × (to.reads ≡ from.reads + max_reads)))
    × (lost_after ≡ lost) × (to.ended ≡ from.ended)
StopsAs from to lost lost_after WriteFailed =
    (to.failures ≡ from.failures) × (lost_after ≡ 1) × (to.ended ≡ from.ended)
StopsAs from to lost lost_after Fault =
    (to.failures ≡ from.failures) × (lost_after ≡ lost) × (to.ended ≡ from.ended)

-- how many reads were made, whatever the end
abbrev pub IsFewReads : ℕ → ℕ → Type 0
IsFewReads reads reads_after = (reads ≤ reads_after) × (reads_after ≤ reads + max_reads)
