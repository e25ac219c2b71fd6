-- What the steps of a session do. `written` is what the writer holds and `lost` counts failed writes, each before and
-- after; `ran` says what the office did.
use Rattle.std.specs.{Io.KnownBytes.{Appends}, Prelude.{◌≡◌, ◌<◌, ◌≤◌, ℕ, List, [], ◌∷◌, ◌++◌, length, take, drop, map, Option, Result, Ok, Err}}
use Rattle.plant_model.specs.declared.{call.Call.{Call}, reply.Answer.{Answer}}
use Rattle.plant_wire_answer.specs.Answers.{answer_bytes}
use Rattle.plant_wire_call.specs.{Cut.{WaitsBelow}, Front.{waits, whole, broken, StandsAtFront, Parsed}, declared.causes.Cause.{Cause}}
use Rattle.plant_wire.specs.Causes.{cause_text}
use Rattle.plant_wire.specs.Marks.{Mark, said, marked_item, mark_text, out_of, calls_of, answers_of, Last, nothing, begun, breaking, last_text, last_marks, IsFaultless}
use Rattle.plant_wire.specs.declared.step.{Rest.{Rest}, Step.{Step, TheVariants.{Waits, Took, Broken}}, Stop.{Stop, TheVariants.{WriteFailed, Fault}}}
use Rattle.plant_wire.specs.declared.step.Rest.TheVariants as left

-- the count of failed writes, by how a step ended
abbrev pub Stalls : {A : Type 0} → ℕ → ℕ → Result A Stop → Type 0
Stalls lost lost_after (Ok x) = lost_after ≡ lost
Stalls lost lost_after (Err WriteFailed) = lost_after ≡ 1
Stalls lost lost_after (Err Fault) = lost_after ≡ lost

-- all of the text was written, or a part from its front
abbrev pub IsPut : Option (List ℕ) → Option (List ℕ) → List ℕ → Result (Unit {0}) Stop → Type 0
IsPut written written_after text (Ok u) = Appends written written_after text
IsPut written written_after text (Err e) = (part : ℕ) × Appends written written_after (take part text)

-- why an answer was not written whole: a write failed, or memory ran out for its text; the text of a fault needs no
-- memory
abbrev pub StopsFor : Last → Stop → Type 0
StopsFor last WriteFailed = Unit {0}
StopsFor last Fault = IsFaultless last

-- the call was made, and its answer written whole or in part
abbrev pub IsAnswer : Option (List ℕ) → Option (List ℕ) → (List Call → List Answer → Type 0) → Call
    → Result (Unit {0}) Stop → Type 0
IsAnswer written written_after ran call (Ok u) =
    (answer : Answer) × Appends written written_after (answer_bytes answer) × ran (call ∷ []) (answer ∷ [])
IsAnswer written written_after ran call (Err stop) =
    (answer : Answer) × (part : ℕ) × Appends written written_after (take part (answer_bytes answer))
    × ran (call ∷ []) (answer ∷ []) × StopsFor (begun (said call answer)) stop

-- the requests at the front of the bytes were answered, each once and in order, and this is left
pub record AnswersFront (bytes : List ℕ) (written written_after : Option (List ℕ))
    (ran : List Call → List Answer → Type 0) (rest : List ℕ) : Type 0 where
  pub marks : List Mark
  pub parses : Parsed bytes (map marked_item marks) rest
  pub writes : Appends written written_after (out_of marks)
  pub served : ran (calls_of marks) (answers_of marks)

-- the requests at the front were answered, and then the cause that breaks the stream
pub record ServesBroken (bytes : List ℕ) (written written_after : Option (List ℕ))
    (ran : List Call → List Answer → Type 0) : Type 0 where
  pub marks : List Mark
  pub rest : List ℕ
  pub cause : Cause
  pub parses : Parsed bytes (map marked_item marks) rest
  pub front : StandsAtFront rest (broken cause)
  pub writes : Appends written written_after (out_of marks ++ cause_text cause)
  pub served : ran (calls_of marks) (answers_of marks)

-- what was begun stands at the front of the rest
abbrev pub StandsLast : List ℕ → Last → Type 0
StandsLast rest nothing = Unit {0}
StandsLast rest (begun m) = (n : ℕ) × StandsAtFront rest (whole (marked_item m) n)
StandsLast rest (breaking cause) = StandsAtFront rest (broken cause)

-- the requests at the front were answered, and of the next answer only a part was written
pub record ServesPart (bytes : List ℕ) (written written_after : Option (List ℕ))
    (ran : List Call → List Answer → Type 0) : Type 0 where
  pub marks : List Mark
  pub rest : List ℕ
  pub last : Last
  pub part : ℕ
  pub parses : Parsed bytes (map marked_item marks) rest
  pub stands : StandsLast rest last
  pub writes : Appends written written_after (out_of marks ++ take part (last_text last))
  pub served : ran (calls_of (marks ++ last_marks last)) (answers_of (marks ++ last_marks last))

-- the requests at the front were answered, and the next answer stopped within, or before it
abbrev pub IsStopped : List ℕ → Option (List ℕ) → Option (List ℕ) → (List Call → List Answer → Type 0) → Stop → Type 0
IsStopped bytes written written_after ran stop =
    (s : ServesPart bytes written written_after ran) × StopsFor s.last stop

-- no request is whole, so nothing was answered, and none is whole with fewer than `wanted` bytes
pub record IsUnfinished (bytes : List ℕ) (written written_after : Option (List ℕ))
    (ran : List Call → List Answer → Type 0) (wanted : ℕ) : Type 0 where
  pub stands : StandsAtFront bytes waits
  pub writes : Appends written written_after []
  pub served : ran [] []
  pub wanted_is : WaitsBelow bytes wanted

-- the request at the front, of n bytes, was answered, and no other
pub record AnswersOne (bytes : List ℕ) (written written_after : Option (List ℕ))
    (ran : List Call → List Answer → Type 0) (n : ℕ) : Type 0 where
  pub mark : Mark
  pub stands : StandsAtFront bytes (whole (marked_item mark) n)
  pub writes : Appends written written_after (mark_text mark)
  pub served : ran (calls_of (mark ∷ [])) (answers_of (mark ∷ []))

-- what breaks the stream stands at the front, and its cause was answered
pub record AnswersBroken (bytes : List ℕ) (written written_after : Option (List ℕ))
    (ran : List Call → List Answer → Type 0) : Type 0 where
  pub cause : Cause
  pub stands : StandsAtFront bytes (broken cause)
  pub writes : Appends written written_after (cause_text cause)
  pub served : ran [] []

-- of the answer to what stands at the front only a part was written
pub record AnswersPart (bytes : List ℕ) (written written_after : Option (List ℕ))
    (ran : List Call → List Answer → Type 0) (stop : Stop) : Type 0 where
  pub last : Last
  pub part : ℕ
  pub stands : StandsLast bytes last
  pub writes : Appends written written_after (take part (last_text last))
  pub served : ran (calls_of (last_marks last)) (answers_of (last_marks last))
  pub why : StopsFor last stop

-- one step: it waits for more bytes, has answered one request or the cause that breaks the stream, or has stopped
abbrev pub IsStep : List ℕ → Option (List ℕ) → Option (List ℕ) → (List Call → List Answer → Type 0) → Result Step Stop
    → Type 0
IsStep bytes written written_after ran (Ok (Waits n)) = IsUnfinished bytes written written_after ran n
IsStep bytes written written_after ran (Ok (Took n)) = (0 < n) × (n ≤ length bytes)
    × AnswersOne bytes written written_after ran n
IsStep bytes written written_after ran (Ok Broken) = AnswersBroken bytes written written_after ran
IsStep bytes written written_after ran (Err stop) = AnswersPart bytes written written_after ran stop

-- the same for all whole requests at the front
abbrev pub IsRest : List ℕ → Option (List ℕ) → Option (List ℕ) → (List Call → List Answer → Type 0) → Result Rest Stop
    → Type 0
IsRest bytes written written_after ran (Ok (left.Waits n more)) =
    (n ≤ length bytes) × StandsAtFront (drop n bytes) waits
    × AnswersFront bytes written written_after ran (drop n bytes) × WaitsBelow (drop n bytes) more
IsRest bytes written written_after ran (Ok left.Broken) = ServesBroken bytes written written_after ran
IsRest bytes written written_after ran (Err stop) = IsStopped bytes written written_after ran stop
