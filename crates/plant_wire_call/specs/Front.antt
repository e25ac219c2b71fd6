-- What stands at the front of a stream of requests: a definition over the bytes alone.
use Rattle.std.specs.Prelude.{◌≡◌, ◌⊎◌, ℕ, ◌+◌, List, [], ◌∷◌, length, take, drop, Result, Ok, Err, nat_lt, if◌then◌else◌}
use Rattle.plant_types.specs.Limits.{max_head}
use Rattle.httparse.specs.Grammar.{RequestHead, EndsInTarget, print_request}
use Rattle.plant_wire_head.specs.{Fields.{fields_of}, Head.{front, BeginsWith, IsHopeless, IsUnfinished}}
use Rattle.plant_model.specs.declared.call.Call.{Call}
use Rattle.plant_wire_call.specs.{Lengths.{body_length_in}, Reading.{call_in}, declared.causes.Cause.{Cause, TheVariants.{HeadSyntax, HeadTooLong}}}

-- one whole request: a call, or why it is not one
pub data Item : Type 0 where
  asked : Call → Item
  bad : Cause → Item

-- what the bytes show: an incomplete request, a whole one with its length in bytes, or that the stream is broken
pub data Front : Type 0 where
  waits : Front
  whole : Item → ℕ → Front
  broken : Cause → Front

module _ (body_length : RequestHead → Result ℕ Cause) (item_of : RequestHead → List ℕ → Item) where
  -- a head, by the length of its body, and the bytes after it
  abbrev pub with_length : Result ℕ Cause → RequestHead → List ℕ → Front
  with_length (Err cause) head after = broken cause
  with_length (Ok n) head after =
      if nat_lt (length after) n then waits else whole (item_of head (take n after)) (length (print_request head) + n)

  unfoldable pub of_head : RequestHead → List ℕ → Front
  of_head head after = with_length (body_length head) head after

  -- what stands at the front
  abbrev pub IsFront : List ℕ → Front → Type 0
  IsFront bytes front =
      ((head : RequestHead) × BeginsWith bytes head × (front ≡ of_head head (drop (length (print_request head)) bytes)))
      ⊎ ((IsHopeless bytes × (front ≡ broken HeadSyntax))
      ⊎ (IsUnfinished bytes × (front ≡ (if nat_lt (length bytes) max_head then waits else broken HeadTooLong))))

  -- the items that are taken from the front one after another, and what is left
  abbrev pub Parses : List ℕ → List Item → List ℕ → Type 0
  Parses bytes [] rest = bytes ≡ rest
  Parses bytes (x ∷ xs) rest = (n : ℕ) × IsFront bytes (whole x n) × Parses (drop n bytes) xs rest

  -- where the items of a stream end: nothing is left, or an incomplete request, or what breaks the stream
  abbrev pub EndsAt : List ℕ → Type 0
  EndsAt rest = (rest ≡ []) ⊎ (IsFront rest waits ⊎ ((cause : Cause) × IsFront rest (broken cause)))

-- the one case that httparse leaves open: no continuation is a head, and the target is still being read
abbrev pub IsUndecided : List ℕ → Type 0
IsUndecided bytes = IsHopeless bytes × EndsInTarget (front bytes)

-- What stands at the front, and the items of a stream, for this service's requests.
abbrev pub body_length : RequestHead → Result ℕ Cause
body_length head = body_length_in (fields_of head)

abbrev pub item_from : Result Call Cause → Item
item_from (Ok call) = asked call
item_from (Err cause) = bad cause

abbrev pub item_of : RequestHead → List ℕ → Item
item_of head body = item_from (call_in head.method head.target (fields_of head) body)

abbrev pub answer_to : RequestHead → List ℕ → Front
answer_to head after = of_head body_length item_of head after

abbrev pub StandsAtFront : List ℕ → Front → Type 0
StandsAtFront bytes front = IsFront body_length item_of bytes front

abbrev pub Parsed : List ℕ → List Item → List ℕ → Type 0
Parsed bytes items rest = Parses body_length item_of bytes items rest

-- the items of the whole stream, and what is left
abbrev pub IsStream : List ℕ → List Item → List ℕ → Type 0
IsStream bytes items rest = Parsed bytes items rest × EndsAt body_length item_of rest

-- the case that is left open stands somewhere in the stream
abbrev pub OpensSomewhere : List ℕ → Type 0
OpensSomewhere bytes = (items : List Item) × (rest : List ℕ) × Parsed bytes items rest × IsUndecided rest
