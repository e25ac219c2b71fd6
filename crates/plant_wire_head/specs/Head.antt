-- What stands at the front of a stream of requests, as far as the head goes: a definition over the bytes
-- alone. `ReadsRequest` is httparse's grammar of a head.
use Rattle.std.specs.Prelude.{ℕ, ◌<◌, ◌≤◌, List, length, take}
use Rattle.plant_types.specs.Limits.{max_head}
use Rattle.httparse.specs.{Grammar.{RequestHead, ReadsRequest, HasNoRequest, NeverHasRequest, MayBecomeRequest}, Spans.{IsRequestAt, IsRequestWithin}}
use Rattle.httparse.specs.declared.spans.HeaderSpan.{HeaderSpan}
use Rattle.plant_wire_head.specs.declared.heading.Heading.{Heading, TheVariants.{Waiting, Malformed, TooLong, Whole}}

-- the bytes that may hold the head
abbrev pub front : List ℕ → List ℕ
front bytes = take max_head bytes

-- the bytes begin with this head
abbrev pub BeginsWith : List ℕ → RequestHead → Type 0
BeginsWith bytes head = (rest : List ℕ) × ReadsRequest (front bytes) head rest

-- no continuation of the bytes begins with a head
abbrev pub IsHopeless : List ℕ → Type 0
IsHopeless bytes = NeverHasRequest (front bytes)

-- not a head yet: more bytes can complete one, or the request's target is still being read
pub record IsUnfinished (bytes : List ℕ) : Type 0 where
  pub none : HasNoRequest (front bytes)
  pub unfinished : MayBecomeRequest (front bytes)

-- what `read_head` returns
abbrev pub IsHeading : List ℕ → List HeaderSpan → Heading → Type 0
IsHeading bytes headers Waiting = IsUnfinished bytes × (length bytes < max_head)
IsHeading bytes headers TooLong = IsUnfinished bytes × (max_head ≤ length bytes)
IsHeading bytes headers Malformed = IsHopeless bytes
IsHeading bytes headers (Whole spans) =
    ((head : RequestHead) × IsRequestAt (front bytes) headers spans head)
    × IsRequestWithin (front bytes) headers spans
