-- What `next_call` returns.
use Rattle.std.specs.Prelude.{◌≡◌, ◌<◌, ◌+◌, ◌++◌, ℕ, List, length, Ok}
use Rattle.httparse.specs.Grammar.{RequestHead, print_request}
use Rattle.plant_wire_call.specs.{Front.{Front, waits, whole, broken, asked, bad, body_length, StandsAtFront}, declared.cut.Cut.{Cut}}
use Rattle.plant_wire_call.specs.declared.cut.Cut.TheVariants.{More, Call, Malformed, Broken, Fault}

-- the result shows this front, unless memory ran out
abbrev pub Shows : Cut → Front → Type 0
Shows More front = front ≡ waits
Shows (Call call n) front = front ≡ whole (asked call) n
Shows (Malformed cause n) front = front ≡ whole (bad cause) n
Shows (Broken cause) front = front ≡ broken cause
Shows Fault front = Unit {0}

-- the result is what stands at the front, unless memory ran out
abbrev pub IsCutOf : List ℕ → Cut → Type 0
IsCutOf bytes More = StandsAtFront bytes waits
IsCutOf bytes (Call call n) = StandsAtFront bytes (whole (asked call) n)
IsCutOf bytes (Malformed cause n) = StandsAtFront bytes (whole (bad cause) n)
IsCutOf bytes (Broken cause) = StandsAtFront bytes (broken cause)
IsCutOf bytes Fault = Unit {0}

-- these bytes with any continuation, while they are fewer than n, are still an incomplete request
abbrev pub WaitsBelow : List ℕ → ℕ → Type 0
WaitsBelow bytes n = (more : List ℕ) → length (bytes ++ more) < n → StandsAtFront (bytes ++ more) waits

-- the request with this head has n bytes
abbrev pub IsLengthOf : RequestHead → ℕ → Type 0
IsLengthOf head n = (m : ℕ) × (body_length head ≡ Ok m) × (n ≡ length (print_request head) + m)
