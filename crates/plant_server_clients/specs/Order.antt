-- The order of calls in time: once a byte of an answer was sent, requests that arrive later are answered after its
-- call.
use Rattle.std.specs.Prelude.{◌≡◌, ◌<◌, ℕ, List, [], ◌∷◌, ◌++◌, length, map}
use Rattle.plant_wire_call.specs.Front.{Parsed}
use Rattle.plant_wire.specs.Marks.{Mark, marked_item, out_of}
use Rattle.plant_server_clients.specs.Events.{Event, came_to, marks_of, sent_to}

-- x is an element of xs
abbrev pub IsAmong : {A : Type 0} → A → List A → Type 0
IsAmong {A} x xs = (before : List A) × (after : List A) × (xs ≡ before ++ x ∷ after)

-- A request of the connection k is answered by `now`, and a byte of its answer was sent by the earlier `moment`.
pub record WasTold (now moment : List Event) (k : ℕ) (mark : Mark) : Type 0 where
  pub earlier : List Mark
  pub later : List Mark
  pub are : marks_of k now ≡ earlier ++ mark ∷ later
  pub begun : length (out_of earlier) < length (sent_to k moment)

-- A request of the connection k is answered by `now`, and had not arrived whole by the earlier `moment`.
pub record AsksAfter (now moment : List Event) (k : ℕ) (mark : Mark) : Type 0 where
  pub earlier : List Mark
  pub later : List Mark
  pub are : marks_of k now ≡ earlier ++ mark ∷ later
  pub after : (rest : List ℕ) → Parsed (came_to k moment) (map marked_item (earlier ++ mark ∷ [])) rest → ⊥

-- If by some moment a byte of the first answer was sent and the next request had not arrived whole, the first call was
-- made by that moment, and the next one after it.
abbrev pub IsInOrder : List Event → Type 0
IsInOrder now = (es fs : List Event) (j k : ℕ) (first next : Mark) → now ≡ es ++ fs → WasTold now es j first
    → AsksAfter now es k next → IsAmong first (marks_of j es) × IsAmong next (marks_of k fs)
