-- What was confirmed to a client lasts.
use Rattle.std.specs.Prelude.{◌≡◌, ℕ, List, ◌++◌, true}
use Rattle.plant_model.specs.{Worlds.{World}, declared.{call.Call.{Call}, reply.Answer.{Answer}}}
use Rattle.plant_books.specs.{Contents.{Content}, declared.books.Books.{Ghosts}}
use Rattle.plant_office.specs.{Enduring.{AreAfter, books_state}, Outcomes.{IsOutcome, confirms}}
use Rattle.plant_wire.specs.Marks.{said}
use Rattle.plant_server_clients.specs.{Events.{Event, all_answers, all_calls}, Order.{IsAmong, WasTold}}

-- The content is what the calls so far may leave, and it includes each confirmed call of which a byte of the answer was
-- sent, whatever its connection.
pub record HasTold (w : World) (earlier : List Call) (answers : List Answer) (es : List Event) (x : Content) : Type 0 where
  pub outcome : IsOutcome w (earlier ++ all_calls es) (answers ++ all_answers es) x
  pub told : (k : ℕ) (call : Call) (answer : Answer) → WasTold es es k (said call answer) → confirms call answer ≡ true
      → IsAmong call outcome.made

-- After these events, whatever a crash leaves of the books holds what was confirmed, if the books at the start of the
-- service were those after some calls.
abbrev pub Lasts : {B : Type 0} → Ghosts B → B → B → List Event → Type 0
Lasts b before now es = (w : World) (earlier : List Call) (answers : List Answer) → b.is_clean now
    → AreAfter w earlier answers (books_state b before) → (x : Content) → b.may_leave now x → HasTold w earlier answers es x
