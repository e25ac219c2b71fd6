-- What the office did.
use Rattle.std.specs.Prelude.{◌≡◌, ◌<◌, ◌+◌, ◌^◌, ℕ, List}
use Rattle.plant_model.specs.{Worlds.{World, IsLegalWorld}, declared.{call.Call.{Call}, reply.Answer.{Answer}}}
use Rattle.plant_books.specs.Contents.{Content}
use Rattle.plant_office.specs.{Enduring.{EnduresAll, BooksState}, Runs.{IsRun, stores_in}, Served.{Holds}}

-- From any world whose rows the books held, the calls got these answers, and the books hold the rows of the world
-- after them, if the disk has returned what was written. A call that was answered by a fault counts as never made. The
-- books counted each answer Store, from `count` to `counted_to`, while the count has room. What is true of a crash
-- stays true.
pub record Ran (before after : BooksState) (count counted_to : ℕ) (calls : List Call)
    (answers : List Answer) : Type 0 where
  pub run : (m : Content) → before.represents m → (w : World) → IsLegalWorld w → Holds m w → after.clean
      → IsRun w calls answers after.represents
  pub counted : count + stores_in answers < 2 ^ 64 → counted_to ≡ count + stores_in answers
  pub endures : EnduresAll before after calls answers
