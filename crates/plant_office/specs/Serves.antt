-- What serving a call returns, and what it leaves of the books.
use Rattle.std.specs.Prelude.{IfOk, Ok, OnErr, Option, Result, Some, false, ◌≡◌}
use Rattle.plant_books.specs.{Books.{LeavesUnchanged, StaysHonest}, Contents.{Content, part_in}, Counting.{Counts}, declared.books.Books.{Ghosts}}
use Rattle.plant_model.specs.{Verdicts.{changes_history}, Worlds.{IsLegalWorld, World, unit_named}, declared.{call.Call.{Call}, reply.Refused.{Refused}}}
use Rattle.plant_model.specs.declared.{reply.Reply.{Reply}, rows.UnitPart.{UnitPart}}
use Rattle.plant_office.specs.{Answers.{answer_as}, Enduring.{Endures, books_state}, Served.{Holds, IsServed}}
use Rattle.plant_types.specs.{Names.{Name}, declared.fault.Fault.{Fault}}

-- the answer is that of the world whose rows the books hold; after a fault, a refusal or a reply to a read the books
-- are unchanged
pub record Serves {B : Type 0} (books : Ghosts B) (c : Call) (said : Result (Result Reply Refused) Fault)
    (before after : B) : Type 0 where
  pub served : (m : Content) → books.represents before m → (w : World) → IsLegalWorld w → Holds m w
      → books.is_honest after
      → IfOk said (λ a. IsServed w c a (books.represents after))
  pub honest : books.is_honest after → books.is_honest before
  pub stays_open : StaysHonest books.is_honest books.is_clean before after said
  pub unchanged : (m : Content) → books.represents before m
      → IfOk said (λ a. changes_history a c ≡ false → books.represents after m)
  pub fault : (m : Content) → books.represents before m → OnErr said (books.represents after m)
  pub count : Counts (books.stores before) (books.stores after) said
  -- a crash leaves what it may leave after such a call
  pub endures : Endures c (answer_as said) (books_state books before) (books_state books after)

-- a question with this result left the books unchanged
abbrev pub OnlyAsks : {B A : Type 0} → Ghosts B → B → B → Result A Fault → Type 0
OnlyAsks books before after said = LeavesUnchanged books.represents books.is_honest books.is_clean books.leaves_books
    books.may_leave books.stores before after said

-- the books gave this part of a unit's rows for a call, and hold what they held
pub record HaveRead {B : Type 0} (books : Ghosts B) (before after : B) (c : Call) (part : Option UnitPart) : Type 0 where
  pub found : (m : Content) → books.represents before m → books.is_honest after → (u : Name)
      → unit_named c.request ≡ Some u → part ≡ part_in m c u
  pub unchanged : OnlyAsks books before after (Ok part)
