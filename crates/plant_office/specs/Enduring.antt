-- One call, and a run of calls, with what a crash leaves after it.
use Rattle.std.specs.Prelude.{List, length, false, true, ◌++◌, ◌≡◌, ◌⊎◌}
use Rattle.plant_books.specs.Contents.{Content}
use Rattle.plant_model.specs.{Verdicts.{is_read}, Worlds.{IsLegalWorld, World, next}, declared.{call.Call.{Call}, reply.Answer.{Answer}}}
use Rattle.plant_model.specs.declared.reply.Answer.TheVariants.{Fault as Faulted, Refused as WasRefused, Reply as Replied}
use Rattle.plant_books.specs.Crashes.{Alike}
use Rattle.plant_books.specs.declared.books.Books.{Ghosts}
use Rattle.plant_office.specs.{Outcomes.{IsOutcome, after_calls, confirmed, confirms}, Served.{Holds}}

-- the state of books at a moment, as their keeper shows it
pub record BooksState : Type 1 where
  -- they hold this content, if the keeper's premise holds
  pub represents : Content → Type 0
  -- the keeper's premise: the disk has returned what was written, and no failure has shut the store
  pub honest : Type 0
  -- the disk has returned what was written
  pub clean : Type 0
  -- the next start after a crash at this moment may find this content
  pub leaves : Content → Type 0
  -- whatever that crash leaves can be opened as books
  pub sound : Type 0

-- the state of a keeper's books
abbrev pub books_state : {B : Type 0} → Ghosts B → B → BooksState
books_state g b =
    record {
      represents = g.represents b;
      honest = g.is_honest b;
      clean = g.is_clean b;
      leaves = g.may_leave b;
      sound = g.leaves_books b;
    }

-- from this answer the caller knows that the call changed nothing: it is a reply to a read, or a refusal
abbrev pub IsUnmade : Call → Answer → Type 0
IsUnmade c (Replied r) = is_read c.request ≡ true
IsUnmade c (WasRefused r) = Unit {0}
IsUnmade c (Faulted f) = ⊥

-- the books hold the rows of a legal world
pub record HoldsWorld (w : World) (books : BooksState) : Type 0 where
  pub content : Content
  pub represents : books.represents content
  pub holds : Holds content w
  pub legal : IsLegalWorld w

-- a call, its answer, and the books before and after it
pub record Endures (c : Call) (a : Answer) (before after : BooksState) : Type 0 where
  pub clean : after.clean → before.clean
  -- a call is confirmed only once it is kept
  pub kept : after.clean → confirms c a ≡ true → after.honest
  pub made : after.honest → confirms c a ≡ true → (w : World) → HoldsWorld w before → HoldsWorld (next w c) after
  pub unmade : confirms c a ≡ false → (m : Content) → before.represents m → after.represents m
  -- a crash leaves what it left before, or the books with the call
  pub each : after.clean → (w : World) → HoldsWorld w before → (x : Content) → after.leaves x
      → before.leaves x ⊎ (Holds x (next w c) × IsLegalWorld (next w c))
  -- a crash leaves what it left before, if the caller knows that nothing changed
  pub quiet : after.clean → IsUnmade c a → (x : Content) → after.leaves x → before.leaves x
  pub sound : after.clean → (w : World) → HoldsWorld w before → before.sound → after.sound

-- the same, and while the store is open a crash leaves what the books hold
pub record EnduresSettled (c : Call) (a : Answer) (before after : BooksState) : Type 0 where
  pub endures : Endures c a before after
  pub settled : after.honest → (m : Content) → after.represents m → (x : Content) → after.leaves x → Alike x m

-- the books after calls with these answers, which began at this world: they hold the confirmed calls, and a crash
-- leaves these, or these and one that is in doubt
pub record AreAfter (w : World) (calls : List Call) (answers : List Answer) (books : BooksState) : Type 0 where
  pub long : length answers ≡ length calls
  pub now : HoldsWorld (after_calls w (confirmed calls answers)) books
  pub sound : books.sound
  pub outcomes : (x : Content) → books.leaves x → IsOutcome w calls answers x

-- what is true of the calls so far stays true with these calls after them
pub record EnduresAll (before after : BooksState) (calls : List Call) (answers : List Answer) : Type 0 where
  pub clean : after.clean → before.clean
  pub goes_on : (w : World) (earlier : List Call) (said : List Answer) → after.clean → AreAfter w earlier said before
      → AreAfter w (earlier ++ calls) (said ++ answers) after
