-- What events make of the office's books.
use Rattle.std.specs.Prelude.{◌≡◌, List, [], ◌∷◌}
use Rattle.plant_model.specs.declared.{call.Call.{Call}, reply.Answer.{Answer}}
use Rattle.plant_books.specs.declared.books.Books as books
use Rattle.plant_wire.specs.Over.{RanOn}
use Rattle.plant_server_clients.specs.Events.{Event, all_answers, all_calls, answers_in, calls_in}

-- The office made these calls, with these answers: what is true of a run, and of what a crash leaves of its books, is
-- true of them. If the keeper's premise holds after them, it held before.
pub record Makes {B : Type 0} (b : books.Ghosts B) (before after : B) (cs : List Call) (xs : List Answer) : Type 0 where
  pub ran : RanOn b before after cs xs
  pub honest : b.is_honest after → b.is_honest before

-- those of each event, from the books that the earlier ones left
abbrev pub MakesEach : {B : Type 0} → books.Ghosts B → B → List Event → B → Type 0
MakesEach b before [] after = Makes b before after [] []
MakesEach {B} b before (e ∷ es) after =
    (books : B) × Makes b before books (calls_in e) (answers_in e) × MakesEach b books es after

-- no call was made
abbrev pub AreQuiet : List Event → Type 0
AreQuiet [] = Unit {0}
AreQuiet (e ∷ es) = (calls_in e ≡ []) × (answers_in e ≡ []) × AreQuiet es

-- The books at a moment: all calls of the earlier events were made, one after another, and none of the later ones.
pub record IsMoment {B : Type 0} (b : books.Ghosts B) (before after : B) (earlier later : List Event) : Type 0 where
  pub books : B
  pub made : Makes b before books (all_calls earlier) (all_answers earlier)
  pub goes_on : Makes b books after (all_calls later) (all_answers later)
