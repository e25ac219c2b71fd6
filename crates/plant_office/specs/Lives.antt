-- An office over several starts, with a crash or a stop between one and the next.
use Rattle.std.specs.Prelude.{List, [], length, ◌++◌, ◌∷◌, ◌+◌, ◌≡◌, ◌≤◌, ◌⊎◌}
use Rattle.plant_books.specs.Contents.{Content}
use Rattle.plant_model.specs.{Worlds.{IsLegalWorld, World}, declared.{call.Call.{Call}, reply.Answer.{Answer}}}
use Rattle.plant_office.specs.{Outcomes.{AreMade, IsOutcome, after_calls, confirmed}, Served.{Holds}}

-- the calls of one start and their answers, each list in order
pub record Life : Type 0 where
  pub calls : List Call
  pub answers : List Answer

-- Each start found what the crash before it may leave: from books with the content `first` these lives, in order, lead
-- to books with the content `last`.
abbrev pub LeadTo : Content → List Life → Content → Type 0
LeadTo first [] last = last ≡ first
LeadTo first (life ∷ lives) last =
    (found : Content) × ((w : World) → IsLegalWorld w → Holds first w → IsOutcome w life.calls life.answers found)
    × LeadTo found lives last

-- the calls that the lives made, life by life: those that were confirmed, and after each life at most one that was in
-- doubt
abbrev pub AreMadeInAll : List Life → List Call → Type 0
AreMadeInAll [] made = made ≡ []
AreMadeInAll (life ∷ lives) made = (own later : List Call) × AreMade life.calls life.answers own
    × AreMadeInAll lives later × (made ≡ own ++ later)

-- the calls that were confirmed in all lives, in their order
abbrev pub confirmed_in_all : List Life → List Call
confirmed_in_all [] = []
confirmed_in_all (life ∷ lives) = confirmed life.calls life.answers ++ confirmed_in_all lives

-- the first list is the second with some left out
abbrev pub IsWithin : List Call → List Call → Type 0
IsWithin [] ys = Unit {0}
IsWithin (x ∷ xs) [] = ⊥
IsWithin (x ∷ xs) (y ∷ ys) = ((x ≡ y) × IsWithin xs ys) ⊎ IsWithin (x ∷ xs) ys

-- Whatever number of crashes: the books that are found last hold the world after some calls, made one after the other.
-- All confirmed calls are among them, in their order, and besides these at most one for each life.
abbrev pub CrashesLeaveAWorld : Type 0
CrashesLeaveAWorld =
    (first last : Content) (lives : List Life) (w : World) → IsLegalWorld w → Holds first w → LeadTo first lives last
    → (made : List Call) × Holds last (after_calls w made) × IsLegalWorld (after_calls w made)
    × IsWithin (confirmed_in_all lives) made × (length made ≤ length (confirmed_in_all lives) + length lives)
    × AreMadeInAll lives made
