-- What a crash may leave of an office's books, by the calls that it answered.
use Rattle.std.specs.Prelude.{Bool, List, [], false, if◌then◌else◌, not, true, ◌++◌, ◌∷◌, ◌≡◌, ◌⊎◌}
use Rattle.plant_books.specs.Contents.{Content}
use Rattle.plant_model.specs.{Verdicts.{is_read}, Worlds.{IsLegalWorld, World, next}, declared.{call.Call.{Call}, reply.Answer.{Answer}}}
use Rattle.plant_model.specs.declared.reply.Answer.TheVariants.{Fault as Faulted, Refused as WasRefused, Reply as Replied}
use Rattle.plant_office.specs.Served.{Holds}

-- the answer confirms the call: it is a reply, and not to a read, so the caller knows that the call was made
abbrev pub confirms : Call → Answer → Bool
confirms c (Replied r) = not (is_read c.request)
confirms c (WasRefused r) = false
confirms c (Faulted f) = false

-- the calls that were confirmed, in their order
abbrev pub confirmed : List Call → List Answer → List Call
confirmed (c ∷ calls) (a ∷ answers) = if confirms c a then c ∷ confirmed calls answers else confirmed calls answers
confirmed (c ∷ calls) [] = []
confirmed [] answers = []

abbrev pub is_fault : Answer → Bool
is_fault (Replied r) = false
is_fault (WasRefused r) = false
is_fault (Faulted f) = true

-- the call is in doubt: its answer was a fault, so the caller does not know whether it was made, and no later call was
-- confirmed
abbrev pub IsInDoubt : Call → List Call → List Answer → Type 0
IsInDoubt c (d ∷ calls) (a ∷ answers) = ((d ≡ c) × (is_fault a ≡ true) × (confirmed calls answers ≡ []))
    ⊎ IsInDoubt c calls answers
IsInDoubt c (d ∷ calls) [] = ⊥
IsInDoubt c [] answers = ⊥

-- these calls are made after a crash: those that were confirmed, or these and one that is in doubt
abbrev pub AreMade : List Call → List Answer → List Call → Type 0
AreMade calls answers made = (made ≡ confirmed calls answers)
    ⊎ ((c : Call) × IsInDoubt c calls answers × (made ≡ confirmed calls answers ++ c ∷ []))

-- the world after these calls, made one after the other
abbrev pub after_calls : World → List Call → World
after_calls w [] = w
after_calls w (c ∷ calls) = after_calls (next w c) calls

-- books that a crash may leave of an office that began at this world, and gave these calls these answers
pub record IsOutcome (w : World) (calls : List Call) (answers : List Answer) (x : Content) : Type 0 where
  pub made : List Call
  pub are_made : AreMade calls answers made
  pub holds : Holds x (after_calls w made)
  pub legal : IsLegalWorld (after_calls w made)
