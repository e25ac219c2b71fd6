-- Whole runs. A call that was answered by a fault counts as never made.
use Rattle.std.specs.{FinMap.{get}, Prelude.{Bool, List, [], count_by, false, true, ℕ, ◌∷◌, ◌≡◌}}
use Rattle.plant_model.specs.{Verdicts.{changes_history}, Views.{view}, Worlds.{IsLegalWorld, World, answer, answers, next}, declared.{call.Call.{Call}, reply.Answer.{Answer}}}
use Rattle.plant_model.specs.declared.reply.Answer.TheVariants.{Fault as Faulted, Refused as WasRefused, Reply as Replied}
use Rattle.plant_types.specs.{Names.{Name}, declared.fault.Fault.TheVariants.{Memory, Store}}
use Rattle.plant_books.specs.Contents.{Content}
use Rattle.plant_office.specs.{Answers.{IfSaid}, Served.{Holds, IsOwnUnit}}

-- the world after a call with this answer
abbrev pub after_answer : World → Call → Answer → World
after_answer w c (Replied r) = next w c
after_answer w c (WasRefused r) = next w c
after_answer w c (Faulted f) = w

abbrev pub world_after : World → List Call → List Answer → World
world_after w (c ∷ calls) (a ∷ answers) = world_after (after_answer w c a) calls answers
world_after w (c ∷ calls) [] = w
world_after w [] answers = w

-- each call got the answer of the world that the calls before it left
abbrev pub AreAnswers : World → List Call → List Answer → Type 0
AreAnswers w [] [] = Unit {0}
AreAnswers w (c ∷ calls) (a ∷ answers) = IfSaid a (λ x. x ≡ answer w c) × AreAnswers (after_answer w c a) calls answers
AreAnswers w [] (a ∷ answers) = ⊥
AreAnswers w (c ∷ calls) [] = ⊥

-- each caller got the answer, and has afterwards the histories, of any other office that looked the same to that caller
pub record IsAlike (w : World) (c : Call) (a : Answer) : Type 0 where
  pub alike : (v : World) → w.admin ≡ v.admin → view c.moment c.person w ≡ view c.moment c.person v
      → IfSaid a (λ x. (x ≡ answer v c)
      × ((u : Name) → IsOwnUnit v c u → get (next w c).units u ≡ get (next v c).units u))

abbrev pub AreIsolated : World → List Call → List Answer → Type 0
AreIsolated w (c ∷ calls) (a ∷ answers) = IsAlike w c a × AreIsolated (after_answer w c a) calls answers
AreIsolated w (c ∷ calls) [] = Unit {0}
AreIsolated w [] answers = Unit {0}

-- from the world the calls got these answers, and the books hold the rows of the world after them
pub record IsRun (w : World) (calls : List Call) (answers : List Answer) (left : Content → Type 0) : Type 0 where
  pub answered : AreAnswers w calls answers
  pub isolated : AreIsolated w calls answers
  pub after : Content
  pub left_it : left after
  pub holds : Holds after (world_after w calls answers)
  pub legal : IsLegalWorld (world_after w calls answers)

-- the answer leaves the rows as they were: it is a fault, a refusal, or a reply to a read
abbrev pub ChangesNothing : Call → Answer → Type 0
ChangesNothing c a = IfSaid a (λ x. changes_history x c ≡ false)

-- each of the answers leaves the rows as they were
abbrev pub AllChangeNothing : List Call → List Answer → Type 0
AllChangeNothing [] [] = Unit {0}
AllChangeNothing (c ∷ calls) (a ∷ answers) = ChangesNothing c a × AllChangeNothing calls answers
AllChangeNothing [] (a ∷ answers) = ⊥
AllChangeNothing (c ∷ calls) [] = ⊥

module _ {B : Type 0} (represents : B → Content → Type 0) where
  -- what the books held before the call they hold after it, if the answer leaves the rows as they were
  abbrev pub KeepsUnchanged : Call → Answer → B → B → Type 0
  KeepsUnchanged c a before after = (m : Content) → represents before m → ChangesNothing c a → represents after m

  -- the books went from the first to the last call by call, and each call did so
  abbrev pub EachKeepsUnchanged : List Call → List Answer → B → B → Type 0
  EachKeepsUnchanged [] [] before after = after ≡ before
  EachKeepsUnchanged (c ∷ calls) (a ∷ answers) before after =
      (between : B) × KeepsUnchanged c a before between × EachKeepsUnchanged calls answers between after
  EachKeepsUnchanged [] (a ∷ answers) before after = ⊥
  EachKeepsUnchanged (c ∷ calls) [] before after = ⊥

-- the answer is a fault of the store
abbrev pub is_store : Answer → Bool
is_store (Replied r) = false
is_store (WasRefused r) = false
is_store (Faulted Memory) = false
is_store (Faulted Store) = true

-- how many of the answers are a fault of the store
abbrev pub stores_in : List Answer → ℕ
stores_in answers = count_by is_store answers
