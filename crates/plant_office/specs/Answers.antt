-- Answers, and facts about them.
use Rattle.std.specs.Prelude.{Err, Ok, Result, ℕ, ◌≡◌}
use Rattle.plant_model.specs.declared.reply.Answer.{Answer, TheVariants.{Fault as Faulted, Refused as WasRefused, Reply as Replied}}
use Rattle.plant_model.specs.declared.reply.{Refused.{Refused}, Reply.{Reply}}
use Rattle.plant_types.specs.declared.fault.Fault.{Fault}
use Rattle.plant_books.specs.Counting.{CountsFault}

-- the reply, the refusal or the fault as an answer
abbrev pub answer_as : Result (Result Reply Refused) Fault → Answer
answer_as (Ok (Ok r)) = Replied r
answer_as (Ok (Err r)) = WasRefused r
answer_as (Err f) = Faulted f

-- the reply if the changes were made, else the fault
abbrev pub reply_or_fault : {A : Type 0} → Result A Fault → Reply → Result (Result Reply Refused) Fault
reply_or_fault (Ok made) reply = Ok (Ok reply)
reply_or_fault (Err fault) reply = Err fault

-- a fact about the reply or the refusal
abbrev pub IfSaid : Answer → (Result Reply Refused → Type 0) → Type 0
IfSaid (Replied r) P = P (Ok r)
IfSaid (WasRefused r) P = P (Err r)
IfSaid (Faulted f) P = Unit {0}

-- what holds if the answer is a fault
abbrev pub OnFault : Answer → Type 0 → Type 0
OnFault (Replied r) P = Unit {0}
OnFault (WasRefused r) P = Unit {0}
OnFault (Faulted f) P = P

-- the books' count of the fault Store rises by one if the answer is that fault, and else stays the same
abbrev pub CountsAnswer : ℕ → ℕ → Answer → Type 0
CountsAnswer old new (Replied r) = new ≡ old
CountsAnswer old new (WasRefused r) = new ≡ old
CountsAnswer old new (Faulted f) = CountsFault old new f
