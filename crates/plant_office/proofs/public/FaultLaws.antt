-- Kinds of fault, noted one after another.
use Rattle.std.proofs.Common.{◌||◌, ◌≡◌, ◌++◌, ◌∷◌, [], ◌∙◌, ap, sym, Bool, false, true, List, Result, Ok, Err, refl}
use Rattle.std.proofs.lemmas.List.Folds.{list_any-append}
use Rattle.plant_model.specs.declared.reply.{Answer.{Answer}, Refused.{Refused}, Reply.{Reply}}
use Rattle.plant_office.specs.{Answers.{answer_as}, Faults.{added, faults_in, is_memory, no_faults, noted}, Runs.{is_store}, declared.office.Faults.{Faults}}
use Rattle.plant_types.specs.declared.fault.Fault.TheVariants.{Memory, Store}

or_none : (a : Bool) → (a || false) ≡ a
or_none true = refl
or_none false = refl

or_all : (a : Bool) → (a || true) ≡ true
or_all true = refl
or_all false = refl

or_three : (a b c : Bool) → ((a || b) || c) ≡ (a || (b || c))
or_three true b c = refl
or_three false b c = refl

pub added_none : (faults : Faults) → added faults no_faults ≡ faults
added_none faults = λ i. record { memory = or_none faults.memory i; store = or_none faults.store i }

pub added_three : (a b c : Faults) → added (added a b) c ≡ added a (added b c)
added_three a b c = λ i. record { memory = or_three a.memory b.memory c.memory i; store = or_three a.store b.store c.store i }

pub faults_then : (xs ys : List Answer) → faults_in (xs ++ ys) ≡ added (faults_in xs) (faults_in ys)
faults_then xs ys = λ i. record { memory = list_any-append is_memory xs ys i; store = list_any-append is_store xs ys i }

-- those of one list of answers after another
pub noted_then : (faults : Faults) (xs ys : List Answer) → noted (noted faults xs) ys ≡ noted faults (xs ++ ys)
noted_then faults xs ys = added_three faults (faults_in xs) (faults_in ys) ∙ ap (added faults) (sym (faults_then xs ys))

-- the fault of one answer
pub noted_said : (faults : Faults) (r : Result Reply Refused) → noted faults (answer_as (Ok r) ∷ []) ≡ faults
noted_said faults (Ok reply) = added_none faults
noted_said faults (Err refused) = added_none faults

pub noted_memory : (faults : Faults) → noted faults (answer_as (Err Memory) ∷ []) ≡ record faults { memory = true }
noted_memory faults = λ i. record { memory = or_all faults.memory i; store = or_none faults.store i }

pub noted_store : (faults : Faults) → noted faults (answer_as (Err Store) ∷ []) ≡ record faults { store = true }
noted_store faults = λ i. record { memory = or_none faults.memory i; store = or_all faults.store i }
