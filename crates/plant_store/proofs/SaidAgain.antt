-- A statement's result, returned by the books.
use Rattle.std.proofs.Common.{subst, sym, Err, IfOk, Ok, OnErr, OnOk, Result}
use Rattle.sqlite.specs.declared.error.Error.{Error}
use Rattle.plant_store.specs.Counting.{SaysAgain}
use Rattle.plant_types.specs.declared.fault.Fault.{Fault}

-- what holds of what was found holds of it again
pub again_ok : {X : Type 0} (P : X → Type 0) (said : Result X Error) (again : Result X Fault) → SaysAgain said again → IfOk said P → IfOk again P
again_ok P (Ok found) again same h = subst (λ a. IfOk a P) (sym same) h
again_ok P (Err e) (Err fault) same h = tt
again_ok P (Err e) (Ok found) same h = cc

-- what a success gives, under a condition, it gives again
pub again_made : {X H P Q : Type 0} (said : Result X Error) (again : Result X Fault) → SaysAgain said again → (H → OnOk said P) → ((H → P) → Q)
    → OnOk again Q
again_made (Ok found) (Ok again) same made then = then made
again_made (Ok found) (Err fault) same made then = cc
again_made (Err e) (Err fault) same made then = tt
again_made (Err e) (Ok found) same made then = cc

-- and so a failure
pub again_left : {X H P Q : Type 0} (said : Result X Error) (again : Result X Fault) → SaysAgain said again → (H → OnErr said P) → ((H → P) → Q)
    → OnErr again Q
again_left (Ok found) (Ok again) same left then = tt
again_left (Ok found) (Err fault) same left then = cc
again_left (Err e) (Err fault) same left then = then left
again_left (Err e) (Ok found) same left then = cc

-- two things that hold of a success
pub both_ok : {X E P Q R : Type 0} (said : Result X E) → OnOk said P → OnOk said Q → (P → Q → R) → OnOk said R
both_ok (Ok found) p q then = then p q
both_ok (Err e) p q then = tt
