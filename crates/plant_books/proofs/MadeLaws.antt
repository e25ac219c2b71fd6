-- What follows where a call succeeds.
use Rattle.std.proofs.Common.{Err, Ok, OnErr, OnOk, Result, subst, sym, ◌≡◌}

pub if_made : {A E P Q : Type 0} (r : Result A E) → (P → Q) → OnOk r P → OnOk r Q
if_made (Ok x) f h = f h
if_made (Err e) f h = tt

-- what holds of the value before and of the value that is made, holds of the value after
pub made_or_not : {A E X : Type 0} (P : X → Type 0) (r : Result A E) (old new made : X) → OnOk r (new ≡ made) → OnErr r (new ≡ old) → P old → P made → P new
made_or_not P (Ok x) old new made ok err was is = subst P (sym ok) is
made_or_not P (Err e) old new made ok err was is = subst P (sym err) was
