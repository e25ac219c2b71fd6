-- What a step within a transaction leaves of it.
use Rattle.std.specs.Prelude.{IsTrue, OnOk, Result}
use Rattle.sqlite.specs.{State.{HasCleanDisk, KeepsCommit, State, Survives}, declared.error.Error.{Error}}

-- after a successful step the transaction is still open; nothing is committed, so a crash loses what the step wrote
pub record StaysInside {V : Type 0} (result : Result V Error) (before after : State) : Type 0 where
  pub inside : HasCleanDisk after → IsTrue before.in_transaction → OnOk result (IsTrue after.in_transaction)
  pub kept : HasCleanDisk after → IsTrue before.in_transaction → KeepsCommit before after
  pub survives : Survives before after (λ _. ⊥)
