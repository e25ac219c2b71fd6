-- The state of a connection after it was only read.
use Rattle.std.specs.Prelude.{◌≡◌}
use Rattle.sqlite.specs.State.{State, Survives}
use Rattle.plant_store_statements.specs.Changes.{IsHonest}

-- reading changes nothing, whatever the database is: if the disk is honest and the store open now, they were before,
-- and the database is the same; and a crash leaves nothing that it did not leave before
pub record OnlyReads (before after : State) : Type 0 where
  pub same : IsHonest after → after.now ≡ before.now
  pub honest : IsHonest after → IsHonest before
  pub quiet : Survives before after (λ _. ⊥)
