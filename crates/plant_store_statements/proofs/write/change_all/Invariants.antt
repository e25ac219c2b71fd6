use Rattle.std.proofs.Common.{◌≡◌, take, IsTrue}
use Rattle.sqlite.specs.{Held.{state}, State.{HasCleanDisk, KeepsCommit, Survives}}
use Rattle.plant_store_statements.specs.Changes.{Applies}
use Rattle.plant_store_columns.specs.Tables.{AreBooks}
use Rattle.plant_store_statements.proofs.write.change_all.Given as goal

-- what has been made so far
abbrev pub invariant-loop-change : goal.invariant-loop-change
invariant-loop-change g l =
    let old = state g.S.Store l.fn.tx.conn.now in
    let now = state g.S.Store l.tx.conn.now in
    record {
      same_reference : l.tx.conn.ghost_name ≡ l.fn.tx.conn.ghost_name;
      made : HasCleanDisk now → AreBooks old.now → Applies l.unit (take l.change-index l.changes) old.now now.now;
      inside : HasCleanDisk now → IsTrue l.tx.conn.now.in_transaction;
      kept : HasCleanDisk now → KeepsCommit old now;
      survives : Survives old now (λ _. ⊥);
    }
