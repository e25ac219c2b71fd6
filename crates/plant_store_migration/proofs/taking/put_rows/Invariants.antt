use Rattle.std.proofs.Common.{◌≡◌, map, take, IsTrue, Ok}
use Rattle.sqlite.specs.{Held.{state}, State.{HasCleanDisk}}
use Rattle.plant_store_columns.specs.Tables.{AreBooks}
use Rattle.plant_model.specs.declared.rows.RowEdit.TheVariants.{Put}
use Rattle.plant_store_statements.specs.{Changes.{Applies}, StaysInside.{StaysInside}}
use Rattle.plant_store_migration.proofs.taking.put_rows.Given as goal

-- what has been put so far
abbrev pub invariant-loop-row : goal.invariant-loop-row
invariant-loop-row g l =
    let old = state g.N.Store l.fn.tx.conn.now in
    let now = state g.N.Store l.tx.conn.now in
    record {
      same_reference : l.tx.conn.ghost_name ≡ l.fn.tx.conn.ghost_name;
      made : HasCleanDisk now → IsTrue l.fn.tx.conn.now.in_transaction → AreBooks old.now
          → Applies l.unit (map (λ r. Put (g.T.OldRow.becomes r)) (take l.row-index l.rows)) old.now now.now;
      stays : StaysInside {V = Unit {0}} (Ok tt) old now;
    }
