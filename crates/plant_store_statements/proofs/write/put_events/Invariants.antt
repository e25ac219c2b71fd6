use Rattle.std.proofs.Common.{◌≡◌, ◌∷◌, [], take, IsTrue, Ok}
use Rattle.sqlite.specs.{Held.{state}, State.{HasCleanDisk}}
use Rattle.plant_store_columns.specs.Tables.{AreBooks}
use Rattle.plant_model.specs.declared.rows.RowEdit.TheVariants.{PutEvents}
use Rattle.plant_store_statements.specs.{Changes.{Applies}, StaysInside.{StaysInside}}
use Rattle.plant_store_statements.proofs.write.put_events.Given as goal

-- what has been put so far
abbrev pub invariant-loop-event : goal.invariant-loop-event
invariant-loop-event g l =
    let old = state g.S.Store l.fn.tx.conn.now in
    let now = state g.S.Store l.tx.conn.now in
    record {
      same_reference : l.tx.conn.ghost_name ≡ l.fn.tx.conn.ghost_name;
      made : HasCleanDisk now → IsTrue l.fn.tx.conn.now.in_transaction → AreBooks old.now
          → Applies l.unit (PutEvents (take l.event-index l.events) ∷ []) old.now now.now;
      stays : StaysInside {V = Unit {0}} (Ok tt) old now;
    }
