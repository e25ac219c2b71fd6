use Rattle.std.proofs.Common.{◌≡◌, [], false, take, IsTrue, Ok}
use Rattle.sqlite.specs.{Held.{state}, State.{HasCleanDisk}}
use Rattle.plant_store_statements.specs.{Changes.{IsHonest}, OnlyReads.{OnlyReads}, StaysInside.{StaysInside}}
use Rattle.plant_store_migration.specs.OldTables.{AreOldBooks}
use Rattle.plant_store_migration.{specs.Upgrading.{AreTakenOver, old_codes}, proofs.Upgrades.{units_of}}
use Rattle.plant_store_migration.proofs.taking.take_units.Given as goal

-- the units that have been taken over so far
abbrev pub invariant-loop-line : goal.invariant-loop-line
invariant-loop-line g l =
    let had = state g.O.Store l.fn.from in
    let has = state g.O.Store l.from in
    let old = state g.N.Store l.fn.tx.conn.now in
    let now = state g.N.Store l.tx.conn.now in
    record {
      mode : l.from.in_transaction ≡ false;
      reads : OnlyReads had has;
      same_reference : l.tx.conn.ghost_name ≡ l.fn.tx.conn.ghost_name;
      made : IsHonest has → AreOldBooks had.now → units_of l.lines ≡ old_codes had.now.trees → HasCleanDisk now
          → IsTrue l.fn.tx.conn.now.in_transaction → AreTakenOver [] had.now.trees old.now
          → AreTakenOver (units_of (take l.line-index l.lines)) had.now.trees now.now × (now.now.trees 0 ≡ old.now.trees 0);
      stays : StaysInside {V = Unit {0}} (Ok tt) old now;
    }
