-- What of a store of schema 1 is written into the books, read from one connection and written by a transaction of
-- another.
use Rattle.std.specs.Prelude.{IsTrue, List, OnOk, Result, [], map, ◌≡◌}
use Rattle.sqlite.specs.{Held.{Held, state}, State.{HasCleanDisk, State}, Tree.{Trees}, declared.transaction.Transaction.{Transaction}}
use Rattle.sqlite_trees.specs.declared.store.Store.{Ghosts}
use Rattle.plant_model.specs.declared.rows.{Row.{Row}, RowEdit.TheVariants.{Put}}
use Rattle.sqlite.specs.Effect.{Database}
use Rattle.plant_store_statements.specs.Changes.{IsHonest}
use Rattle.plant_store_migration.specs.{OldTables.{AreOldBooks}, Upgrading.{AreTakenOver, IsCopyOf, old_codes, puts_all, upgraded_rows}}
use Rattle.plant_store_statements.specs.Writing.{Writes}
use Rattle.plant_store_migration.specs.declared.old_rows.CodeLine.{CodeLine}
use Rattle.plant_types.specs.Names.{Name}

-- on an honest disk this holds for the tables of schema 1
abbrev pub OfOldTables : {S : Type 0} → Ghosts S → Held S → Held S → (Trees → Type 0) → Type 0
OfOldTables g before after Holds = IsHonest (state g after) → AreOldBooks (state g before).now
    → Holds (state g before).now.trees

-- the unit's old rows of one table are put, each as the row that it becomes
abbrev pub Takes : {S N X V E : Type 0} → Ghosts S → Held S → Held S → Ghosts N → Transaction N → Transaction N → Name
    → (Name → Trees → List X) → (X → Row) → Result V E → Type 0
Takes g from from_after h tx tx_after unit had becomes said =
    OfOldTables g from from_after
    (λ trees. Writes h tx tx_after unit (map (λ r. Put (becomes r)) (had unit trees)) said)

-- the unit's rows of all tables are taken over
abbrev pub TakesUnit : {S N V E : Type 0} → Ghosts S → Held S → Held S → Ghosts N → Transaction N → Transaction N → Name
    → Result V E → Type 0
TakesUnit g from from_after h tx tx_after unit said =
    OfOldTables g from from_after (λ trees. Writes h tx tx_after unit (puts_all (upgraded_rows unit trees)) said)

-- if the lines are the codes of all units, the rows of all units are taken over into books without rows, and the office
-- stays
abbrev pub TakesUnits : {S N V E : Type 0} → Ghosts S → Held S → Held S → Ghosts N → Transaction N → Transaction N
    → List CodeLine → Result V E → Type 0
TakesUnits g from from_after h tx tx_after lines said =
    OfOldTables g from from_after (λ trees. map (λ l. l.unit) lines ≡ old_codes trees
    → HasCleanDisk (state h tx_after.conn.now) → IsTrue tx.conn.now.in_transaction
    → AreTakenOver [] trees (state h tx.conn.now).now
    → OnOk said (AreTakenOver (old_codes trees) trees (state h tx_after.conn.now).now
    × ((state h tx_after.conn.now).now.trees 0 ≡ (state h tx.conn.now).now.trees 0)))

-- these trees are the whole copy of the older tables, whatever rows these have
abbrev pub AreTaken : State → State → Name → Trees → Type 0
AreTaken from from_after admin db =
    IsHonest from_after → AreOldBooks from.now → (d : Database) × (d.trees ≡ db) × IsCopyOf admin from.now.trees d
