-- What one or several statements write, within a transaction and as a transaction.
use Rattle.std.specs.Prelude.{IfOk, IsTrue, List, Ok, OnErr, OnOk, Result, ℕ, ◌≡◌}
use Rattle.sqlite.specs.{Effect.{Database, IsDatabase}, Held.{Held, state}, State.{Executes, HasCleanDisk, KeepsCommit, State, Survives}, Tree.{Trees}, Values.{bound}}
use Rattle.sqlite.specs.declared.{error.Error.{Error}, transaction.Transaction.{Transaction}}
use Rattle.sqlite_trees.specs.declared.store.Store.{Ghosts}
use Rattle.sqlite_value.specs.declared.value.ValueRef.{ValueRef}
use Rattle.plant_store_columns.specs.Tables.{AreBooks, no_schema}
use Rattle.plant_model.specs.declared.rows.RowEdit.{RowEdit}
use Rattle.plant_store_statements.specs.{Changes.{Applies, IsHonest}, Statements.{changes_written}, StaysInside.{StaysInside}}
use Rattle.plant_types.specs.Names.{Name}

-- the database has no table, no index and no view
abbrev pub IsBlank : Database → Type 0
IsBlank db = db.schema ≡ no_schema

-- ---- of a transaction before and after

-- it is still a transaction of the same connection
abbrev pub SameReference : {S : Type 0} → Transaction S → Transaction S → Type 0
SameReference before after = after.conn.ghost_name ≡ before.conn.ghost_name

-- after a success the transaction is still open, and nothing is committed
abbrev pub StaysOpen : {S V : Type 0} → Ghosts S → Transaction S → Transaction S → Result V Error → Type 0
StaysOpen g before after said = StaysInside said (state g before.conn.now) (state g after.conn.now)

-- after a success on a clean disk the statement has run
abbrev pub RunsStatement : {S V E : Type 0} → Ghosts S → Transaction S → Transaction S → List ℕ → List ValueRef
    → Result V E → Type 0
RunsStatement g before after sql cells said =
    HasCleanDisk (state g after.conn.now) → IsTrue before.conn.now.in_transaction
    → OnOk said ((count : ℕ) × Executes sql (bound cells) (state g before.conn.now) (state g after.conn.now) (Ok count))

-- after a success on a clean disk the statement has run, and has written as many rows as the result says
abbrev pub RunsCounting : {S E : Type 0} → Ghosts S → Transaction S → Transaction S → List ℕ → List ValueRef
    → Result ℕ E → Type 0
RunsCounting g before after sql cells said =
    HasCleanDisk (state g after.conn.now) → IsTrue before.conn.now.in_transaction
    → IfOk said (λ count. Executes sql (bound cells) (state g before.conn.now) (state g after.conn.now) (Ok count))

-- after a success on a clean disk the unit's rows in the books are changed so, and nothing else is
abbrev pub Writes : {S V E : Type 0} → Ghosts S → Transaction S → Transaction S → Name → List RowEdit → Result V E
    → Type 0
Writes g before after unit changes said =
    HasCleanDisk (state g after.conn.now) → IsTrue before.conn.now.in_transaction
    → AreBooks (state g before.conn.now).now
    → OnOk said (Applies unit changes (state g before.conn.now).now (state g after.conn.now).now)

-- after a success on a clean disk this change of the unit's rows is made if a row was written, and nothing else is
abbrev pub Updates : {S E : Type 0} → Ghosts S → Transaction S → Transaction S → Name → RowEdit → Result ℕ E → Type 0
Updates g before after unit change said =
    HasCleanDisk (state g after.conn.now) → IsTrue before.conn.now.in_transaction
    → AreBooks (state g before.conn.now).now
    → IfOk said
    (λ count. Applies unit (changes_written count change) (state g before.conn.now).now (state g after.conn.now).now)

-- after a success on a clean disk a database that had this property before has it now
abbrev pub LeadsTo : {S V E : Type 0} → Ghosts S → Transaction S → Transaction S → (Database → Type 0)
    → (Database → Type 0) → Result V E → Type 0
LeadsTo g before after Was Is said =
    HasCleanDisk (state g after.conn.now) → IsTrue before.conn.now.in_transaction → Was (state g before.conn.now).now
    → OnOk said (Is (state g after.conn.now).now)

-- ---- of a transaction that is open before

-- after a success on a clean disk the unit's rows in the books are changed so, and nothing else is
abbrev pub WritesOpen : {S V E : Type 0} → Ghosts S → Transaction S → Transaction S → Name → List RowEdit → Result V E
    → Type 0
WritesOpen g before after unit changes said =
    HasCleanDisk (state g after.conn.now) → AreBooks (state g before.conn.now).now
    → OnOk said (Applies unit changes (state g before.conn.now).now (state g after.conn.now).now)

-- after a success on a clean disk it is open
abbrev pub IsOpenIfOk : {S V E : Type 0} → Ghosts S → Transaction S → Result V E → Type 0
IsOpenIfOk g after said = HasCleanDisk (state g after.conn.now) → OnOk said (IsTrue after.conn.now.in_transaction)

-- on a clean disk nothing is committed
abbrev pub CommitsNothing : {S : Type 0} → Ghosts S → Transaction S → Transaction S → Type 0
CommitsNothing g before after = HasCleanDisk (state g after.conn.now)
    → KeepsCommit (state g before.conn.now) (state g after.conn.now)

-- a crash loses what was written
abbrev pub CrashLoses : {S : Type 0} → Ghosts S → Transaction S → Transaction S → Type 0
CrashLoses g before after = Survives (state g before.conn.now) (state g after.conn.now) (λ _. ⊥)

-- ---- of a connection before and after, whatever a crash makes of it

-- these trees are the books with the changes of the unit
abbrev pub AreChanged : State → Name → List RowEdit → Trees → Type 0
AreChanged s unit changes db = AreBooks s.now → IsDatabase s.now
    → (d : Database) × (d.trees ≡ db) × IsDatabase d × Applies unit changes s.now d

-- the same, and the connection was honest
abbrev pub AreChangedHonestly : State → Name → List RowEdit → Trees → Type 0
AreChangedHonestly s unit changes db = IsHonest s × IsDatabase s.now × AreChanged s unit changes db

-- a crash leaves what it left before, or the books with the changes
abbrev pub LeavesChanged : {S : Type 0} → Ghosts S → Held S → Held S → Name → List RowEdit → Type 0
LeavesChanged g before after unit changes =
    Survives (state g before) (state g after) (AreChanged (state g before) unit changes)

-- the same, and the latter only if the connection was honest
abbrev pub LeavesChangedHonestly : {S : Type 0} → Ghosts S → Held S → Held S → Name → List RowEdit → Type 0
LeavesChangedHonestly g before after unit changes =
    Survives (state g before) (state g after) (AreChangedHonestly (state g before) unit changes)

-- a crash leaves what it left before
abbrev pub LeavesNothingNew : {S : Type 0} → Ghosts S → Held S → Held S → Type 0
LeavesNothingNew g before after = Survives (state g before) (state g after) (λ _. ⊥)

-- after a success on a clean disk the store is open
abbrev pub IsLeftOpen : {S V E : Type 0} → Ghosts S → Held S → Result V E → Type 0
IsLeftOpen g after said = HasCleanDisk (state g after) → OnOk said (IsTrue (state g after).is_open)

-- after a success on a clean disk the store was open and is, and held a database
abbrev pub WasOpen : {S V E : Type 0} → Ghosts S → Held S → Held S → Result V E → Type 0
WasOpen g before after said = HasCleanDisk (state g after)
    → OnOk said (IsTrue (state g before).is_open × IsTrue (state g after).is_open × IsDatabase (state g before).now)

-- ---- of a connection before and after, on an honest disk

-- after a success the unit's rows in the books are changed so, and nothing else is
abbrev pub Commits : {S V E : Type 0} → Ghosts S → Held S → Held S → Name → List RowEdit → Result V E → Type 0
Commits g before after unit changes said =
    IsHonest (state g after) → AreBooks (state g before).now
    → OnOk said (Applies unit changes (state g before).now (state g after).now)

-- after a failure the database is as it was
abbrev pub SameOnErr : {S V E : Type 0} → Ghosts S → Held S → Held S → Result V E → Type 0
SameOnErr g before after said = IsHonest (state g after) → OnErr said ((state g after).now ≡ (state g before).now)

-- the database is as it was
abbrev pub SameDatabase : {S : Type 0} → Ghosts S → Held S → Held S → Type 0
SameDatabase g before after = IsHonest (state g after) → (state g after).now ≡ (state g before).now
