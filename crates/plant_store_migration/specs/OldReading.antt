-- What the text of a query reads of schema 1, and what a read of it returns.
use Rattle.std.specs.Prelude.{IfOk, List, Result, [], map, ℕ, ◌∷◌, ◌≡◌}
use Rattle.sqlite.specs.{Held.{Held, state}, State.{HasCleanDisk}, Tree.{Trees}}
use Rattle.sqlite_trees.specs.declared.store.Store.{Ghosts}
use Rattle.sqlite_value.specs.{Order.{Row as Line}, declared.value.Value.TheVariants.{Text}}
use Rattle.plant_store_statements.specs.Statements.{ReadsIn}
use Rattle.plant_store_migration.specs.{OldTables.{AreOldBooks, old_books_schema}, Upgrading.{old_codes}}
use Rattle.plant_store_migration.specs.declared.old_rows.CodeLine.{CodeLine}
use Rattle.plant_types.specs.Names.{Name}

-- the text of a query under schema 1
abbrev pub ReadsOld : {X : Type 0} → ℕ → (X → Line) → (Trees → List X) → Line → List ℕ → Type 0
ReadsOld width cells rows params text = ReadsIn old_books_schema AreOldBooks width cells rows params text

-- the text reads all rows that a unit has in a table of schema 1
abbrev pub ReadsOldUnit : {X : Type 0} → ℕ → (X → Line) → (Name → Trees → List X) → List ℕ → Type 0
ReadsOldUnit width cells had text = (u : Name) → ReadsOld width cells (had u) (Text u ∷ []) text

-- on a clean disk the result is this of the tables of schema 1
abbrev pub LoadsOld : {S A E : Type 0} → Ghosts S → Held S → Held S → (Trees → A) → Result A E → Type 0
LoadsOld g before after what said =
    HasCleanDisk (state g after) → AreOldBooks (state g before).now
    → IfOk said (λ found. found ≡ what (state g before).now.trees)

-- on a clean disk the lines have the codes of all units of schema 1
abbrev pub LoadsOldCodes : {S E : Type 0} → Ghosts S → Held S → Held S → Result (List CodeLine) E → Type 0
LoadsOldCodes g before after said =
    HasCleanDisk (state g after) → AreOldBooks (state g before).now
    → IfOk said (λ lines. map (λ l. l.unit) lines ≡ old_codes (state g before).now.trees)
