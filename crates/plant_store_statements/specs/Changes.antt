-- The effect on the tables of changes of a unit's rows.
use Rattle.std.specs.Prelude.{IsTrue, List, [], ◌∷◌, ◌≡◌, ◌≢◌}
use Rattle.sqlite.specs.{Effect.{Database, IsDatabase}, State.{HasCleanDisk, State}}
use Rattle.plant_model.specs.declared.rows.{Row.{Row}, RowEdit.{RowEdit}, UnitRows.{UnitRows}}
use Rattle.plant_model.specs.steps.RowChanges.{changed_by}
use Rattle.plant_model.specs.declared.rows.Row.TheVariants.{Alarm as AlarmPut, Band as BandPut, Cell as CellPut, Change as ChangePut, Event as EventPut, Grant as GrantPut, Record as RecordPut, Shelf as ShelfPut, Unit as UnitPut}
use Rattle.plant_store_columns.specs.{Tables.{AreBooks, AreSeen, RowOf, office_row, rows_seen}, declared.tables.TableKind.{TableKind}}
use Rattle.plant_store_columns.specs.declared.tables.TableKind.TheVariants.{Alarms, Bands, Cells, Changes, Events, Grants, Records, Shelves, Units}
use Rattle.plant_types.specs.Names.{Name}

-- a row in the form in which changes have it
abbrev pub as_row : (i : TableKind) → RowOf i → Row
as_row Units x = UnitPut x
as_row Grants x = GrantPut x
as_row Alarms x = AlarmPut x
as_row Shelves x = ShelfPut x
as_row Bands x = BandPut x
as_row Cells x = CellPut x
as_row Events x = EventPut x
as_row Records x = RecordPut x
as_row Changes x = ChangePut x

-- the unit's rows are changed, in the order of the list, and nothing else is changed
pub record Applies (unit : Name) (changes : List RowEdit) (old new : Database) : Type 0 where
  pub books : AreBooks new
  pub mine : (rows : UnitRows) → AreSeen unit old rows → AreSeen unit new (changed_by changes rows)
  pub others : (other : Name) → other ≢ unit → (i : TableKind)
      → rows_seen other new.trees i ≡ rows_seen other old.trees i
  pub office : new.trees 0 ≡ old.trees 0
  -- what the engine can open stays that
  pub database : IsDatabase old → IsDatabase new

-- the disk has returned what was written, and no failure has shut the database
abbrev pub IsHonest : State → Type 0
IsHonest s = HasCleanDisk s × IsTrue s.is_open

-- the office's table has this person's row alone
abbrev pub IsOfficeOf : Name → Database → Type 0
IsOfficeOf admin db = db.trees 0 ≡ office_row admin ∷ []
