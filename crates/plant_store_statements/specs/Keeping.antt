-- When a connection keeps a content of the books.
use Rattle.std.specs.{FinMap.{contains_key}, Prelude.{IsTrue, ◌≡◌}}
use Rattle.sqlite.specs.{Effect.{Database, IsDatabase}, State.{HasCleanDisk, State}, Tree.{Trees}}
use Rattle.plant_books.specs.{Contents.{Content, rows_in}, Crashes.{Alike}}
use Rattle.plant_store_statements.specs.Changes.{IsHonest, IsOfficeOf}
use Rattle.plant_store_columns.specs.Tables.{AreBooks, AreSeen}
use Rattle.plant_types.specs.Names.{Name}
pub use Rattle.plant_model.specs.steps.Keys.{has_any}

-- the tables have the rows of each unit, and exactly the opened units have a row of their own
pub record HaveRows (m : Content) (db : Database) : Type 0 where
  pub books : AreBooks db
  pub office : IsOfficeOf m.admin db
  pub seen : (u : Name) → AreSeen u db (rows_in m u)
  pub opened : (u : Name) → contains_key m.units u ≡ has_any (rows_in m u).units

-- the database that a connection shows has these rows
abbrev pub HasContent : State → Content → Type 0
HasContent s m = HaveRows m s.now

-- the same, if the connection is honest
abbrev pub Represents : State → Content → Type 0
Represents s m = IsHonest s → HasContent s m

-- a database of the engine that has the rows of a content
pub record AreBooksOf (m : Content) (d : Database) : Type 0 where
  pub database : IsDatabase d
  pub rows : HaveRows m d

-- the next opening after a crash at this moment may find books with this content
abbrev pub LeavesContent : State → Content → Type 0
LeavesContent s m = (d : Database) × s.may_leave d.trees × AreBooksOf m d

-- whatever the next opening finds can be opened as books
abbrev pub LeavesBooks : State → Type 0
LeavesBooks s = (db : Trees) → s.may_leave db → (m : Content) × (d : Database) × (d.trees ≡ db) × AreBooksOf m d

-- if the store was open, on a clean disk, a crash leaves only books with a content that is alike to this one
abbrev pub LeavesAlike : State → State → Content → Type 0
LeavesAlike before after m = HasCleanDisk after → (HasCleanDisk before → IsTrue before.is_open)
    → LeavesBooks after × ((x : Content) → LeavesContent after x → Alike x m)
