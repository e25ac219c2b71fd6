-- What the files of a database held when they were opened, and what an error of the engine is reported as.
use Rattle.std.specs.Prelude.{◌≡◌}
use Rattle.sqlite.specs.{Effect.{Database, IsDatabase}, Files.{HoldsDatabase}, State.{HasCleanDisk, State}, Tree.{Trees}, declared.error.Error.{Error, TheVariants.{SqliteFailure}}}
use Rattle.sqlite.specs.declared.error.ErrorCode.TheVariants.{NotADatabase, OutOfMemory}
use Rattle.sqlite_trees.specs.declared.error.StoreError.{StoreError}
use Rattle.sqlite_wal.specs.Recovery.{Image}
use Rattle.plant_books.specs.Contents.{Content}
use Rattle.plant_store_statements.specs.{Changes.{IsHonest}, Keeping.{HaveRows}}
use Rattle.plant_store_migration.specs.Upgrading.{HaveOldRows}
use Rattle.plant_store.specs.declared.tables.StoreFault.{StoreFault}
use Rattle.plant_types.specs.declared.fault.Fault.TheVariants.{Memory, Store}
use Rattle.plant_store.specs.declared.tables.StoreFault.TheVariants as store_fault
use Rattle.sqlite_trees.specs.declared.error.StoreError.TheVariants as store_error

-- the files hold this database
pub record AreOfDatabase (files : Image) (db : Database) : Type 0 where
  pub trees : HoldsDatabase files db.trees
  pub listed : IsDatabase db

-- they hold books with this content
pub record AreBooksWith (files : Image) (m : Content) : Type 0 where
  pub db : Database
  pub database : AreOfDatabase files db
  pub rows : HaveRows m db

-- they hold a store of schema 1 that has this content
pub record AreOldBooksWith (files : Image) (m : Content) : Type 0 where
  pub db : Database
  pub database : AreOfDatabase files db
  pub rows : HaveOldRows m db

-- a connection still shows this database, and a crash leaves nothing else
pub record StillShows (s : State) (db : Database) : Type 0 where
  pub shown : IsHonest s → s.now ≡ db
  pub left : HasCleanDisk s → (trees : Trees) → s.may_leave trees → trees ≡ db.trees

-- a file that is not a database is not this store; every other error is a fault, of memory or of the store
abbrev pub fault_by_error : Error → StoreFault
fault_by_error (SqliteFailure NotADatabase) = store_fault.NotThisStore
fault_by_error (SqliteFailure OutOfMemory) = store_fault.Fault Memory
fault_by_error _ = store_fault.Fault Store

-- what an error of the store at its closing is reported as
abbrev pub closing_fault_of : StoreError → StoreFault
closing_fault_of store_error.OutOfMemory = store_fault.Fault Memory
closing_fault_of _ = store_fault.Fault Store
