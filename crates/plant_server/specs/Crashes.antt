-- What a crash leaves of the files of an office.
use Rattle.std.specs.Prelude.{IsTrue, List, [], ◌≡◌}
use Rattle.sqlite.specs.{Closing.{HoldsAlone}, Effect.{Database}, Held.{AreDatabases}, State.{HasCleanDisk, State}, Tree.{Trees}}
use Rattle.sqlite_disk.specs.declared.{Disk.{Ghosts}, Files.{Files}}
use Rattle.sqlite_store.specs.{FileStore.{recovers, state, view}, declared.store.FileStore.{FileStore}}
use Rattle.sqlite_trees.specs.View.{IsClean}
use Rattle.sqlite_wal.specs.{Files.{outcomes}, Recovery.{Image}}
use Rattle.plant_books.specs.{Contents.{Content}, Crashes.{Alike}}
use Rattle.plant_model.specs.{Worlds.{World}, declared.{call.Call.{Call}, reply.Answer.{Answer}}}
use Rattle.plant_office.specs.Outcomes.{IsOutcome}
use Rattle.plant_server.specs.Files.{AreBooksWith}
use Rattle.plant_store_statements.specs.Keeping.{AreBooksOf, LeavesBooks, LeavesContent}

-- on a clean disk a crash leaves books whose content is alike to this one, and nothing else
abbrev pub LeavesOnly : State → Content → Type 0
LeavesOnly s m = HasCleanDisk s → LeavesBooks s × ((x : Content) → LeavesContent s x → Alike x m)

-- the files hold books that a crash may leave of an office that began at this world, and gave these calls these answers
pub record AreOutcomeOf (w : World) (calls : List Call) (answers : List Answer) (files : Image) : Type 0 where
  pub content : Content
  pub books : AreBooksWith files content
  pub outcome : IsOutcome w calls answers content

-- the database is of such books
pub record IsOutcomeIn (w : World) (calls : List Call) (answers : List Answer) (db : Trees) : Type 0 where
  pub content : Content
  pub database : Database
  pub same : database.trees ≡ db
  pub books : AreBooksOf content database
  pub outcome : IsOutcome w calls answers content

-- Whatever a crash leaves of this store is such books: each database that the engine may find again, and each state of
-- its two files, which therefore opens.
pub record LeavesOutcomes {D : Type 0} {g : Ghosts D} (it : FileStore D g) (w : World) (calls : List Call)
    (answers : List Answer) : Type 0 where
  pub databases : (db : Trees) → recovers it db → IsOutcomeIn w calls answers db
  pub files : (image : Image) → (state it).may_leave image → ∥ AreOutcomeOf w calls answers image ∥₁

-- whatever a crash leaves of the store is a whole database
pub record IsWhole {D : Type 0} {g : Ghosts D} (it : FileStore D g) : Type 0 where
  pub numbered : IsTrue (view it).is_numbered
  pub sound : AreDatabases (recovers it)

-- the store was open, and whatever a crash leaves of its closed files holds what it had committed, also without the log
pub record AreAsCommitted {D : Type 0} (g : Ghosts D) (it : FileStore D g) (files : Files D) : Type 0 where
  pub clean : IsClean (view it)
  pub is_open : IsTrue (view it).is_open
  pub committed : recovers it (view it).committed
  pub alone : (image : Image) → outcomes g files.log files.db image → HoldsAlone image (view it).committed

-- whatever a crash leaves of closed files holds books with this content, also without the log
abbrev pub AreWholeBooksWith : {D : Type 0} → (g : Ghosts D) → Files D → Content → Type 0
AreWholeBooksWith g files m = (image : Image) → outcomes g files.log files.db image
    → ∥ AreBooksWith image m ∥₁ × ∥ AreBooksWith (record image { log = [] }) m ∥₁

-- the same, with books that a crash may leave of an office
abbrev pub AreWholeOutcomeOf : {D : Type 0} → (g : Ghosts D) → Files D → World → List Call → List Answer → Type 0
AreWholeOutcomeOf g files w calls answers =
    (image : Image) → outcomes g files.log files.db image
    → ∥ AreOutcomeOf w calls answers image ∥₁ × ∥ AreOutcomeOf w calls answers (record image { log = [] }) ∥₁
