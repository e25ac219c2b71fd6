-- What an office did over the files of a place, what they hold afterwards, and what a crash leaves of them.
use Rattle.std.specs.Prelude.{◌≡◌, ◌≢◌, IsTrue, List, [], ℕ, string_bytes}
use Rattle.sqlite.specs.{Effect.{Database}, Files.{FailsToOpenFiles, HoldsDatabase, IsCleanLeft, LeavesFiles, file_state, image_of}, Held.{Held}, Tree.{Trees}}
use Rattle.sqlite.specs.declared.error.Error.{Error}
use Rattle.sqlite.specs.declared.file.Leftover.{Leftover}
use Rattle.sqlite_disk.specs.declared.{Disk.{Ghosts}, Files.{Files}}
use Rattle.sqlite_store.specs.{FileStore.{recovers, view}, declared.store.FileStore.{FileStore}}
use Rattle.sqlite_trees.specs.View.{IsClean}
use Rattle.sqlite_wal.specs.{Reads.{AreClean}, Recovery.{Image}}
use Rattle.plant_books.specs.Contents.{Content}
use Rattle.plant_model.specs.{Worlds.{IsLegalWorld, World}, declared.{call.Call.{Call}, reply.Answer.{Answer}}}
use Rattle.plant_office.specs.{Runs.{AreAnswers, AreIsolated}, Served.{Holds}}
use Rattle.plant_server.specs.{Crashes.{AreWholeOutcomeOf, IsOutcomeIn, LeavesOutcomes}, Files.{AreBooksWith, AreOfDatabase, StillShows, fault_by_error}}
use Rattle.plant_server.specs.{Statuses.{not_copied_text}, declared.remains.Left.{Left}}
use Rattle.plant_server.specs.declared.remains.Left.TheVariants as left
use Rattle.plant_server.specs.declared.names.Found.{Found}
use Rattle.plant_server.specs.declared.names.Found.TheVariants as found
use Rattle.plant_store_statements.specs.Changes.{IsHonest}
use Rattle.plant_store.specs.{Opening.{IsThisOffice}, declared.tables.StoreFault.{StoreFault, TheVariants.{NotThisStore}}}
use Rattle.plant_types.specs.Names.{Name}

-- A path; what the file there and its log hold on opening; and what is true of files that were opened there and not
-- touched.
pub record Place (D : Type 0) : Type 1 where
  pub path : List ℕ
  pub files : Image
  pub fresh : Files D → Type 0

abbrev pub place_of : {D : Type 0} → List ℕ → Image → (Files D → Type 0) → Place D
place_of path files fresh = record { path = path; files = files; fresh = fresh }

-- what was found at this path: if it was empty, this is said of this path
abbrev pub IsFoundAt : List ℕ → Found → Type 0
IsFoundAt path (found.Empty it) = string_bytes it.path ≡ path
IsFoundAt path found.Nothing = Unit {0}
IsFoundAt path found.File = Unit {0}

-- Each call was answered as the world answers it, and as any other world that looks the same to its caller.
pub record AreAnsweredBy (w : World) (calls : List Call) (answers : List Answer) : Type 0 where
  pub answered : AreAnswers w calls answers
  pub isolated : AreIsolated w calls answers

-- The files hold the rows of this world.
pub record AreRowsOf (files : Image) (w : World) : Type 0 where
  pub content : Content
  pub books : AreBooksWith files content
  pub legal : IsLegalWorld w
  pub holds : Holds content w

-- the files at this path do
pub record Begins {D : Type 0} (place : Place D) (path : List ℕ) (w : World) : Type 0 where
  pub here : path ≡ place.path
  pub rows : AreRowsOf place.files w

module _ {D : Type 0} {g : Ghosts D} where
  -- Files that were not opened as a database are as they were. They are refused as not this store only if they hold no
  -- database.
  pub record IsUnopened (place : Place D) (path : List ℕ) (fault : StoreFault) (rest : Leftover D g) : Type 0 where
    pub opened : Files D
    pub fresh : path ≡ place.path → place.fresh opened
    pub still : IsCleanLeft rest → LeavesFiles opened rest
    pub cause : IsCleanLeft rest → fault ≡ NotThisStore → (db : Trees) → ¬ HoldsDatabase (image_of g opened) db

  -- A database that was refused as books is as it was. It is refused as not this store only if it is not the office of
  -- this administrator.
  pub record IsDeclined (place : Place D) (path : List ℕ) (admin : Name) (fault : StoreFault) (conn : Held (FileStore D g))
      : Type 0 where
    pub still : path ≡ place.path → (db : Database) → AreOfDatabase place.files db → StillShows (file_state conn) db
    pub cause : path ≡ place.path → (db : Database) → AreOfDatabase place.files db → fault ≡ NotThisStore
        → IsHonest (file_state conn) → ¬ IsThisOffice admin db

module _ {D N F : Type 0} {g : Ghosts D} where
  -- Files were served, and closed with their log copied, or not.
  abbrev pub WereServed : Left D N F g → Type 0
  WereServed (left.Closed files) = Unit {0}
  WereServed (left.Unclosed store) = Unit {0}
  WereServed _ = ⊥

  -- The disk has returned what was written.
  abbrev pub IsCleanAfter : Left D N F g → Type 0
  IsCleanAfter (left.Closed files) = AreClean g files.log files.db
  IsCleanAfter (left.Unclosed store) = IsClean (view store)
  IsCleanAfter _ = ⊥

  -- The disk has returned what was written, and no failure has shut the store.
  abbrev pub IsHonestAfter : Left D N F g → Type 0
  IsHonestAfter (left.Closed files) = AreClean g files.log files.db
  IsHonestAfter (left.Unclosed store) = IsClean (view store) × IsTrue (view store).is_open
  IsHonestAfter _ = ⊥

  -- Whatever a crash leaves from now on is books after the confirmed calls, or after these and one in doubt; for closed
  -- files also without the log.
  abbrev pub LeavesAfter : Left D N F g → World → List Call → List Answer → Type 0
  LeavesAfter (left.Closed files) w calls answers = AreWholeOutcomeOf g files w calls answers
  LeavesAfter (left.Unclosed store) w calls answers = (db : Trees) → recovers store db → IsOutcomeIn w calls answers db
  LeavesAfter _ w calls answers = ⊥

  -- what closing leaves of a store after serving
  pub record IsClosing (store : FileStore D g) (after : Left D N F g) : Type 0 where
    pub were : WereServed after
    pub clean : IsCleanAfter after → IsClean (view store)
    pub honest : IsHonestAfter after → IsClean (view store) × IsTrue (view store).is_open
    pub leaves : (w : World) (calls : List Call) (answers : List Answer) → LeavesOutcomes store w calls answers
        → IsCleanAfter after → LeavesAfter after w calls answers

  -- what is printed to standard error on closing
  abbrev pub closing_text : Left D N F g → List ℕ
  closing_text (left.Unclosed store) = not_copied_text
  closing_text _ = []

  -- The calls that were made on the books of files, from any world that `begins` there. `store` is what serving left
  -- before it was closed; a crash within the serving is read as its end over a disk that fails from then on. What a
  -- crash leaves is stated for a world of the administrator: the store may have shut while the books were opened.
  pub record RanOnFiles (begins : World → Type 0) (admin : Name) (store : FileStore D g) (after : Left D N F g)
      (calls : List Call) (answers : List Answer) : Type 0 where
    pub answered : (w : World) → begins w → IsCleanAfter after → AreAnsweredBy w calls answers
    pub meanwhile : (w : World) → begins w → w.admin ≡ admin → IsCleanAfter after → LeavesOutcomes store w calls answers
    pub afterwards : (w : World) → begins w → w.admin ≡ admin → IsCleanAfter after → LeavesAfter after w calls answers

  -- No file was opened: what stands for the contents of the files is handed back as it came. No code can make another:
  -- its type is any.
  abbrev pub IsUntouched : Left D N F g → Type 0
  IsUntouched (left.Nothing start) = Unit {0}
  IsUntouched _ = ⊥

  -- Files that the engine did not open as a database, for this error: it was not asked; or they could not be opened at
  -- all; or they were, and are as they were.
  abbrev pub IsNoDatabase : Place D → List ℕ → Error → Left D N F g → Type 0
  IsNoDatabase place path error (left.Nothing start) = fault_by_error error ≢ NotThisStore
  IsNoDatabase place path error (left.Unreached it) = fault_by_error error ≢ NotThisStore
  IsNoDatabase place path error (left.Unopened rest) = (opened : Files D) × (path ≡ place.path → place.fresh opened)
      × (IsCleanLeft rest → LeavesFiles opened rest × FailsToOpenFiles opened rest error)
  IsNoDatabase place path error _ = ⊥

  -- No books were opened, for this fault, and the files are as they were. They are refused as not this store only if a
  -- file of this name was found empty, or only a log of it; or if what was opened is not this store.
  abbrev pub IsRefusal : Place D → List ℕ → Name → StoreFault → Left D N F g → Type 0
  IsRefusal place path admin fault (left.Nothing start) = fault ≢ NotThisStore
  IsRefusal place path admin fault (left.Unreached it) = fault ≢ NotThisStore
  IsRefusal place path admin fault (left.Empty start found) = string_bytes found.path ≡ path
  IsRefusal place path admin fault (left.Unopened rest) = IsUnopened place path fault rest
  IsRefusal place path admin fault (left.Refused conn) = IsDeclined place path admin fault conn
  IsRefusal place path admin fault _ = ⊥
