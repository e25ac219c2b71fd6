-- What the program promises of its command line, its streams, and the files at the path that its command line names.
use Rattle.std.specs.Prelude.{◌≡◌, ◌≢◌, ◌⊎◌, IfOk, IfSome, IsSomeAnd, IsTrue, List, ℕ, None, Option, Some, Result, Ok, Err, string_bytes}
use Rattle.sqlite.specs.{Effect.{Database}, Files.{file_state}, Held.{Held}}
use Rattle.sqlite_disk.specs.declared.{Disk.{Ghosts}, Files.{Files}}
use Rattle.sqlite_store.specs.{FileStore.{view}, declared.store.FileStore.{FileStore}}
use Rattle.sqlite_wal.specs.Reads.{AreClean}
use Rattle.plant_books.specs.Contents.{Content}
use Rattle.plant_server_options.specs.{CommandLines.{IsReadAs}, declared.words.{CommandLine.{CommandLine}, CommandLineError.{CommandLineError}, Service.{Service}, Task.{Task}}}
use Rattle.plant_server_options.specs.declared.words.Task.TheVariants.{Migrate, Serve}
use Rattle.plant_model.specs.{Worlds.{World, empty_world}, declared.{call.Call.{Call}, reply.Answer.{Answer}}}
use Rattle.plant_store_memory.specs.{Memory.{memory}, declared.file.MemoryFile.{MemoryFile}}
use Rattle.plant_server.specs.{Crashes.{AreWholeBooksWith}, Files.{AreOfDatabase, AreOldBooksWith, StillShows}}
use Rattle.plant_server.specs.OverFiles.{AreAnsweredBy, WereServed, Begins, IsCleanAfter, IsClosing, IsHonestAfter, IsRefusal, IsUntouched, Place, RanOnFiles, closing_text}
use Rattle.plant_server.specs.{Nets.{Nets}, Services.{HasServed}, Streams.{Bytes, IsPrintedOrCut, Lines, Streams, within}}
use Rattle.plant_server.specs.Statuses.{code, help_text, migrated_text, no_rows_text, refusal_text, status_of_command_line, status_of_migration, unmigrated_text, unopened_text}
use Rattle.plant_server.specs.declared.{remains.Left.{Left}, statuses.ExitStatus.{ExitStatus}}
use Rattle.plant_server.specs.declared.remains.Left.TheVariants as left
use Rattle.plant_server.specs.declared.statuses.ExitStatus.TheVariants.{NoBooks}
use Rattle.plant_store_statements.specs.Changes.{IsHonest}
use Rattle.plant_store.specs.{Opening.{IsThisOffice}, declared.tables.StoreFault.{StoreFault, TheVariants.{NotThisStore}}}
use Rattle.plant_types.specs.Names.{Name}

-- Nothing was served, for this fault: no byte was read, none was answered, and no port was announced.
pub record IsUnserved (fault : StoreFault) (s : Streams) (n : ExitStatus) : Type 0 where
  pub status : n ≡ NoBooks
  pub unread : s.unread_after ≡ s.unread
  pub written : s.written_after ≡ s.written
  pub printed : s.lines.printed_after ≡ s.lines.printed
  pub unlistened : s.nets.after ≡ s.nets.before
  pub said : IsPrintedOrCut s.lines.reported s.lines.reported_after (unopened_text fault)

-- In memory the office began with no units, and each call was answered as the world answers it. If a service ended because
-- its store had shut, the store is indeed shut.
pub record IsServedInMemory (admin : Name) (service : Option Service) (s : Streams) (n : ExitStatus)
    (store : FileStore MemoryFile memory) : Type 0 where
  pub first : Bytes
  pub said : IsPrintedOrCut s.lines.reported first no_rows_text
  pub served : HasServed (AreAnsweredBy (empty_world admin)) (¬ IsTrue (view store).is_open) service
      (within s first s.lines.reported_after) n

module _ {D N : Type 0} {g : Ghosts D} where
  -- An older file was migrated, or not. The new file holds what the older one held in schema 1, and the older one still
  -- holds what it held.
  pub record AreMigrated (h : Ghosts N) (place : Place D) (path : List ℕ) (admin : Name) (lines : Lines) (n : ExitStatus)
      (old : Option (Held (FileStore D g))) (made : Result (Files N) StoreFault) : Type 0 where
    pub status : n ≡ status_of_migration made
    pub printed : IsPrintedOrCut lines.printed lines.printed_after (migrated_text made)
    pub said : IsPrintedOrCut lines.reported lines.reported_after (unmigrated_text made)
    pub taken : path ≡ place.path → (m : Content) → m.admin ≡ admin → AreOldBooksWith place.files m
        → IfOk made (λ files. IsSomeAnd old (λ conn. IsHonest (file_state conn)
        → AreClean h files.log files.db → AreWholeBooksWith h files m))
    pub still : path ≡ place.path → IfSome old (λ conn. (db : Database) → AreOfDatabase place.files db
        → StillShows (file_state conn) db)

module _ {D N F : Type 0} {g : Ghosts D} where
  -- it was served in memory, or books could not be made and nothing was served
  abbrev pub IsEndInMemory : Name → Option Service → Streams → ExitStatus → Left D N F g → Type 0
  IsEndInMemory admin service s n (left.Nothing start) = (fault : StoreFault) × IsUnserved fault s n × (fault ≢ NotThisStore)
  IsEndInMemory admin service s n (left.InMemory start store) = IsServedInMemory admin service s n store
  IsEndInMemory admin service s n _ = ⊥

  -- The files of the administrator's office were served. If a service ended because a failure had shut the store, the
  -- store is indeed shut.
  pub record FilesServed (place : Place D) (path : List ℕ) (admin : Name) (service : Option Service) (s : Streams)
      (n : ExitStatus) (after : Left D N F g) : Type 0 where
    pub were : WereServed after
    pub own : path ≡ place.path → (db : Database) → AreOfDatabase place.files db → IsCleanAfter after
        → IsThisOffice admin db
    pub store : FileStore D g
    pub closing : IsClosing store after
    pub first : Bytes
    pub last : Bytes
    pub said : IsPrintedOrCut s.lines.reported first no_rows_text × IsPrintedOrCut last s.lines.reported_after (closing_text after)
    pub served : HasServed (RanOnFiles (Begins place path) admin store after) (¬ IsHonestAfter after) service
        (within s first last) n

  -- files were served, or no books were opened, for this fault
  abbrev pub IsEndOnFile : Place D → List ℕ → Name → Option Service → Streams → ExitStatus → Left D N F g → Type 0
  IsEndOnFile place path admin service s n after =
      ((fault : StoreFault) × IsUnserved fault s n × IsRefusal place path admin fault after)
      ⊎ FilesServed place path admin service s n after

  abbrev pub IsMigration : Ghosts N → Place D → List ℕ → Name → Lines → ExitStatus → Left D N F g → Type 0
  IsMigration h place path admin lines n (left.Migrated old made) = AreMigrated h place path admin lines n old made
  IsMigration h place path admin lines n _ = ⊥

  -- a task was done, or the reason why it was not was reported
  abbrev pub IsEndOfTask : Ghosts N → Place D → Name → Task → Streams → ExitStatus → Left D N F g → Type 0
  IsEndOfTask h place admin (Serve None service) s n after = IsEndInMemory admin service s n after
  IsEndOfTask h place admin (Serve (Some path) service) s n after =
      IsEndOnFile place (string_bytes path) admin service s n after
  IsEndOfTask h place admin (Migrate old new) s n after =
      (s.unread_after ≡ s.unread) × (s.nets.after ≡ s.nets.before) × IsMigration h place (string_bytes old) admin s.lines n after

  -- What the command line asks for was done, or it was refused, or it asked for help, which was printed, and then no
  -- file was opened.
  abbrev pub IsEndOfLine : Ghosts N → Place D → Result CommandLine CommandLineError → Streams → ExitStatus → Left D N F g → Type 0
  IsEndOfLine h place (Ok line) s n after = IsEndOfTask h place line.admin line.task s n after
  IsEndOfLine h place (Err error) s n after = IsUntouched after × (n ≡ status_of_command_line error) × (s.unread_after ≡ s.unread)
      × (s.nets.after ≡ s.nets.before)
      × IsPrintedOrCut s.lines.printed s.lines.printed_after (help_text error)
      × IsPrintedOrCut s.lines.reported s.lines.reported_after (refusal_text error)

  -- The promise: the command line is read, what it asks for is done, and the exit status shows how it ended.
  -- `gives_port` and `gives` read the numbers of options.
  pub record IsKept {E : Type 0} (gives_port gives : List ℕ → Result ℕ E → Type 0) (h : Ghosts N) (place : Place D)
      (words : List (List ℕ)) (s : Streams) (number : ℕ) (after : Left D N F g) : Type 0 where
    pub line : Result CommandLine CommandLineError
    pub read : IsReadAs gives_port gives words line
    pub status : ExitStatus
    pub ended : IsEndOfLine h place line s status after
    pub told : number ≡ code status

-- The promise about some net and about what is left of some files: those of the machine, of which no code shows anything.
abbrev pub IsKeptOnSome : {D N E : Type 0} → (F : Type 0) → (g : Ghosts D) → Ghosts N → (List ℕ → Result ℕ E → Type 0)
    → (List ℕ → Result ℕ E → Type 0) → Place D → List (List ℕ) → (Nets → Streams) → ℕ → Type 0
IsKeptOnSome {D} {N} F g h gives_port gives place words streams number =
    (nets : Nets) × ((after : Left D N F g) × IsKept gives_port gives h place words (streams nets) number after)
