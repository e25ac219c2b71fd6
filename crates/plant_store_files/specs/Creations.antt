-- What the making of a new database leaves of its two files, and why it fails.
use Rattle.std.specs.Prelude.{◌≡◌, ◌⊎◌, ◌≤◌, ℕ, Bool, IsTrue}
use Rattle.sqlite.specs.Files.{HoldsDatabase, IsEmpty, IsFullLeft, faults_left, faults_of, image_of}
use Rattle.sqlite.specs.Steps.{IsFresh}
use Rattle.sqlite.specs.declared.error.{Error.{Error, TheVariants.{SqliteFailure}}, ErrorCode.TheVariants.{OutOfMemory}}
use Rattle.sqlite.specs.declared.file.Leftover.{Leftover}
use Rattle.sqlite.specs.declared.file.Leftover.TheVariants as left
use Rattle.sqlite_disk.specs.Disk.{MoreFaults}
use Rattle.sqlite_disk.specs.declared.{Disk.{Ghosts}, Files.{Files}}
use Rattle.sqlite_pool.specs.{Opening.{IsBlankFile}, Stored.{IsUnreadable, Recovers, RecoversAs, used_size}}
use Rattle.sqlite_store.specs.{FileStore.{faults, is_shielded, recovers, state, view}, Opening.{IsEmptyFile}, Unopened.{state_of}}
use Rattle.sqlite_store.specs.declared.store.FileStore.{FileStore}
use Rattle.sqlite_trees.specs.Tree.{Trees}
use Rattle.sqlite_wal.specs.{Files.{outcomes}, Recovery.{Image, Pages}}

-- no database yet, or one without tables
abbrev pub IsBegun : ℕ → Image → Type 0
IsBegun size image = IsBlankFile size image ⊎ ∥ ((db : Trees) × HoldsDatabase image db × IsEmpty db) ∥₁

-- the files hold no database of this page size, or one without tables
abbrev pub HoldNothing : ℕ → Image → Type 0
HoldNothing size image = IsBlankFile size image ⊎ ((pages : Pages) × Recovers size image pages × IsEmptyFile size pages)

-- a crash could leave this before, or it stands for what the files stood for
pub record IsAsItWas {D : Type 0} (g : Ghosts D) (size : ℕ) (files : Files D) (image : Image) : Type 0 where
  pub same : outcomes g files.log files.db image ⊎ RecoversAs size (image_of g files) image
  pub unread : IsUnreadable size (image_of g files) → outcomes g files.log files.db image

-- What a crash leaves of files in which a database was to be made: what they held, no database yet, or one without
-- tables. Files that held a database are as they were.
pub record LeaveBegun {D : Type 0} (g : Ghosts D) (size : ℕ) (files : Files D) (may_leave : Image → Type 0) : Type 0 where
  pub crash : (image : Image) → may_leave image → IsAsItWas g size files image ⊎ IsBegun size image
  pub spared : ¬ HoldNothing size (image_of g files) → (image : Image) → may_leave image → IsAsItWas g size files image
  pub blank : IsBlankFile size (image_of g files) → (image : Image) → may_leave image
      → outcomes g files.log files.db image ⊎ IsBegun size image

module _ {D : Type 0} {g : Ghosts D} where
  -- the same of what was not made
  abbrev pub LeavesBegun : ℕ → Files D → Leftover D g → Type 0
  LeavesBegun size files (left.Files now) = (image : Image) → outcomes g now.log now.db image → outcomes g files.log files.db image
  LeavesBegun size files (left.Unopened now) = LeaveBegun g size files (state_of now).may_leave
  LeavesBegun size files (left.Store now) = (db : Trees) → recovers now db → IsEmpty db

  -- Making it fails for memory, for a fault of the disk, at the greatest size of a file, or over files that hold something.
  abbrev pub FailsToCreate : ℕ → Files D → Leftover D g → Error → Type 0
  FailsToCreate size files rest error =
      (error ≡ SqliteFailure OutOfMemory) ⊎ (MoreFaults (faults_of g files) (faults_left rest)
      ⊎ (IsFullLeft rest ⊎ (¬ IsBlankFile size (image_of g files))))

  -- a store that was just made, with stored pages of this size, after at least so many faults of the disk
  pub record IsNewStore (before size : ℕ) (has_sums : Bool) (store : FileStore D g) : Type 0 where
    pub pages : (state store).page_size ≡ used_size size has_sums
    pub fresh : IsFresh (view store)
    pub is_open : IsTrue (view store).is_open
    pub empty : IsEmpty (view store).trees
    pub sums : (view store).has_sums ≡ has_sums
    pub guarded : is_shielded store
    pub counts : before ≤ faults store
