-- Several starts of the program over one file, each of which ended, was killed or was cut off.
use Rattle.std.specs.Prelude.{List, [], ◌∷◌, ◌++◌, ◌≡◌, ◌⊎◌, Option}
use Rattle.sqlite_disk.specs.declared.Disk.{Ghosts}
use Rattle.sqlite_store.specs.{FileStore.{state}, declared.store.FileStore.{FileStore}}
use Rattle.sqlite_wal.specs.{Files.{outcomes}, Recovery.{Image}}
use Rattle.plant_model.specs.{Worlds.{World}, declared.{call.Call.{Call}, reply.Answer.{Answer}}}
use Rattle.plant_office.specs.{Lives.{Life}, Outcomes.{AreMade, after_calls}}
use Rattle.plant_server.specs.{OverFiles.{AreAnsweredBy, AreRowsOf, IsCleanAfter, IsHonestAfter, Place, RanOnFiles}, Promise.{FilesServed}}
use Rattle.plant_server.specs.{Services.{HasServed}, Streams.{Streams, within}, declared.statuses.ExitStatus.{ExitStatus}}
use Rattle.plant_server_options.specs.declared.words.Service.{Service}
use Rattle.plant_server.specs.declared.remains.Left.{Left}
use Rattle.plant_server.specs.declared.remains.Left.TheVariants as left
use Rattle.plant_types.specs.Names.{Name}

-- For each start, those of its calls that were made: all that were confirmed, and at most one that is in doubt. All its
-- calls were answered as the world answers them that the earlier starts left.
abbrev pub AreMadeInTurn : World → List Life → List (List Call) → Type 0
AreMadeInTurn w [] [] = Unit {0}
AreMadeInTurn w (life ∷ lives) (own ∷ later) = AreMade life.calls life.answers own
    × AreAnsweredBy w life.calls life.answers × AreMadeInTurn (after_calls w own) lives later
AreMadeInTurn w [] (own ∷ later) = ⊥
AreMadeInTurn w (life ∷ lives) [] = ⊥

-- all of them as one list
abbrev pub in_all : List (List Call) → List Call
in_all [] = []
in_all (own ∷ later) = own ++ in_all later

-- These starts are one list of calls, after which the files hold the rows of the world.
pub record AreOneRun (w : World) (lives : List Life) (files : Image) : Type 0 where
  pub made : List (List Call)
  pub in_turn : AreMadeInTurn w lives made
  pub rows : AreRowsOf files (after_calls w (in_all made))

module _ {D N F : Type 0} {g : Ghosts D} where
  -- the next start may find these files: what a crash within the serving leaves, or one after the closing, also without
  -- the log
  abbrev pub MayFind : FileStore D g → Left D N F g → Image → Type 0
  MayFind store (left.Closed files) found = (state store).may_leave found
      ⊎ ((image : Image) × outcomes g files.log files.db image × ((found ≡ image) ⊎ (found ≡ record image { log = [] })))
  MayFind store _ found = (state store).may_leave found

-- A start of the program from files that hold `from`: these calls were made on them, as `FilesServed` states for the
-- files at the path that its command line names, and the next start may find `to`.
pub record IsStart {D N : Type 0} (F : Type 0) (g : Ghosts D) (h : Ghosts N) (admin : Name) (from to : Image) (life : Life) : Type 0 where
  pub store : FileStore D g
  pub after : Left D N F g
  pub ran : RanOnFiles (AreRowsOf from) admin store after life.calls life.answers
  pub clean : IsCleanAfter after
  pub found : MayFind store after to

-- one start after the other, each from what the one before left
abbrev pub AreStarts : {D N : Type 0} → Type 0 → Ghosts D → Ghosts N → Name → Image → List Life → Image → Type 0
AreStarts F g h admin first [] last = last ≡ first
AreStarts F g h admin first (life ∷ lives) last =
    (found : Image) × IsStart F g h admin first found life × AreStarts F g h admin found lives last

-- Any number of starts of the program over the file of an administrator, each ended, killed or cut off, are one list of
-- calls of one world, with at most one call in doubt for each start.
abbrev pub StartsAreOneRun : {D N : Type 0} → Type 0 → Ghosts D → Ghosts N → Type 0
StartsAreOneRun F g h = (first last : Image) (lives : List Life) (w : World) → AreRowsOf first w
    → AreStarts F g h w.admin first lives last → ∥ AreOneRun w lives last ∥₁

-- these are the calls of a start, and its answers
abbrev pub AreOfLife : Life → List Call → List Answer → Type 0
AreOfLife life calls answers = (calls ≡ life.calls) × (answers ≡ life.answers)

-- What `FilesServed` states of a command is such a start from what the files at its path held: of whatever the next
-- start may then find. The same streams or connections were served, with the calls and the answers of this start.
abbrev pub IsAStart : {D N : Type 0} → Type 0 → Ghosts D → Ghosts N → Place D → Type 0
IsAStart {D} {N} F g h place =
    (admin : Name) (service : Option Service) (s : Streams) (n : ExitStatus) (after : Left D N F g) (to : Image)
    → (it : FilesServed place place.path admin service s n after) → IsCleanAfter after → MayFind it.store after to
    → (life : Life) × IsStart F g h admin place.files to life
    × HasServed (AreOfLife life) (¬ IsHonestAfter after) service (within s it.first it.last) n
