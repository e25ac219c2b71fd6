-- What the parts of the command establish for one another.
use Rattle.std.specs.Prelude.{◌≡◌, IsTrue, List, [], Option}
use Rattle.sqlite_disk.specs.declared.Disk.{Ghosts}
use Rattle.sqlite_store.specs.{FileStore.{view}, declared.store.FileStore.{FileStore}}
use Rattle.sqlite_trees.specs.View.{IsClean}
use Rattle.plant_server_options.specs.declared.words.Service.{Service}
use Rattle.plant_model.specs.{Worlds.{World, empty_world}, declared.{call.Call.{Call}, reply.Answer.{Answer}}}
use Rattle.plant_office.specs.Enduring.{AreAfter, BooksState, HoldsWorld}
use Rattle.plant_server.specs.{Crashes.{LeavesOutcomes}, OverFiles.{AreAnsweredBy, WereServed, IsCleanAfter, IsClosing, IsHonestAfter, RanOnFiles, closing_text}, declared.remains.Left.{Left}}
use Rattle.plant_server.specs.{Services.{HasServed}, Statuses.{no_rows_text}, Streams.{Bytes, IsPrintedOrCut, Streams, within}, declared.statuses.ExitStatus.{ExitStatus}}
use Rattle.plant_types.specs.Names.{Name}

-- The books hold the rows of this world, if the disk has returned what was written; and for a world of this administrator a
-- crash leaves nothing else.
pub record IsAtHand (books : BooksState) (admin : Name) (w : World) : Type 0 where
  pub now : books.clean → HoldsWorld w books
  pub after : w.admin ≡ admin → books.clean → AreAfter w [] [] books

module _ {D : Type 0} {g : Ghosts D} where
  -- the calls that were made on new books were answered from this world, if the disk has returned what was written
  pub record RanAnew (w : World) (store : FileStore D g) (calls : List Call) (answers : List Answer) : Type 0 where
    pub answered : IsClean (view store) → AreAnsweredBy w calls answers

  -- new books were served, which have no units
  pub record IsServedAnew (admin : Name) (service : Option Service) (s : Streams) (n : ExitStatus) (store : FileStore D g) : Type 0 where
    pub first : Bytes
    pub said : IsPrintedOrCut s.lines.reported first no_rows_text
    pub served : HasServed (RanAnew (empty_world admin) store) (IsClean (view store) → ¬ IsTrue (view store).is_open) service
        (within s first s.lines.reported_after) n

module _ {D N F : Type 0} {g : Ghosts D} where
  -- The books of files were served, and the files closed.
  pub record BooksServed (books : BooksState) (admin : Name) (service : Option Service) (s : Streams) (n : ExitStatus)
      (after : Left D N F g) : Type 0 where
    pub were : WereServed after
    pub clean : IsCleanAfter after → books.clean
    pub store : FileStore D g
    pub closing : IsClosing store after
    pub first : Bytes
    pub last : Bytes
    pub said : IsPrintedOrCut s.lines.reported first no_rows_text × IsPrintedOrCut last s.lines.reported_after (closing_text after)
    pub served : HasServed (RanOnFiles (IsAtHand books admin) admin store after) (¬ IsHonestAfter after) service
        (within s first last) n
