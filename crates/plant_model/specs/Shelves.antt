-- Shelving: what the last method of the shelved state machine of OPC 10000-9 left.
use Rattle.std.specs.Prelude.{Bool, List, None, Option, Some, false, if◌then◌else◌, option_map, true, unwrap_or, ℕ, ◌+◌}
use Rattle.plant_alarm.specs.{Shelves.{shelf_state}, declared.shelf.{Shelf.{Shelf, TheVariants.{Clear, OneShot, Timed}}, ShelfState.{ShelfState}}}
use Rattle.plant_model.specs.{Alarms.{limit}, Histories.{Said, latest, of_key, said_as, still}, Kinds.{NewShelf, OneShotShelf, TimedShelf, says}}
use Rattle.plant_model.specs.declared.{call.{Call.{Call}, Request.{Request}}, rows.ShelfRow.{ShelfRow}}
use Rattle.plant_types.specs.Names.{Name, same_name}

-- a shelf's row: by whom and why, whether it is a one-shot, its start and its end
abbrev pub shelf_row_as : Bool → ℕ → ℕ → Name → Name → Name → ShelfRow
shelf_row_as one_shot s until p words a =
    record { tag = a; one_shot = one_shot; start_s = s; until_s = until; person = p; words = words }

-- the row of a shelf that begins. A timed shelf lasts its own time, a one-shot shelf at most the limit in force just
-- before the entry
abbrev pub begun : Name → Name → ℕ → List Call → NewShelf → ShelfRow
begun a p s before (TimedShelf d words) = shelf_row_as false s (s + d) p words a
begun a p s before (OneShotShelf words) = shelf_row_as true s (s + unwrap_or (limit before a) 0) p words a

abbrev pub shelf_as : Name → ℕ → List Call → Name × Said NewShelf → Name × Said ShelfRow
shelf_as p s before e = (e.0, said_as (begun e.0 p s before) e.1)

-- what an entry states about the alarm's shelf: that one begins, or that it is over
abbrev pub said_of_shelf : Name → Name → ℕ → List Call → Request → Option (Said ShelfRow)
said_of_shelf a p s before r = of_key same_name a (option_map (shelf_as p s before) (says r).shelf)

-- the shelf that the last method left, however long ago
abbrev pub shelf : List Call → Name → Option ShelfRow
shelf h a = still (latest (λ c before. said_of_shelf a c.person c.moment before c.request) h)

-- the shelf that a row describes; without a row the alarm is not shelved
abbrev pub shelf_left : Option ShelfRow → Shelf
shelf_left None = Clear
shelf_left (Some s) = if s.one_shot then OneShot s.start_s s.until_s else Timed s.start_s s.until_s

-- the shelved state at a moment, by the shelf that the last method left and the moment of the alarm's last return to
-- normal; every answer and the quota use this state
abbrev pub state_of_shelf : Option ShelfRow → Option ℕ → ℕ → ShelfState
state_of_shelf shelf returned t = shelf_state (shelf_left shelf) returned t
