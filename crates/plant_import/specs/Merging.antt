-- What a file adds to the events that are kept, or its first fault.
use Rattle.std.specs.List.{list_any}
use Rattle.std.specs.Prelude.{ℕ, ◌+◌, ◌-◌, ◌<◌, ◌≤◌, Bool, ◌&&◌, ◌||◌, not, nat_lt, ◌==◌, List, [], ◌∷◌, ◌++◌, length, Option, Some, None, Result, Ok, Err, option_map, AllPairs}
use Rattle.plant_types.specs.{Names.{Name, same_name}, Options.{or_else}}
use Rattle.plant_alarm.specs.{States.{passing}, declared.event.{Event.{Event}, EventKind.{EventKind, TheVariants.{Act, Rtn, Ack, Reset, Sup, Unsup}}}}
use Rattle.plant_import.specs.{Fields.{first_cause}, Reading.{bad}, declared.bad_file.{BadFile.{BadFile}, Cause.{Cause}}}
use Rattle.plant_import.specs.declared.bad_file.Cause.TheVariants.{TagUnknown, MomentAhead, SequenceClash, MomentOutOfOrder}
use Rattle.plant_import.specs.declared.merging.Merged.{Merged}

-- events ordered by number, whose moments do not fall
abbrev pub IsRising : List Event → Type 0
IsRising events = AllPairs (λ a b. (a.seq < b.seq) × (a.moment ≤ b.moment)) events

abbrev pub kind_no : EventKind → ℕ
kind_no Act = 1
kind_no Rtn = 2
kind_no Ack = 3
kind_no Reset = 4
kind_no Sup = 5
kind_no Unsup = 6

abbrev pub same_event : Event → Event → Bool
same_event a b =
    (a.seq == b.seq) && (a.moment == b.moment) && same_name a.tag b.tag && (kind_no a.kind == kind_no b.kind)

-- the same number, but other content
abbrev pub clashes : Event → Event → Bool
clashes a b = (a.seq == b.seq) && not (same_event a b)

-- one of the two has the smaller number and the later moment
abbrev pub out_of_order : Event → Event → Bool
out_of_order a b = (nat_lt a.seq b.seq && nat_lt b.moment a.moment) || (nat_lt b.seq a.seq && nat_lt a.moment b.moment)

-- the fault of a row, if any: the first of these. `others` are the kept events and the earlier rows
unfoldable pub merge_fault : List Name → ℕ → List Event → Event → Option Cause
merge_fault tags now others e =
    first_cause ((not (list_any (same_name e.tag) tags), TagUnknown)
    ∷ (nat_lt now e.moment, MomentAhead)
    ∷ (list_any (clashes e) others, SequenceClash)
    ∷ (list_any (out_of_order e) others, MomentOutOfOrder)
    ∷ [])

-- the first fault of rows, the first of which is on this line
abbrev pub first_fault : List Name → ℕ → ℕ → List Event → List Event → Option BadFile
first_fault tags now line others [] = None
first_fault tags now line others (e ∷ rows) =
    or_else (option_map (bad line) (merge_fault tags now others e))
    (first_fault tags now (line + 1) (others ++ e ∷ []) rows)

-- a row that is not one of these events
abbrev pub is_new : List Event → Event → Bool
is_new others e = not (list_any (same_event e) others)

-- the rows that are neither kept nor on an earlier line, in the file's order
abbrev pub fresh : List Event → List Event → List Event
fresh kept file = passing is_new kept file

abbrev pub merged_or : Option BadFile → List Event → List Event → Result Merged BadFile
merged_or (Some fault) kept file = Err fault
merged_or None kept file = Ok (record { fresh = fresh kept file; repeated = length file - length (fresh kept file) })

-- what a file adds, and how many of its rows are repeated, or the first fault of a row
unfoldable pub merge : List Event → List Event → List Name → ℕ → Result Merged BadFile
merge kept file tags now = merged_or (first_fault tags now 2 kept file) kept file
