-- The kept events that an import needs. A row's neighbours by number show whether it is faulty, and whether it is kept
-- already. An alarm's state can be continued from its last event, as long as no new row has a smaller number than that
-- event; otherwise it is computed again from the alarm's own events.
use Rattle.std.specs.List.{list_all, list_any}
use Rattle.std.specs.Prelude.{Bool, List, None, [], drop, false, filter, if◌then◌else◌, length, nat_lt, not, take, true, ℕ, ◌&&◌, ◌++◌, ◌-◌, ◌||◌, ◌≡◌}
use Rattle.plant_alarm.specs.declared.event.Event.{Event}
use Rattle.plant_import.specs.{Merging.{IsRising, first_fault, fresh, merge}, Numbers.{has_number, with_events}, Relation.{below}}
use Rattle.plant_types.specs.Names.{Name, same_name}

-- the event has a smaller number than every row
abbrev pub is_before_all : List Event → Event → Bool
is_before_all rows k = list_all (λ e. nat_lt k.seq e.seq) rows

-- the events, ordered by number, from the last one that comes before every row; all of them if none does
abbrev pub from_last_before : List Event → List Event → List Event
from_last_before kept rows = drop (length (filter (is_before_all rows) kept) - 1) kept

-- an event of the same alarm has a greater number
abbrev pub is_overtaken : List Event → Event → Bool
is_overtaken kept e = list_any (λ k. same_name e.tag k.tag && nat_lt e.seq k.seq) kept

-- the row's number is new, and an event of its alarm has a greater one
abbrev pub is_late : List Event → Event → Bool
is_late kept e = is_overtaken kept e && not (list_any (has_number e.seq) kept)

abbrev pub has_late : List Event → List Event → Bool
has_late kept rows = list_any (is_late kept) rows

-- the kept events around a number: the last of a smaller one and the two behind it; if none is smaller, the first three
abbrev pub around : List Event → ℕ → List Event
around kept n = take 3 (drop (length (below n kept) - 1) kept)

-- a row is of this alarm
abbrev pub names : List Event → Name → Bool
names rows a = list_any (λ e. same_name e.tag a) rows

-- one of the events around the number of a row has this number
abbrev pub is_around : List Event → List Event → ℕ → Bool
is_around kept rows n = list_any (λ e. list_any (has_number n) (around kept e.seq)) rows

-- the kept event is of a row's alarm, or around a row's number
abbrev pub is_beside : List Event → List Event → Event → Bool
is_beside kept rows k = names rows k.tag || is_around kept rows k.seq

abbrev pub beside : List Event → List Event → List Event
beside kept rows = filter (is_beside kept rows) kept

-- if a row is late, the events of the rows' alarms, whose states are then computed again, and those around the rows
abbrev pub needed : List Event → List Event → List Event
needed kept rows = if has_late kept rows then beside kept rows else from_last_before kept rows

-- with the events that it needs, a file has the same first fault and adds the same rows as with all events
abbrev pub NeededSuffice : Type 0
NeededSuffice = (kept rows : List Event) (tags : List Name) (now : ℕ) → IsRising kept
    → merge (needed kept rows) rows tags now ≡ merge kept rows tags now

-- if a file has no fault and no late row, an alarm's events after it are its kept events followed by its new ones
abbrev pub NewOnesFollow : Type 0
NewOnesFollow =
    (a : Name) (kept rows : List Event) (tags : List Name) (now : ℕ)
    → IsRising kept
    → first_fault tags now 2 kept rows ≡ None
    → has_late kept rows ≡ false
    → filter (λ e. same_name a e.tag) (with_events kept (fresh kept rows)) ≡ filter (λ e. same_name a e.tag) kept
    ++ filter (λ e. same_name a e.tag) (with_events [] (fresh kept rows))

-- if a row is late, an alarm that the new rows of a file without fault name has the same events after the file, whether
-- its new rows are added to all kept events or to those that it needs
abbrev pub NeededHaveOwn : Type 0
NeededHaveOwn =
    (a : Name) (kept rows : List Event) (tags : List Name) (now : ℕ)
    → IsRising kept
    → first_fault tags now 2 kept rows ≡ None
    → has_late kept rows ≡ true
    → list_any (λ e. same_name a e.tag) (fresh kept rows) ≡ true
    → filter (λ e. same_name a e.tag) (with_events (needed kept rows) (fresh kept rows))
    ≡ filter (λ e. same_name a e.tag) (with_events kept (fresh kept rows))
