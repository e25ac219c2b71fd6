-- How a row relates to events that are ordered by number: what the code finds from the nearest of them.
use Rattle.std.specs.{Borrow.{Bor}, List.{list_any}}
use Rattle.std.specs.Prelude.{ℕ, ◌≡◌, ◌-◌, Bool, true, false, List, ◌++◌, Option, Some, None, Result, Ok, Err, filter, length, nat_lt, not, slice_get, option_copied}
use Rattle.plant_types.specs.Names.{Name}
use Rattle.plant_alarm.specs.declared.event.Event.{Event}
use Rattle.plant_import.specs.{Merging.{clashes, is_new, merge_fault, out_of_order, same_event}, declared.bad_file.Cause.{Cause}}
use Rattle.plant_import.specs.declared.{bad_file.Cause.TheVariants.{SequenceClash, MomentOutOfOrder}, relation.Nearest.{Nearest}}
use Rattle.plant_import.specs.declared.relation.Relation.{Relation, TheVariants.{New, Known, Clash, OutOfOrder}}

-- whether one of the events is the same, clashes, or is out of order with this one
pub record RelatesSo (events : List Event) (e : Event) (same clash order : Bool) : Type 0 where
  pub same_is : list_any (same_event e) events ≡ same
  pub clash_is : list_any (clashes e) events ≡ clash
  pub order_is : list_any (out_of_order e) events ≡ order

abbrev pub IsRelated : List Event → Event → Relation → Type 0
IsRelated events e New = RelatesSo events e false false false
IsRelated events e Known = RelatesSo events e true false false
IsRelated events e Clash = list_any (clashes e) events ≡ true
IsRelated events e OutOfOrder = RelatesSo events e false false true

-- the events with a smaller number, and the others
abbrev pub below : ℕ → List Event → List Event
below n es = filter (λ e. nat_lt e.seq n) es

abbrev pub from : ℕ → List Event → List Event
from n es = filter (λ e. not (nat_lt e.seq n)) es

-- it is the first of the events, or the last; none if there are no events
abbrev pub IsFirst : List Event → Option (Bor Event) → Type 0
IsFirst es e = option_copied e ≡ slice_get es 0

abbrev pub IsLast : List Event → Option (Bor Event) → Type 0
IsLast es e = option_copied e ≡ slice_get es (length es - 1)

-- the last of the events below the number, and the first of the others
abbrev pub AreNearest : List Event → ℕ → Nearest → Type 0
AreNearest es n nearest = IsLast (below n es) nearest.below × IsFirst (from n es) nearest.from

-- the row's fault, or whether it is new
abbrev pub JudgesRow : List Name → ℕ → List Event → List Event → Event → Result Bool Cause → Type 0
JudgesRow tags now kept seen e (Err cause) = merge_fault tags now (kept ++ seen) e ≡ Some cause
JudgesRow tags now kept seen e (Ok new) = (merge_fault tags now (kept ++ seen) e ≡ None)
    × (is_new (kept ++ seen) e ≡ new)

-- the relation to the kept events combined with that to the earlier new rows
abbrev pub joined : Relation → Relation → Result Bool Cause
joined Clash fresh = Err SequenceClash
joined kept Clash = Err SequenceClash
joined OutOfOrder fresh = Err MomentOutOfOrder
joined kept OutOfOrder = Err MomentOutOfOrder
joined New New = Ok true
joined kept fresh = Ok false
