-- The activations of all alarms of a unit (ISA-18.2: alarm rate), and how many there are in each period of ten minutes.
use Rattle.std.specs.{BTreeSet.{BTreeSet, contains}, List.{range_with_len}}
use Rattle.std.specs.Prelude.{Bool, List, [], count_by, filter, map, nat_le, nat_lt, ℕ, ◌&&◌, ◌*◌, ◌+◌, ◌-◌, ◌/◌, ◌≡◌}
use Rattle.plant_alarm.specs.{States.{is_activation, is_active, passing}, declared.event.Event.{Event}}
use Rattle.plant_types.specs.Names.{Name, name_cmp, same_name}

-- the events of one alarm
abbrev pub of_alarm : Name → List Event → List Event
of_alarm a es = filter (λ e. same_name a e.tag) es

-- an activation among the events of its own alarm
abbrev pub is_activation_of : List Event → Event → Bool
is_activation_of before e = is_activation (of_alarm e.tag before) e

-- the activations of all alarms, suppressed or not, oldest first
abbrev pub activations_of_all : List Event → List Event
activations_of_all es = passing is_activation_of [] es

-- whether a moment lies in the ten minutes that begin at a second
abbrev pub is_in_period : ℕ → ℕ → Bool
is_in_period t m = nat_le t m && nat_lt m (t + 600)

abbrev pub activations_from : List Event → ℕ → ℕ
activations_from es t = count_by (λ e. is_in_period t e.moment) (activations_of_all es)

-- the number of activations in each whole period of a range, oldest period first
abbrev pub period_counts : List Event → ℕ → ℕ → List ℕ
period_counts es begin until =
    map (λ i. activations_from es (begin + 600 * i)) (range_with_len 0 ((until - begin) / 600))

-- the tags are those of the alarms that are active after these events
abbrev pub AreActive : BTreeSet Name → List Event → Type 0
AreActive tags es = (a : Name) → contains name_cmp tags a ≡ is_active (of_alarm a es)
