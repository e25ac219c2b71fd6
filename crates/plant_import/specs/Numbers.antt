-- Events by their numbers.
use Rattle.std.specs.{BTreeMap.{BTreeMap}, List.{list_any}, Ordering.{eq_by_cmp, nat_cmp}, Set.{unique_keys}}
use Rattle.std.specs.Prelude.{Bool, List, drop, false, filter, fold, if◌then◌else◌, map, not, option_map, slice_get, unwrap_or, ℕ, ◌≡◌}
use Rattle.plant_alarm.specs.declared.event.Event.{Event}
use Rattle.plant_types.specs.KeyedRows.{IsInOrder, put_row}

abbrev pub event_number : Event → ℕ
event_number e = e.seq

abbrev pub has_number : ℕ → Event → Bool
has_number n e = eq_by_cmp nat_cmp n e.seq

abbrev pub numbers_of : List Event → List ℕ
numbers_of es = map (λ e. e.seq) es

-- the numbers of a file that no kept event has, each once
abbrev pub new_numbers : List Event → List Event → List ℕ
new_numbers kept rows =
    unique_keys (eq_by_cmp nat_cmp) (numbers_of (filter (λ e. not (list_any (has_number e.seq) kept)) rows))

-- no kept event has the row's number
abbrev pub is_other : List Event → Event → Bool
is_other kept e = not (list_any (has_number e.seq) kept)

-- events with more of them, each put where its number belongs
abbrev pub with_events : List Event → List Event → List Event
with_events kept more = fold (λ es e. put_row nat_cmp event_number e es) kept more

-- events in the order of their numbers, each number once
abbrev pub AreNumbered : List Event → Type 0
AreNumbered es = IsInOrder nat_cmp event_number es

-- the events with this one, which replaces the one with its number, if any
abbrev pub with_event : Event → List Event → List Event
with_event e es = put_row nat_cmp event_number e es

-- the events without the first, if that has the number
abbrev pub behind_number : ℕ → List Event → List Event
behind_number n es = if unwrap_or (option_map (has_number n) (slice_get es 0)) false then drop 1 es else es

-- the map has these events, each under its number
abbrev pub AreByNumber : BTreeMap ℕ Event → List Event → Type 0
AreByNumber m es = m.entries ≡ map (λ e. (e.seq, e)) es
