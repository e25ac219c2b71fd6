-- What the code knows of the rows of a file: the first new number of each alarm, their tags, and the numbers around them.
use Rattle.std.specs.{BTreeMap.{BTreeMap, get}, BTreeSet.{contains}, List.{list_any}, Ordering.{nat_cmp}}
use Rattle.std.specs.Prelude.{Bool, List, false, flat_map, length, nat_lt, option_map, slice_index_or, true, unwrap_or, ℕ, ◌%◌, ◌&&◌, ◌*◌, ◌+◌, ◌-◌, ◌≡◌}
use Rattle.plant_alarm.specs.declared.event.Event.{Event}
use Rattle.plant_import.specs.{Needed.{around, names}, Numbers.{has_number, is_other}}
use Rattle.plant_import.specs.declared.beside.{Neighbours.{Neighbours}, Tags.{Tags}}
use Rattle.plant_types.specs.Names.{Name, name_cmp, same_name}

-- a row of the alarm has a smaller number than this, and one that no kept event has
abbrev pub is_passed : List Event → List Event → Name → ℕ → Bool
is_passed kept rows a n = list_any (λ e. same_name e.tag a && (nat_lt e.seq n && is_other kept e)) rows

-- a number is above the first new one of an alarm exactly if it is above one of the alarm's new rows
abbrev pub AreFirst : BTreeMap Name ℕ → List Event → List Event → Type 0
AreFirst firsts kept rows = (a : Name) (n : ℕ)
    → unwrap_or (option_map (λ m. nat_lt m n) (get name_cmp firsts a)) false ≡ is_passed kept rows a n

-- the slot of a tag, by its last three bytes
abbrev pub tag_slot : Name → ℕ
tag_slot a =
    (slice_index_or a (length a - 1) 0 + 11 * slice_index_or a (length a - 2) 0 + 121 * slice_index_or a (length a - 3) 0) % 1024

-- these are the tags of the rows, and the slot of each is marked
abbrev pub AreNamed : Tags → List Event → Type 0
AreNamed tags rows = ((a : Name) → contains name_cmp tags.tags a ≡ names rows a)
    × ((a : Name) → names rows a ≡ true → slice_index_or tags.marks (tag_slot a) true ≡ true)

-- these are the numbers of the events, and the slot of each is marked
abbrev pub HaveNumbers : Neighbours → List Event → Type 0
HaveNumbers found es = ((n : ℕ) → contains nat_cmp found.numbers n ≡ list_any (has_number n) es)
    × ((n : ℕ) → list_any (has_number n) es ≡ true → slice_index_or found.marks (n % 1024) true ≡ true)

-- these are the numbers of the kept events around the rows
abbrev pub AreAround : Neighbours → List Event → List Event → Type 0
AreAround found kept rows = HaveNumbers found (flat_map (λ e. around kept e.seq) rows)
