-- Cached copies of units' rows, and the books that keep the rows themselves.
use Rattle.std.specs.{FinMap.{get}, Prelude.{Bool, List, Option, Some, [], false, length, option_map, true, ℕ, ◌+◌, ◌∷◌, ◌≡◌}}
use Rattle.plant_books.specs.Contents.{Content, without_history, without_reviews}
use Rattle.plant_model.specs.declared.rows.UnitRows.{UnitRows}
use Rattle.plant_books_cache.specs.declared.cached_unit.CachedUnit.{CachedUnit}
use Rattle.plant_types.specs.Names.{Name, same_name}

-- the rows of each unit that was opened
abbrev pub There : Type 0
There = Name → Option UnitRows

-- the code of a unit with its cached rows
abbrev pub Copy : Type 0
Copy = Name × CachedUnit

-- how many rows there are
abbrev pub row_count : UnitRows → ℕ
row_count rows =
    length rows.units + length rows.grants + length rows.alarms + length rows.shelves + length rows.events
    + length rows.bands + length rows.cells + length rows.records + length rows.changes

-- how many rows all copies have
abbrev pub rows_of_all : List Copy → ℕ
rows_of_all [] = 0
rows_of_all (copy ∷ copies) = row_count copy.1.rows + rows_of_all copies

-- the rows of a unit that are cached: all except its matrices and changes, with the events or without
abbrev pub seen : Bool → UnitRows → UnitRows
seen true rows = without_reviews rows
seen false rows = without_history rows

-- a true copy of its unit's rows in the books
abbrev pub IsCopy : There → Copy → Type 0
IsCopy there copy = option_map (seen copy.1.has_events) (there copy.0) ≡ Some copy.1.rows

-- each copy is true
abbrev pub AreCopies : There → List Copy → Type 0
AreCopies there [] = Unit {0}
AreCopies there (copy ∷ copies) = IsCopy there copy × AreCopies there copies

-- if the copies before are true, so are those after
abbrev pub StayCopies : List Copy → List Copy → Type 0
StayCopies before after = (there : There) → AreCopies there before → AreCopies there after

-- if the copies before are true, and so is this one, those after are true
abbrev pub StayCopiesWith : Copy → List Copy → List Copy → Type 0
StayCopiesWith copy before after = (there : There) → IsCopy there copy → AreCopies there before → AreCopies there after

-- the rows in the books differ at most in one unit
abbrev pub DiffersAt : Name → There → There → Type 0
DiffersAt unit there after = (u : Name) → same_name unit u ≡ false → after u ≡ there u

-- the books below hold the content, and the copies are true copies of it if the keeper's premise holds
pub record IsCached (below : Content → Type 0) (is_honest : Type 0) (copies : List Copy) (m : Content) : Type 0 where
  pub held : below m
  pub copied : is_honest → AreCopies (get m.units) copies
