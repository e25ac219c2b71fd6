-- Files that are merged one after another: it makes no difference which file has which rows, and in which order the
-- files come.
use Rattle.std.specs.{List.{list_all, list_any}, Prelude.{flat_map, Bool, List, [], is_none, length, nat_lt, not, true, ℕ, ◌&&◌, ◌++◌, ◌+◌, ◌∷◌, ◌≡◌}}
use Rattle.plant_alarm.specs.declared.event.Event.{Event}
use Rattle.plant_import.specs.Merging.{clashes, first_fault, fresh, out_of_order, same_event}
use Rattle.plant_types.specs.Names.{Name, same_name}

-- the events are consistent: each number has one content, and no smaller number has a later moment
abbrev pub is_fit : List Event → Bool
is_fit es = list_all (λ e. not (list_any (clashes e) es) && not (list_any (out_of_order e) es)) es

-- the two lists have the same events, apart from order and repeats
abbrev pub SameMembers : List Event → List Event → Type 0
SameMembers xs ys = (e : Event) → list_any (same_event e) xs ≡ list_any (same_event e) ys

-- the moment at which a file is imported, and the file's rows
abbrev pub Brought : Type 0
Brought = ℕ × List Event

abbrev pub rows_brought : List Brought → List Event
rows_brought files = flat_map (λ b. b.1) files

-- the events that are kept after files
abbrev pub kept_after : List Event → List Brought → List Event
kept_after kept [] = kept
kept_after kept (b ∷ files) = kept_after (kept ++ fresh kept b.1) files

-- no file has a fault, if each is merged into what is kept after those before it
abbrev pub are_taken : List Name → List Event → List Brought → Bool
are_taken tags kept [] = true
are_taken tags kept (b ∷ files) =
    is_none (first_fault tags b.0 2 kept b.1) && are_taken tags (kept ++ fresh kept b.1) files

-- how many rows are new, counted file by file
abbrev pub new_rows : List Event → List Brought → ℕ
new_rows kept [] = 0
new_rows kept (b ∷ files) = length (fresh kept b.1) + new_rows (kept ++ fresh kept b.1) files

-- all rows are of known alarms; no file is imported at a moment before one of the rows
abbrev pub are_known : List Name → List Event → Bool
are_known tags rows = list_all (λ e. list_any (same_name e.tag) tags) rows

abbrev pub none_ahead : List Event → List Brought → Bool
none_ahead rows files = list_all (λ b. list_all (λ e. not (nat_lt b.0 e.moment)) rows) files

-- two lists of files agree: no file has a fault, the same events are kept after both, and both have as many new rows as
-- there are rows that were not kept before
pub record Agree (tags : List Name) (kept : List Event) (xs ys : List Brought) : Type 0 where
  pub first_taken : are_taken tags kept xs ≡ true
  pub second_taken : are_taken tags kept ys ≡ true
  pub same_kept : SameMembers (kept_after kept xs) (kept_after kept ys)
  pub first_count : new_rows kept xs ≡ length (fresh kept (rows_brought xs))
  pub same_count : new_rows kept xs ≡ new_rows kept ys

-- lists of files agree if they have the same rows, apart from order and repeats, and if these are of known alarms, are
-- imported in time, and are consistent with each other and with the kept events
abbrev pub FilesAgree : Type 0
FilesAgree =
    (tags : List Name) (kept : List Event) (xs ys : List Brought)
    → are_known tags (rows_brought xs) ≡ true
    → none_ahead (rows_brought xs) xs ≡ true
    → none_ahead (rows_brought xs) ys ≡ true
    → is_fit (kept ++ rows_brought xs) ≡ true
    → SameMembers (rows_brought xs) (rows_brought ys)
    → Agree tags kept xs ys

-- files without fault leave consistent events, if the events kept before were consistent
abbrev pub TakenFilesFit : Type 0
TakenFilesFit = (tags : List Name) (kept : List Event) (files : List Brought) → is_fit kept ≡ true
    → are_taken tags kept files ≡ true → is_fit (kept_after kept files) ≡ true
