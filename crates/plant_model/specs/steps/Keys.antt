-- Whether a unit has a row with a given row's key, and which rows a change replaces.
use Rattle.std.specs.{List.{list_any}, Ordering.{eq_by_cmp}, Prelude.{Bool, List, [], false, true, ℕ, ◌∷◌, ◌≡◌}}
use Rattle.plant_import.specs.Numbers.{has_number}
use Rattle.plant_model.specs.{Histories.{same_number}, Matrices.{band_cmp, cell_cmp}}
use Rattle.plant_model.specs.steps.{RowChanges.{changed}, RowFacts.{band_key, cell_key, pair_of}}
use Rattle.plant_model.specs.declared.rows.{Row.{Row}, RowEdit.{RowEdit, TheVariants.{Put, PutEvents, Remove}}, UnitRows.{UnitRows}}
use Rattle.plant_model.specs.declared.rows.Row.TheVariants.{Alarm, Band, Cell, Change, Event, Grant, Record, Shelf, Unit as UnitRow}
use Rattle.plant_types.specs.{Names.{same_name}, Roles.{same_pair}}
use Rattle.plant_model.specs.{Facts.{facts}, Legality.{IsLegal, may_follow}, Rows.{rows_of}, declared.call.Call.{Call}}
use Rattle.plant_model.specs.steps.{CallChanges.{changes_for}, Parts.{part_of}}

-- the list is not empty
abbrev pub has_any : {A : Type 0} → List A → Bool
has_any [] = false
has_any (x ∷ xs) = true

-- one of the rows has the key of this row
abbrev pub has_key : Row → UnitRows → Bool
has_key (UnitRow r) rows = has_any rows.units
has_key (Grant r) rows = list_any (λ other. same_pair (pair_of r) (pair_of other)) rows.grants
has_key (Alarm r) rows = list_any (λ other. same_name r.tag other.tag) rows.alarms
has_key (Shelf r) rows = list_any (λ other. same_name r.tag other.tag) rows.shelves
has_key (Band r) rows = list_any (λ other. eq_by_cmp band_cmp (band_key r) (band_key other)) rows.bands
has_key (Cell r) rows = list_any (λ other. eq_by_cmp cell_cmp (cell_key r) (cell_key other)) rows.cells
has_key (Event e) rows = list_any (λ other. same_number e.seq other.seq) rows.events
has_key (Record r) rows = list_any (λ other. same_name r.tag other.tag) rows.records
has_key (Change r) rows = list_any (λ other. same_number r.number other.number) rows.changes

-- if a row replaces one of the unit's rows, that one is among those that were seen
abbrev pub IsOverSeen : UnitRows → UnitRows → Row → Type 0
IsOverSeen rows seen r = has_key r rows ≡ true → has_key r seen ≡ true

-- the same for the rows that a change puts. Events, limits and cells never change, and replace none
abbrev pub PutsOverSeen : UnitRows → UnitRows → RowEdit → Type 0
PutsOverSeen rows seen (Put (UnitRow r)) = IsOverSeen rows seen (UnitRow r)
PutsOverSeen rows seen (Put (Grant r)) = IsOverSeen rows seen (Grant r)
PutsOverSeen rows seen (Put (Alarm r)) = IsOverSeen rows seen (Alarm r)
PutsOverSeen rows seen (Put (Shelf r)) = IsOverSeen rows seen (Shelf r)
PutsOverSeen rows seen (Put (Record r)) = IsOverSeen rows seen (Record r)
PutsOverSeen rows seen (Put (Change r)) = IsOverSeen rows seen (Change r)
PutsOverSeen rows seen (Put (Band r)) = has_key (Band r) rows ≡ false
PutsOverSeen rows seen (Put (Cell r)) = has_key (Cell r) rows ≡ false
PutsOverSeen rows seen (Put (Event e)) = has_key (Event e) rows ≡ false
PutsOverSeen rows seen (PutEvents es) = (n : ℕ) → list_any (has_number n) es ≡ true
    → list_any (has_number n) rows.events ≡ false
PutsOverSeen rows seen (Remove k) = Unit {0}

-- the same for all of these changes, made in their order
abbrev pub AllPutOverSeen : UnitRows → UnitRows → List RowEdit → Type 0
AllPutOverSeen rows seen [] = Unit {0}
AllPutOverSeen rows seen (c ∷ cs) = PutsOverSeen rows seen c × AllPutOverSeen (changed c rows) seen cs

-- each row that an accepted call replaces is among those that the call looks at, whatever the legal history
abbrev pub PutsOverWhatIsSeen : Type 0
PutsOverWhatIsSeen =
    (h : List Call) (c : Call) → IsLegal h → may_follow h c ≡ true
    → AllPutOverSeen (rows_of h) (part_of c (rows_of h)).rows (changes_for (facts h) c)
