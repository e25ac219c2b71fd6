-- Which rows of each table a scope takes in, that is, which rows a call looks at.
use Rattle.std.specs.{BTreeSet.{BTreeSet, contains}, List.{list_any}, Ordering.{nat_cmp}}
use Rattle.std.specs.Prelude.{Bool, IfOk, List, [], None, Option, Result, Some, false, filter, length, true, ℕ, ◌&&◌, ◌||◌, ◌≡◌}
use Rattle.plant_alarm.specs.declared.event.Event.{Event}
use Rattle.plant_model.specs.Histories.{same_number}
use Rattle.plant_model.specs.steps.Parts.{Selection, has_shelf, is_crowded, is_in_force, is_source, rows_selected}
use Rattle.plant_model.specs.declared.call.Request.{Request}
use Rattle.plant_model.specs.steps.{RowFacts.{change_found, pair_of}, Scopes.{number_approved, selection_by}}
use Rattle.plant_model.specs.declared.kinds.Scope.{Scope, TheVariants.{AllAlarms, AllEvents, AllGrants, AllRecords, AllShelves, Approval, Content}}
use Rattle.plant_model.specs.declared.kinds.Scope.TheVariants.{File, NothingElse, OneAlarm, OneChange, OneRecord, Shelving}
use Rattle.plant_model.specs.declared.rows.{AlarmRow.{AlarmRow}, ChangeEntry.{ChangeEntry}, GrantRow.{GrantRow}, RecordEntry.{RecordEntry}}
use Rattle.plant_model.specs.declared.rows.{ShelfRow.{ShelfRow}, UnitRow.{UnitRow}, UnitRows.{UnitRows}}
use Rattle.plant_books.specs.declared.asking.{Wanted.{Wanted, TheVariants.{Every, Nothing, One}}, WantedAlarms.{WantedAlarms}}
use Rattle.plant_books.specs.declared.asking.{WantedAlarms.TheVariants.{Shelved, Those}, WantedEvents.{WantedEvents}}
use Rattle.plant_books.specs.declared.asking.WantedEvents.TheVariants.{Beside, Every as EveryEvent, Nothing as NoEvents}
use Rattle.plant_import.specs.Needed.{needed}
use Rattle.plant_types.specs.Names.{Name, same_name}

-- the rows that a scope takes in of a unit's, for a caller of this name
abbrev pub rows_by : Name → UnitRows → Scope → UnitRows
rows_by p rows scope = rows_selected p (selection_by rows scope) rows

-- the grants that it takes in: the caller's, and others
abbrev pub grants_by : Name → UnitRows → Scope → List GrantRow
grants_by p rows scope = filter (λ g. same_name p g.person || (selection_by rows scope).pair (pair_of g)) rows.grants

-- the changes that it takes in
abbrev pub changes_by : UnitRows → Scope → List ChangeEntry
changes_by rows scope = filter (λ r. (selection_by rows scope).change r.number) rows.changes

-- whether a unit with this row of its own and this number of shelves is crowded
abbrev pub IsCrowdedWith : List UnitRow → ℕ → Bool → Type 0
IsCrowdedWith units shelves crowded = (rows : UnitRows) → rows.units ≡ units → length rows.shelves ≡ shelves
    → is_crowded rows ≡ crowded

-- the change that the request approves is this, if it exists
abbrev pub IsApprovedBy : UnitRows → Request → Option ChangeEntry → Type 0
IsApprovedBy rows q approved = (n : ℕ) → number_approved q ≡ Some n → change_found rows n ≡ approved

-- the number of the change that a scope takes in with its matrix
abbrev pub number_named : Scope → Option ℕ
number_named NothingElse = None
number_named AllGrants = None
number_named (OneAlarm tag) = None
number_named (Shelving tag crowded) = None
number_named (OneRecord tag) = None
number_named (OneChange n) = Some n
number_named (Approval n change) = Some n
number_named (Content tag) = None
number_named AllRecords = None
number_named (File rows) = None
number_named AllShelves = None
number_named AllAlarms = None
number_named AllEvents = None

-- the tag is among those that are wanted
abbrev pub is_wanted : Wanted → Name → Bool
is_wanted Nothing a = false
is_wanted (One b) a = same_name b.now a
is_wanted Every a = true

-- of the rows of any unit the tags that pass are those that are wanted
abbrev pub AreWanted : (UnitRows → Name → Bool) → Wanted → Type 0
AreWanted passes wanted = (rows : UnitRows) (a : Name) → passes rows a ≡ is_wanted wanted a

-- in a unit with these shelves, the tag is that of a wanted alarm
abbrev pub is_alarm_wanted : List ShelfRow → WantedAlarms → Name → Bool
is_alarm_wanted shelves (Those wanted) a = is_wanted wanted a
is_alarm_wanted shelves Shelved a = has_shelf shelves a

-- the alarms that a scope takes in are those that are wanted
abbrev pub AreAlarmsWanted : Scope → WantedAlarms → Type 0
AreAlarmsWanted scope wanted = (rows : UnitRows) (a : Name)
    → (selection_by rows scope).alarm a ≡ is_alarm_wanted rows.shelves wanted a

-- if the shelves determine which alarms are wanted, all shelves are selected too
abbrev pub HasTheirShelves : Selection → WantedAlarms → Type 0
HasTheirShelves chosen (Those wanted) = Unit {0}
HasTheirShelves chosen Shelved = (a : Name) → chosen.shelf a ≡ true

-- those of all alarms that are wanted
abbrev pub alarms_wanted : WantedAlarms → List ShelfRow → List AlarmRow → List AlarmRow
alarms_wanted wanted shelves alarms = filter (λ r. is_alarm_wanted shelves wanted r.tag) alarms

-- those of all events that are wanted
abbrev pub events_wanted : WantedEvents → List Event → List Event
events_wanted NoEvents es = []
events_wanted (Beside rows) es = needed es rows.now
events_wanted EveryEvent es = es

-- the events that a scope takes in are those that are wanted
abbrev pub AreEventsWanted : Scope → WantedEvents → Type 0
AreEventsWanted scope wanted = (rows : UnitRows) (es : List Event)
    → (selection_by rows scope).events es ≡ events_wanted wanted es

-- there is a number, and it is this one
abbrev pub is_asked_number : Option ℕ → ℕ → Bool
is_asked_number None n = false
is_asked_number (Some m) n = same_number m n

-- a scope takes in the matrix of its number, and if asked the one in force
abbrev pub TakesMatrix : Scope → Bool → Type 0
TakesMatrix scope asked = (rows : UnitRows) (n : ℕ)
    → (selection_by rows scope).matrix n ≡ ((asked && is_in_force rows n) || is_asked_number (number_named scope) n)

-- of the rows of any unit these are the changes that the records came from, or none if not asked
abbrev pub TakesSources : (UnitRows → Selection) → Bool → Type 0
TakesSources these asked = (rows : UnitRows) (n : ℕ)
    → (these rows).change n ≡ (asked && is_source rows (these rows).rationale n)

-- a scope takes in the change of its number, and if asked those that its records came from
abbrev pub TakesChanges : Scope → Bool → Type 0
TakesChanges scope asked = (rows : UnitRows) (n : ℕ)
    → (selection_by rows scope).change n
    ≡ ((asked && is_source rows (selection_by rows scope).rationale n) || is_asked_number (number_named scope) n)

-- the set has the numbers of the changes that records of these tags came from
abbrev pub AreSources : BTreeSet ℕ → (Name → Bool) → List RecordEntry → Type 0
AreSources numbers tags records = (n : ℕ)
    → contains nat_cmp numbers n ≡ list_any (λ r. tags r.tag && same_number n r.change_no) records

-- the set has the numbers that pass, and no others
abbrev pub HasNumbers : BTreeSet ℕ → (ℕ → Bool) → Type 0
HasNumbers numbers passes = (n : ℕ) → contains nat_cmp numbers n ≡ passes n

-- the records that a scope takes in, of these of a unit
abbrev pub records_by : UnitRows → Scope → List RecordEntry → List RecordEntry
records_by rows scope records = filter (λ r. (selection_by rows scope).rationale r.tag) records

-- the numbers of the matrices that a scope takes in of a unit with this row of its own
abbrev pub GivesMatrices : {E : Type 0} → Scope → List UnitRow → Result (BTreeSet ℕ) E → Type 0
GivesMatrices scope units said = (rows : UnitRows) → rows.units ≡ units
    → IfOk said (λ numbers. HasNumbers numbers (selection_by rows scope).matrix)

-- the numbers of the changes that a scope takes in, of any unit of whose records it takes in the same ones as of these
abbrev pub GivesChanges : {E : Type 0} → Scope → List RecordEntry → Result (BTreeSet ℕ) E → Type 0
GivesChanges scope records said =
    (rows : UnitRows) → records_by rows scope rows.records ≡ records_by rows scope records
    → IfOk said (λ numbers. HasNumbers numbers (selection_by rows scope).change)
