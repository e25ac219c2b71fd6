-- What the reads of a part return: the rows of a unit that a call looks at.
use Rattle.std.specs.{BTreeSet.{BTreeSet}, Prelude.{Bool, IfOk, List, Result, Some, filter, length, true, ℕ, ◌||◌, ◌≡◌}}
use Rattle.sqlite.specs.{Held.{Held, state}, State.{HasCleanDisk}, Tree.{Trees}}
use Rattle.sqlite_trees.specs.declared.store.Store.{Ghosts}
use Rattle.plant_alarm.specs.declared.event.Event.{Event}
use Rattle.plant_model.specs.Histories.{same_number}
use Rattle.plant_model.specs.steps.{Parts.{Selection, counted_for, is_crowded}, RowFacts.{last_number}}
use Rattle.plant_model.specs.declared.call.Request.{Request}
use Rattle.plant_model.specs.steps.Scopes.{is_shelving, looks_at_events, number_approved, selection_by}
use Rattle.plant_model.specs.declared.{kinds.Scope.{Scope}, rows.{AlarmRow.{AlarmRow}}}
use Rattle.plant_model.specs.declared.rows.{ChangeEntry.{ChangeEntry}, GrantRow.{GrantRow}, RecordEntry.{RecordEntry}, UnitRow.{UnitRow}}
use Rattle.plant_model.specs.declared.rows.UnitRows.{UnitRows}
use Rattle.plant_books.specs.{Contents.{rows_in}, Numbered.{NumbersRise, of_numbers}, declared.asking.WantedAlarms.{WantedAlarms}}
use Rattle.plant_store_columns.specs.declared.tables.TableKind.{TableKind, TheVariants.{Alarms, Changes, Events, Grants, Shelves}}
use Rattle.plant_store_columns.specs.Tables.{AreBooks, rows_seen}
use Rattle.plant_store_statements.specs.{Changes.{IsHonest}, Reading.{ReadsContent}}
use Rattle.plant_store_reads.specs.Wanted.{alarms_with, events_with}
use Rattle.plant_types.specs.Names.{Name, same_name}

-- ---- of the tables

-- the grants of a person in a unit
abbrev pub grants_of : Name → Name → Trees → List GrantRow
grants_of person unit trees = filter (λ g. same_name person g.person) (rows_seen unit trees Grants)

-- how many rows a unit has in one table
abbrev pub count_seen : Name → TableKind → Trees → ℕ
count_seen unit i trees = length (rows_seen unit trees i)

-- the number of a unit's last change
abbrev pub last_change_seen : Name → Trees → ℕ
last_change_seen unit trees = last_number (rows_seen unit trees Changes)

-- the alarms and events of a unit that are read to find those that are wanted
abbrev pub alarms_seen : WantedAlarms → Name → Trees → List AlarmRow
alarms_seen wanted unit trees = alarms_with wanted (rows_seen unit trees Alarms)

abbrev pub events_seen : Bool → Name → Trees → List Event
events_seen wanted unit trees = events_with wanted (rows_seen unit trees Events)

-- ---- of a connection before and after, on a clean disk

-- if the list is a person's grants in the unit, the result is this list, or all grants of the unit if all are wanted
abbrev pub LoadsGrants : {S E : Type 0} → Ghosts S → Held S → Held S → Name → List GrantRow → Bool
    → Result (List GrantRow) E → Type 0
LoadsGrants g before after unit own all said =
    HasCleanDisk (state g after) → AreBooks (state g before).now
    → IfOk said (λ rows. (p : Name) → own ≡ grants_of p unit (state g before).now.trees
    → rows ≡ filter (λ r. same_name p r.person || all) (rows_seen unit (state g before).now.trees Grants))

-- the result is the count that the request needs in the unit, provided that the events are the unit's if the request
-- looks at them
abbrev pub LoadsCount : {S E : Type 0} → Ghosts S → Held S → Held S → Name → Request → List Event → Result ℕ E → Type 0
LoadsCount g before after unit request events said =
    HasCleanDisk (state g after) → AreBooks (state g before).now
    → IfOk said (λ n. (rows : UnitRows) → rows.alarms ≡ rows_seen unit (state g before).now.trees Alarms
    → rows.changes ≡ rows_seen unit (state g before).now.trees Changes
    → (looks_at_events request ≡ true → rows.events ≡ events) → n ≡ counted_for rows request)

-- for a request that shelves, the result is whether the unit with this row of its own is crowded
abbrev pub LoadsCrowding : {S E : Type 0} → Ghosts S → Held S → Held S → Name → List UnitRow → Request → Result Bool E
    → Type 0
LoadsCrowding g before after unit units request said =
    HasCleanDisk (state g after) → AreBooks (state g before).now
    → IfOk said (λ crowded. (rows : UnitRows) → rows.units ≡ units
    → rows.shelves ≡ rows_seen unit (state g before).now.trees Shelves
    → is_shelving request ≡ true → is_crowded rows ≡ crowded)

-- for a request that approves a change, the result is that change, if the unit has it
abbrev pub LoadsApproved : {S E : Type 0} → Ghosts S → Held S → Held S → Name → Request → Result (List ChangeEntry) E
    → Type 0
LoadsApproved g before after unit request said =
    HasCleanDisk (state g after) → AreBooks (state g before).now
    → IfOk said (λ rows. (n : ℕ) → number_approved request ≡ Some n
    → rows ≡ filter (λ r. same_number n r.number) (rows_seen unit (state g before).now.trees Changes))

-- ---- of a connection before and after, on an honest disk

-- if the numbers of the unit's rows do not fall, the result is the rows with these numbers
abbrev pub LoadsNumbers : {S X E : Type 0} → Ghosts S → Held S → Held S → (Name → Trees → List X) → Name → (X → ℕ)
    → BTreeSet ℕ → Result (List X) E → Type 0
LoadsNumbers g before after seen unit number_of numbers said =
    IsHonest (state g after) → AreBooks (state g before).now
    → NumbersRise number_of (seen unit (state g before).now.trees)
    → IfOk said (λ rows. rows ≡ of_numbers number_of numbers (seen unit (state g before).now.trees))

-- if the numbers of the unit's rows do not fall, the result is the rows of the matrices that the scope takes in
abbrev pub LoadsMatrices : {S X E : Type 0} → Ghosts S → Held S → Held S → (Name → Trees → List X) → Name → (X → ℕ)
    → List UnitRow → Scope → Result (List X) E → Type 0
LoadsMatrices g before after seen unit number_of units scope said =
    IsHonest (state g after) → AreBooks (state g before).now
    → NumbersRise number_of (seen unit (state g before).now.trees) → (rows : UnitRows) → rows.units ≡ units
    → IfOk said (λ found. found
    ≡ filter (λ r. (selection_by rows scope).matrix (number_of r)) (seen unit (state g before).now.trees))

-- the result is this of the unit's rows and of what the scope selects of them
abbrev pub ReadsSelected : {S A E : Type 0} → Ghosts S → Held S → Held S → Name → Scope → Result A E → (UnitRows → Selection → A)
    → Type 0
ReadsSelected g before after unit scope said what =
    ReadsContent g before after said (λ m. what (rows_in m unit) (selection_by (rows_in m unit) scope))

-- the result is the unit's changes that the scope takes in, if it takes in these records
abbrev pub LoadsChanges : {S E : Type 0} → Ghosts S → Held S → Held S → Name → List RecordEntry → Scope
    → Result (List ChangeEntry) E → Type 0
LoadsChanges g before after unit records scope said =
    IsHonest (state g after) → AreBooks (state g before).now
    → (rows : UnitRows) → records ≡ filter (λ r. (selection_by rows scope).rationale r.tag) rows.records
    → IfOk said (λ changes. changes
    ≡ filter (λ r. (selection_by rows scope).change r.number) (rows_seen unit (state g before).now.trees Changes))

-- ---- of lists

-- the list is those of these events that the scope takes in, whatever the unit's other rows are
abbrev pub AreAskedBy : Scope → List Event → List Event → Type 0
AreAskedBy scope events asked = (rows : UnitRows) → asked ≡ (selection_by rows scope).events events
