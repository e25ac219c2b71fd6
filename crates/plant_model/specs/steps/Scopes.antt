-- What a request looks at in a unit, in the code's types, and the rows that it takes in.
use Rattle.std.specs.Prelude.{Bool, Option, Some, false, option_copied, true, ℕ, ◌≡◌}
use Rattle.plant_import.specs.Needed.{needed}
use Rattle.plant_model.specs.{Histories.{begins}, Kinds.{says}}
use Rattle.plant_model.specs.steps.LooksAt.{Scope as Looked, scope_of}
use Rattle.plant_model.specs.steps.Parts.{Selection, all_events, every, has_shelf, is_crowded, is_source, nothing, of_approved, of_content, change_by_number, of_records, of_shelving, of_tag, of_topic, selected}
use Rattle.plant_model.specs.declared.{call.Request.{Request}, kinds.Scope.{Scope}}
use Rattle.plant_model.specs.steps.RowFacts.{change_found}
use Rattle.plant_model.specs.declared.kinds.Scope.TheVariants.{AllAlarms, AllEvents, AllGrants, AllRecords, AllShelves, Approval, Content, File, NothingElse, OneAlarm, OneChange, OneRecord, Shelving}
use Rattle.plant_model.specs.declared.rows.{ChangeEntry.{ChangeEntry}, UnitRows.{UnitRows}}
use Rattle.plant_types.specs.Names.{same_name}
use Rattle.plant_model.specs.steps.LooksAt as looked
pub use Rattle.plant_model.specs.Changes.{number_approved}

-- the rows that a scope takes in of a unit's
abbrev pub selection_by : UnitRows → Scope → Selection
selection_by rows NothingElse = nothing
selection_by rows AllGrants = record nothing { pair = every }
selection_by rows (OneAlarm tag) = of_tag tag.now
selection_by rows (Shelving tag crowded) = of_shelving crowded tag.now
selection_by rows (OneRecord tag) =
    record nothing {
      alarm = same_name tag.now;
      rationale = same_name tag.now;
      change = is_source rows (same_name tag.now);
    }
selection_by rows (OneChange n) = change_by_number n
selection_by rows (Approval n change) = of_approved rows n (option_copied change)
selection_by rows (Content tag) = of_content rows tag.now
selection_by rows AllRecords = of_records rows
selection_by rows (File es) = record nothing { alarm = every; events = λ kept. needed kept es.now }
selection_by rows AllShelves = record nothing { alarm = has_shelf rows.shelves; shelf = every }
selection_by rows AllAlarms = record nothing { alarm = every; shelf = every; rationale = every }
selection_by rows AllEvents = record nothing { events = all_events }

-- what a change changes
abbrev pub of_entry : ChangeEntry → UnitRows → Selection
of_entry c rows = of_topic rows c.tag c.kind_no

-- of the rows of any unit the scope takes in these
abbrev pub Selects : Scope → (UnitRows → Selection) → Type 0
Selects scope these = (rows : UnitRows) → selection_by rows scope ≡ these rows

-- a request that shelves an alarm
abbrev pub is_shelving : Request → Bool
is_shelving q = begins (λ a. true) (says q).shelf

-- in a unit of these rows: whether it is crowded, for a shelving, and the change that is approved, for an approval
pub record IsSeenIn (rows : UnitRows) (q : Request) (crowded : Bool) (approved : Option ChangeEntry) : Type 0 where
  pub crowding : is_shelving q ≡ true → is_crowded rows ≡ crowded
  pub found : (n : ℕ) → number_approved q ≡ Some n → change_found rows n ≡ approved

-- of the rows of any unit that is seen so, the scope takes in what the request looks at
abbrev pub IsScopeOf : Request → Bool → Option ChangeEntry → Scope → Type 0
IsScopeOf q crowded approved scope = (rows : UnitRows) → IsSeenIn rows q crowded approved
    → selection_by rows scope ≡ selected rows q

abbrev pub has_events : Looked → Bool
has_events looked.NothingElse = false
has_events looked.AllGrants = false
has_events (looked.OneAlarm a) = false
has_events (looked.Shelving a) = false
has_events (looked.OneRecord a) = false
has_events (looked.OneChange n) = false
has_events (looked.Approval n) = false
has_events (looked.Content a) = false
has_events looked.AllRecords = false
has_events (looked.File es) = true
has_events looked.AllShelves = false
has_events looked.AllAlarms = false
has_events looked.AllEvents = true

-- a request that looks at events
abbrev pub looks_at_events : Request → Bool
looks_at_events q = has_events (scope_of q)

abbrev pub has_reviews : Looked → Bool
has_reviews looked.NothingElse = false
has_reviews looked.AllGrants = false
has_reviews (looked.OneAlarm a) = false
has_reviews (looked.Shelving a) = false
has_reviews (looked.OneRecord a) = true
has_reviews (looked.OneChange n) = true
has_reviews (looked.Approval n) = true
has_reviews (looked.Content a) = true
has_reviews looked.AllRecords = true
has_reviews (looked.File es) = false
has_reviews looked.AllShelves = false
has_reviews looked.AllAlarms = false
has_reviews looked.AllEvents = false

-- a request that looks at matrices or changes
abbrev pub looks_at_reviews : Request → Bool
looks_at_reviews q = has_reviews (scope_of q)
