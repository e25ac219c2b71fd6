-- What an import's new events change in summaries and in the rows of alarms.
use Rattle.std.specs.Prelude.{option_to_list, Bool, IfOk, List, OnOk, Option, Result, Some, [], filter, if◌then◌else◌, length, map, slice_get, slice_set, ℕ, ◌++◌, ◌∷◌, ◌≡◌}
use Rattle.plant_alarm.specs.{States.{summary}, declared.{event.Event.{Event}, summary.Summary.{Summary}}}
use Rattle.plant_import.specs.{Needed.{needed}, Numbers.{with_events}}
use Rattle.plant_model.specs.declared.rows.{AlarmRow.{AlarmRow}, RowEdit.{RowEdit}}
use Rattle.plant_model.specs.steps.RowChanges.{state_put}
use Rattle.plant_types.specs.{Results.{Gives}}
use Rattle.plant_unit.specs.{Additions.{AreAdded}, Summaries.{HaveSummaries, has_event_of, summaries, summary_in, summary_of}}
use Rattle.plant_unit.specs.declared.alarms.Brought.{Brought}

-- the summaries of alarms by some events, and which of the alarms the new events name
abbrev pub brought : List AlarmRow → List Event → List Event → Brought
brought alarms es fresh = record { summaries = summaries alarms es; named = map (has_event_of fresh) alarms }

-- the same from the rows' columns, before new events
abbrev pub in_columns : List AlarmRow → Brought
in_columns alarms = record { summaries = map summary_in alarms; named = map (has_event_of []) alarms }

-- the summary at a place, of some events, becomes that of these events and one more
abbrev pub AddsAt : ℕ → Event → Bool → List Summary → List Summary → Type 0
AddsAt place event latching before after = (es : List Event) → slice_get before place ≡ Some (summary latching es)
    → after ≡ slice_set before place (summary latching (es ++ event ∷ []))

-- new events are added
abbrev pub AddsEvents : List AlarmRow → List Event → Brought → Brought → Type 0
AddsEvents alarms more before after = (es fresh : List Event) → before ≡ brought alarms es fresh
    → after ≡ brought alarms (es ++ more) (fresh ++ more)

-- by all kept events and the new ones
abbrev pub GivesAnew : {E : Type 0} → List AlarmRow → List Event → List Event → Result Brought E → Type 0
GivesAnew alarms kept fresh said = Gives said (brought alarms (with_events kept fresh) fresh)

-- of alarms whose columns are those of some events: by these events and the new ones behind them
abbrev pub GivesOn : {E : Type 0} → List AlarmRow → List Event → Result Brought E → Type 0
GivesOn alarms fresh said = (es : List Event) → HaveSummaries alarms es → Gives said (brought alarms (es ++ fresh) fresh)

-- the change of the alarm's row, of some events, if it is named
abbrev pub GivesNamed : {E : Type 0} → Bool → AlarmRow → Summary → Result (Option RowEdit) E → Type 0
GivesNamed named alarm s said = (es : List Event) → s ≡ summary_of es alarm
    → IfOk said (λ change. option_to_list change ≡ (if named then state_put es alarm ∷ [] else []))

-- the rows of the alarms that the new events name, with their states
abbrev pub states_put : List Event → List Event → List AlarmRow → List RowEdit
states_put es fresh alarms = map (state_put es) (filter (has_event_of fresh) alarms)

-- the same changes are put at the end
abbrev pub PushesNamed : {A E : Type 0} → List AlarmRow → Brought → List RowEdit → List RowEdit → Result A E → Type 0
PushesNamed alarms all before after said = (es fresh : List Event) → all ≡ brought alarms es fresh
    → OnOk said (after ≡ before ++ states_put es fresh alarms)

-- the fact holds for all events before the import of these rows, and for those that the file adds, here ordered by
-- number: `kept` are those that the file needs, and the columns of the alarms are computed from all
abbrev pub ForImport : List AlarmRow → List Event → List Event → List Event → (List Event → List Event → Type 0) → Type 0
ForImport alarms kept rows fresh fact = (es added : List Event) → kept ≡ needed es rows → AreAdded es rows added
    → fresh ≡ with_events [] added → HaveSummaries alarms es → fact es added

-- the states that the alarms have after the import
abbrev pub states_after : List Event → List Event → List AlarmRow → List RowEdit
states_after es fresh alarms = states_put (with_events es fresh) fresh alarms

-- the summaries of alarms by some events, which give the alarms that the new events name the states that they have after
-- the import
pub record HaveStates (alarms : List AlarmRow) (es added : List Event) (all : Brought) : Type 0 where
  pub seen : List Event
  pub told : all ≡ brought alarms seen added
  pub states : states_put seen added alarms ≡ states_after es added alarms
