-- The alarms that events name, and states that go on from those in the alarms' rows.
use Rattle.std.proofs.Common.{List, ap, false, filter, map, refl, sym, true, ◌++◌, ◌∙◌, ◌∷◌, ◌≡◌, [], Bool, if◌then◌else◌}
use Rattle.std.proofs.lemmas.List.{Elements.{filter-append}}
use Rattle.plant_alarm.specs.{States.{summary}, declared.{event.Event.{Event}}}
use Rattle.plant_floods.specs.Activations.{of_alarm}
use Rattle.plant_import.specs.{Needed.{has_late, needed}, Numbers.{with_events}}
use Rattle.plant_import.proofs.public.{Counted.{any_rising, put_twice}, LaterLaws.{fresh_after}, NeededLaws.{needed_rises}, OwnLaws.{own_needed}, Risings.{in_number_order}}
use Rattle.plant_types.specs.Names.{same_name}
use Rattle.plant_model.specs.declared.rows.{AlarmRow.{AlarmRow}, Row.TheVariants.{Alarm as AlarmPut}, RowEdit.TheVariants.{Put}}
use Rattle.plant_model.specs.steps.RowChanges.{state_put, with_state}
use Rattle.plant_unit.specs.{Additions.{AreAdded}, Alarms.{brought, in_columns, states_after, states_put}, Summaries.{HaveSummaries, has_event_of, summaries}}

-- where no row is late, the kept events of an alarm with its new ones behind them are all its events
pub go_on : (alarms : List AlarmRow) (es rows fresh : List Event) → AreAdded es rows fresh → has_late es rows ≡ false
    → summaries alarms (es ++ with_events [] fresh) ≡ summaries alarms (with_events es fresh)
go_on [] es rows fresh added late = refl
go_on (r ∷ alarms) es rows fresh added late =
    let own : of_alarm r.tag (es ++ with_events [] fresh) ≡ of_alarm r.tag (with_events es fresh) =
    filter-append (λ x. same_name r.tag x.tag) es (with_events [] fresh)
    ∙ ap (λ l. of_alarm r.tag es ++ of_alarm r.tag (with_events [] l)) added.fresh_are
    ∙ sym (fresh_after r.tag added.tags added.now 2 es rows added.rise added.no_fault late)
    ∙ ap (λ l. of_alarm r.tag (with_events es l)) (sym added.fresh_are) in
    λ i. summary r.latching (own i) ∷ go_on alarms es rows fresh added late i

-- the new events, ordered by number, name the same alarms and leave the same events
named_rising : (alarms : List AlarmRow) (es rows fresh : List Event) → AreAdded es rows fresh
    → map (has_event_of (with_events [] fresh)) alarms ≡ map (has_event_of fresh) alarms
named_rising [] es rows fresh added = refl
named_rising (r ∷ alarms) es rows fresh added =
    let own : has_event_of (with_events [] fresh) r ≡ has_event_of fresh r =
    ap (λ l. has_event_of (with_events [] l) r) added.fresh_are
    ∙ any_rising (λ e. same_name r.tag e.tag) added.tags added.now 2 es rows added.no_fault
    ∙ ap (λ l. has_event_of l r) (sym added.fresh_are) in
    λ i. own i ∷ named_rising alarms es rows fresh added i

pub brought_on : (alarms : List AlarmRow) (es rows fresh : List Event) → AreAdded es rows fresh → has_late es rows ≡ false
    → brought alarms (es ++ with_events [] fresh) (with_events [] fresh) ≡ brought alarms (with_events es fresh) fresh
brought_on alarms es rows fresh added late = λ i. record {
  summaries = go_on alarms es rows fresh added late i;
  named = named_rising alarms es rows fresh added i;
}

-- the summaries by the needed events and the new ones
pub brought_needed : (alarms : List AlarmRow) (es rows fresh : List Event) → AreAdded es rows fresh
    → brought alarms (with_events (needed es rows) (with_events [] fresh)) (with_events [] fresh)
    ≡ brought alarms (with_events (needed es rows) fresh) fresh
brought_needed alarms es rows fresh added = λ i. record {
  summaries = summaries alarms (put_twice (needed es rows) fresh (in_number_order (needed es rows) (needed_rises es rows added.rise)) i);
  named = named_rising alarms es rows fresh added i;
}

-- where a row is late, the alarms that the new events name have by the needed events the states that they have by all
pub states_anew : (alarms : List AlarmRow) (es rows fresh : List Event) → AreAdded es rows fresh → has_late es rows ≡ true
    → states_put (with_events (needed es rows) fresh) fresh alarms ≡ states_after es fresh alarms
states_anew [] es rows fresh added late = refl
states_anew (r ∷ alarms) es rows fresh added late = by (states_anew alarms es rows fresh added late) (has_event_of fresh r) refl
  where
    some : Bool → List AlarmRow
    some b = if b then r ∷ filter (has_event_of fresh) alarms else filter (has_event_of fresh) alarms

    by : states_put (with_events (needed es rows) fresh) fresh alarms ≡ states_after es fresh alarms → (b : Bool) → has_event_of fresh r ≡ b
        → map (state_put (with_events (needed es rows) fresh)) (some b) ≡ map (state_put (with_events es fresh)) (some b)
    by rest false e = rest
    by rest true e =
        let own : of_alarm r.tag (with_events (needed es rows) fresh) ≡ of_alarm r.tag (with_events es fresh) =
        ap (λ l. of_alarm r.tag (with_events (needed es rows) l)) added.fresh_are
        ∙ own_needed r.tag es rows added.tags added.now added.rise added.no_fault late (ap (λ l. has_event_of l r) (sym added.fresh_are) ∙ e)
        ∙ ap (λ l. of_alarm r.tag (with_events es l)) (sym added.fresh_are) in
        λ i. Put (AlarmPut (with_state (own i) r)) ∷ rest i

-- the rows' columns are those of some events
pub columns_are : (alarms : List AlarmRow) (es : List Event) → HaveSummaries alarms es → in_columns alarms ≡ brought alarms es []
columns_are alarms es so = λ i. record { summaries = so i; named = map (has_event_of []) alarms }
