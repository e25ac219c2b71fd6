-- The state of each alarm, computed from the events of all.
use Rattle.std.specs.{List.{list_any}, Prelude.{Bool, List, map, ◌≡◌}}
use Rattle.plant_alarm.specs.{States.{summary}, declared.{event.Event.{Event}, summary.Summary.{Summary}}}
use Rattle.plant_floods.specs.Activations.{of_alarm}
use Rattle.plant_model.specs.declared.rows.AlarmRow.{AlarmRow}
use Rattle.plant_types.specs.Names.{same_name}

-- the summary of an alarm's own events
abbrev pub summary_of : List Event → AlarmRow → Summary
summary_of es r = summary r.latching (of_alarm r.tag es)

-- the summaries of all alarms, in their order
abbrev pub summaries : List AlarmRow → List Event → List Summary
summaries alarms es = map (summary_of es) alarms

-- the row with a summary in its columns
abbrev pub with_summary : AlarmRow → Summary → AlarmRow
with_summary r s =
    record r { state_no = s.state; suppressed = s.suppressed; active_s = s.active_since; return_s = s.last_return }

-- one of the events is the alarm's
abbrev pub has_event_of : List Event → AlarmRow → Bool
has_event_of es r = list_any (λ e. same_name r.tag e.tag) es

-- the summary in a row's columns
abbrev pub summary_in : AlarmRow → Summary
summary_in r =
    record { state = r.state_no; suppressed = r.suppressed; active_since = r.active_s; last_return = r.return_s }

-- the columns of each alarm are computed from its events
abbrev pub HaveSummaries : List AlarmRow → List Event → Type 0
HaveSummaries alarms es = map summary_in alarms ≡ summaries alarms es
