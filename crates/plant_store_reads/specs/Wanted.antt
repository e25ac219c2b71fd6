-- The alarms, shelves, records and events that are wanted of a unit.
use Rattle.std.specs.Prelude.{Bool, List, [], false, filter, true}
use Rattle.plant_alarm.specs.declared.event.Event.{Event}
use Rattle.plant_books.specs.{Found.{shelved}, declared.asking.{Wanted.{Wanted, TheVariants.{Every, Nothing, One}}, WantedAlarms.{WantedAlarms}}}
use Rattle.plant_books.specs.declared.asking.WantedAlarms.TheVariants.{Shelved, Those}
use Rattle.plant_model.specs.declared.rows.{AlarmRow.{AlarmRow}, ShelfRow.{ShelfRow}}
use Rattle.plant_model.specs.steps.RowFacts.{alarm_tag}
use Rattle.plant_types.specs.Names.{Name, same_name}

-- those of rows with tags that are wanted
abbrev pub rows_with : {X : Type 0} → (X → Name) → Wanted → List X → List X
rows_with tag_of Nothing rows = []
rows_with tag_of (One tag) rows = filter (λ r. same_name tag.now (tag_of r)) rows
rows_with tag_of Every rows = rows

-- the alarms that are read to find those that are wanted: all, if the shelves determine them
abbrev pub alarms_with : WantedAlarms → List AlarmRow → List AlarmRow
alarms_with (Those wanted) rows = rows_with alarm_tag wanted rows
alarms_with Shelved rows = rows

-- those of the alarms that were read that are wanted, given the unit's shelves
abbrev pub alarms_left : WantedAlarms → List ShelfRow → List AlarmRow → List AlarmRow
alarms_left (Those wanted) shelves rows = rows
alarms_left Shelved shelves rows = shelved shelves rows

-- the events, if they are wanted
abbrev pub events_with : Bool → List Event → List Event
events_with false rows = []
events_with true rows = rows
