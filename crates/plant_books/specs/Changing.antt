-- Changes that put events.
use Rattle.std.specs.{List.{list_any}, Prelude.{Bool, List, false, true}}
use Rattle.plant_model.specs.declared.rows.Row.TheVariants.{Alarm as AlarmPut, Band as BandPut, Cell as CellPut, Change as ChangePut}
use Rattle.plant_model.specs.declared.rows.Row.TheVariants.{Event as EventPut, Grant as GrantPut, Record as RecordPut, Shelf as ShelfPut, Unit as UnitPut}
use Rattle.plant_model.specs.declared.rows.RowEdit.{RowEdit, TheVariants.{Put, PutEvents, Remove}}

-- a change that puts an event or a list of events, which may be empty
abbrev pub is_event_put : RowEdit → Bool
is_event_put (Put (EventPut e)) = true
is_event_put (PutEvents es) = true
is_event_put (Put (UnitPut r)) = false
is_event_put (Put (GrantPut r)) = false
is_event_put (Put (AlarmPut r)) = false
is_event_put (Put (ShelfPut r)) = false
is_event_put (Put (BandPut r)) = false
is_event_put (Put (CellPut r)) = false
is_event_put (Put (RecordPut r)) = false
is_event_put (Put (ChangePut r)) = false
is_event_put (Remove k) = false

-- some change puts an event
abbrev pub puts_event : List RowEdit → Bool
puts_event cs = list_any is_event_put cs
