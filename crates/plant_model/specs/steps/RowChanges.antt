-- Changes of a unit's rows.
use Rattle.std.specs.{List.{list_any}, Ordering.{nat_cmp}}
use Rattle.std.specs.Prelude.{Option, Bool, List, None, Some, [], false, filter, filter_map, map, max, true, ℕ, ◌++◌, ◌+◌, ◌∷◌, option_to_list}
use Rattle.plant_model.specs.{Changes.{priority_by}, Facts.{Facts}, Matrices.{band_at, band_cmp, band_places, cell_cmp, cell_of, cell_places}}
use Rattle.plant_model.specs.steps.RowFacts.{change_number, record_tag, alarm_tag, band_key, cell_key, event_number, pair_of, shelf_tag}
use Rattle.plant_model.specs.{Rows.{change_entry, with_limit}, declared.reply.{ChangeRow.{ChangeRow}, RecordRow.{RecordRow}}}
use Rattle.plant_model.specs.declared.rows.{AlarmRow.{AlarmRow}, Key.{Key, TheVariants.{Grant as GrantKey, Shelf as ShelfKey}}}
use Rattle.plant_model.specs.declared.rows.{RecordEntry.{RecordEntry}, Row.{Row}}
use Rattle.plant_model.specs.declared.rows.Row.TheVariants.{Change as ChangePut, Record as RecordPut, Alarm as AlarmPut, Band as BandPut, Cell as CellPut, Event as EventPut, Grant as GrantPut, Shelf as ShelfPut, Unit as UnitPut}
use Rattle.plant_model.specs.declared.rows.{RowEdit.{RowEdit, TheVariants.{Put, PutEvents, Remove}}, UnitRow.{UnitRow}, UnitRows.{UnitRows}}
use Rattle.plant_ration.specs.{Grid.{Grid}, declared.change.ChangeKind.{ChangeKind, TheVariants.{Limit, Matrix, Rationale}}}
use Rattle.plant_ration.specs.declared.change.ChangeState.{ChangeState, TheVariants.{Approved}}
use Rattle.plant_import.specs.{Merging.{fresh}, Numbers.{with_events}}
use Rattle.plant_alarm.specs.{States.{active_since, is_suppressed, last_return, state_of}, declared.event.Event.{Event}}
use Rattle.plant_floods.specs.Activations.{of_alarm}
use Rattle.plant_types.specs.{KeyedRows.{put_row, remove_row}, Names.{Name, name_cmp, same_name}, Roles.{pair_cmp}}

abbrev pub put : Row → UnitRows → UnitRows
put (UnitPut r) rows = record rows { units = r ∷ [] }
put (GrantPut r) rows = record rows { grants = put_row pair_cmp pair_of r rows.grants }
put (AlarmPut r) rows = record rows { alarms = put_row name_cmp alarm_tag r rows.alarms }
put (ShelfPut r) rows = record rows { shelves = put_row name_cmp shelf_tag r rows.shelves }
put (EventPut e) rows = record rows { events = put_row nat_cmp event_number e rows.events }
put (BandPut r) rows = record rows { bands = put_row band_cmp band_key r rows.bands }
put (CellPut r) rows = record rows { cells = put_row cell_cmp cell_key r rows.cells }
put (RecordPut r) rows = record rows { records = put_row name_cmp record_tag r rows.records }
put (ChangePut r) rows = record rows { changes = put_row nat_cmp change_number r rows.changes }

abbrev pub removed : Key → UnitRows → UnitRows
removed (GrantKey p r) rows = record rows { grants = remove_row pair_cmp pair_of (p, r) rows.grants }
removed (ShelfKey a) rows = record rows { shelves = remove_row name_cmp shelf_tag a rows.shelves }

-- the rows after one change
abbrev pub changed : RowEdit → UnitRows → UnitRows
changed (Put r) rows = put r rows
changed (PutEvents es) rows = record rows { events = with_events rows.events es }
changed (Remove k) rows = removed k rows

-- the rows after changes, in their order
abbrev pub changed_by : List RowEdit → UnitRows → UnitRows
changed_by [] rows = rows
changed_by (c ∷ cs) rows = changed_by cs (changed c rows)

-- the rows of a unit before its opening: none
abbrev pub no_rows : UnitRows
no_rows =
    record {
      units = [];
      grants = [];
      alarms = [];
      shelves = [];
      events = [];
      bands = [];
      cells = [];
      records = [];
      changes = [];
    }

-- some change puts the unit's own row
abbrev pub is_unit_put : RowEdit → Bool
is_unit_put (Put (UnitPut r)) = true
is_unit_put (Put (GrantPut r)) = false
is_unit_put (Put (AlarmPut r)) = false
is_unit_put (Put (ShelfPut r)) = false
is_unit_put (Put (EventPut e)) = false
is_unit_put (Put (BandPut r)) = false
is_unit_put (Put (CellPut r)) = false
is_unit_put (Put (RecordPut r)) = false
is_unit_put (Put (ChangePut r)) = false
is_unit_put (PutEvents es) = false
is_unit_put (Remove k) = false

abbrev pub puts_unit : List RowEdit → Bool
puts_unit cs = list_any is_unit_put cs

-- the rows of a matrix
abbrev pub bands_of : ℕ → Grid → List RowEdit
bands_of n m = map (λ r. Put (BandPut r)) (filter_map (λ k. band_at k m) (band_places n m))

abbrev pub cells_of : ℕ → Grid → List RowEdit
cells_of n m = map (λ r. Put (CellPut r)) (filter_map (λ k. cell_of k m) (cell_places n m))

abbrev pub matrix_changes : ℕ → Grid → List RowEdit
matrix_changes n m = bands_of n m ++ cells_of n m

abbrev pub kind_changes : ℕ → ChangeKind → List RowEdit
kind_changes n (Rationale a s) = []
kind_changes n (Matrix m) = matrix_changes n m
kind_changes n (Limit a max) = []

-- the alarm's row, changed
abbrev pub with_alarm : Facts → Name → (AlarmRow → AlarmRow) → List RowEdit
with_alarm f a row = map (λ r. Put (AlarmPut (row r))) (option_to_list (f.alarm a))

-- an alarm that is out of service from a moment on, by a person and for a reason; one that is in service
abbrev pub taken_out : Name → ℕ → Name → AlarmRow → AlarmRow
taken_out p t words r = record r { out_s = Some t; out_by = Some p; out_words = Some words }

abbrev pub placed_in : AlarmRow → AlarmRow
placed_in r = record r { out_s = None; out_by = None; out_words = None }

-- the new rows of a file, ordered by number
abbrev pub new_events : List Event → List Event → List Event
new_events kept rows = with_events [] (fresh kept rows)

-- all events with the new ones of a file
abbrev pub events_with_file : List Event → List Event → List Event
events_with_file kept rows = with_events kept (fresh kept rows)

-- a new row of the file names the alarm: its state is computed anew from all its events
abbrev pub is_touched : List Event → List Event → AlarmRow → Bool
is_touched kept rows r = list_any (λ e. same_name r.tag e.tag) (fresh kept rows)

abbrev pub with_state : List Event → AlarmRow → AlarmRow
with_state es r =
    record r {
      state_no = state_of r.latching es;
      suppressed = is_suppressed es;
      active_s = active_since es;
      return_s = last_return es;
    }

abbrev pub state_put : List Event → AlarmRow → RowEdit
state_put es r = Put (AlarmPut (with_state (of_alarm r.tag es) r))

abbrev pub import_changes : Facts → List Event → List RowEdit
import_changes f rows =
    map (state_put (events_with_file f.events rows)) (filter (is_touched f.events rows) f.alarms)
    ++ PutEvents (new_events f.events rows) ∷ []

-- a change that is decided
abbrev pub decided_as : ChangeState → Name → ℕ → ChangeRow → ChangeRow
decided_as state p t c = record c { state = state; decider = Some p; decided = Some t }

abbrev pub decision_change : ChangeState → Name → ℕ → ChangeRow → RowEdit
decision_change state p t c = Put (ChangePut (change_entry (decided_as state p t c)))

-- what an approved change brings into force; a matrix gives all records their priorities anew
abbrev pub rerated : Grid → RecordRow → RecordEntry
rerated m r =
    record { tag = r.tag; change_no = r.change; rev = r.revision; cell_no = priority_by m r.severity r.response }

abbrev pub in_force : Facts → ℕ → ChangeKind → List RowEdit
in_force f n (Rationale a s) =
    Put (RecordPut (record {
      tag = a;
      change_no = n;
      rev = f.revision a + 1;
      cell_no = priority_by f.matrix s.severity s.response;
    })) ∷ []
in_force f n (Matrix m) = map (λ r. Put (RecordPut (rerated m r))) f.rationales
in_force f n (Limit a max) = with_alarm f a (with_limit max)

abbrev pub approval_changes : Facts → Name → ℕ → ChangeRow → List RowEdit
approval_changes f p t c = decision_change Approved p t c ∷ in_force f c.number c.kind

abbrev pub for_change : Option ChangeRow → (ChangeRow → List RowEdit) → List RowEdit
for_change None changes = []
for_change (Some c) changes = changes c

-- the unit's row after the call: its last moment, and the matrix in force
abbrev pub kind_row : ℕ → UnitRow → ℕ → ChangeKind → UnitRow
kind_row t r n (Rationale a s) = record r { last_s = t }
kind_row t r n (Matrix m) = record { last_s = t; matrix_no = n; matrix_rev = r.matrix_rev + 1; quota = r.quota }
kind_row t r n (Limit a max) = record r { last_s = t }

abbrev pub approved_row : ℕ → UnitRow → Option ChangeRow → UnitRow
approved_row t r None = record r { last_s = t }
approved_row t r (Some c) = kind_row t r c.number c.kind
