-- The facts that a verdict looks at, read from rows.
use Rattle.std.specs.{List.{range_with_len, list_any, slice_get}, Ordering.{nat_cmp}}
use Rattle.std.specs.Prelude.{if◌then◌else◌, Bool, List, Option, [], filter, filter_map, map, option_and_then, true, ◌&&◌, ◌∷◌, count_by, false, length, option_map, unwrap_or, ℕ, ◌-◌}
use Rattle.plant_alarm.specs.declared.event.Event.{Event}
use Rattle.plant_model.specs.{Facts.{Facts, is_steward_row}, Grants.{is_before, some_role}, Histories.{same_number}, Matrices.{BandKey, CellKey}}
use Rattle.plant_model.specs.declared.{reply.{ChangeRow.{ChangeRow}, RecordRow.{RecordRow}}, rows.{AlarmRow.{AlarmRow}, BandRow.{BandRow}}}
use Rattle.plant_model.specs.declared.rows.{CellRow.{CellRow}, ChangeEntry.{ChangeEntry}, ChangeTopic.{ChangeTopic}}
use Rattle.plant_model.specs.declared.rows.ChangeTopic.TheVariants.{Limit as LimitTopic, Matrix as MatrixTopic, Record as RecordTopic}
use Rattle.plant_model.specs.declared.rows.{GrantRow.{GrantRow}, RecordEntry.{RecordEntry}, ShelfRow.{ShelfRow}, UnitPart.{UnitPart}}
use Rattle.plant_model.specs.declared.rows.{UnitRow.{UnitRow}, UnitRows.{UnitRows}}
use Rattle.plant_ration.specs.{Grid.{Grid}, declared.{cell.Cell.{Cell}, change.ChangeKind.{ChangeKind, TheVariants.{Limit, Matrix, Rationale}}}}
use Rattle.plant_ration.specs.declared.change.Sheet.{Sheet}
use Rattle.plant_types.specs.{KeyedRows.{row_at}, Names.{Name, name_cmp, same_name}, Roles.{Pair, pair_cmp, same_pair}}
pub use Rattle.plant_import.specs.Numbers.{event_number}

-- the keys of rows
abbrev pub pair_of : GrantRow → Pair
pair_of g = (g.person, g.role_no)

abbrev pub alarm_tag : AlarmRow → Name
alarm_tag r = r.tag

abbrev pub shelf_tag : ShelfRow → Name
shelf_tag r = r.tag

abbrev pub record_tag : RecordEntry → Name
record_tag r = r.tag

abbrev pub change_number : ChangeEntry → ℕ
change_number r = r.number

abbrev pub band_key : BandRow → BandKey
band_key r = (r.matrix_no, r.band_no)

abbrev pub cell_key : CellRow → CellKey
cell_key r = (r.matrix_no, r.severity, r.band_no)

-- a matrix from its limits and cells: the rows of the severities from 1 on, as far as there are cells
abbrev pub cells_at : List CellRow → ℕ → ℕ → List Cell
cells_at cells n severity =
    map (λ c. c.cell_no) (filter (λ c. same_number n c.matrix_no && same_number severity c.severity) cells)

abbrev pub has_cells : List Cell → Bool
has_cells [] = false
has_cells (c ∷ cs) = true

abbrev pub matrix_read : UnitRows → ℕ → Grid
matrix_read rows n =
    record {
      limits = map (λ b. b.limit_s) (filter (λ b. same_number n b.matrix_no) rows.bands);
      cells = filter has_cells (map (cells_at rows.cells n) (range_with_len 1 5));
    }

-- a change from its row
abbrev pub sheet_read : ChangeEntry → Sheet
sheet_read c =
    record {
      cause = unwrap_or c.cause [];
      consequence = unwrap_or c.consequence [];
      action = unwrap_or c.remedy [];
      severity = unwrap_or c.severity 0;
      response = unwrap_or c.response_s 0;
    }

abbrev pub kind_read : UnitRows → ChangeEntry → ChangeTopic → ChangeKind
kind_read rows c RecordTopic = Rationale (unwrap_or c.tag []) (sheet_read c)
kind_read rows c MatrixTopic = Matrix (matrix_read rows c.number)
kind_read rows c LimitTopic = Limit (unwrap_or c.tag []) (unwrap_or c.max_s 0)

abbrev pub change_read : UnitRows → ChangeEntry → ChangeRow
change_read rows c =
    record {
      number = c.number;
      kind = kind_read rows c c.kind_no;
      base = c.base;
      proposer = c.proposer;
      proposed = c.proposed_s;
      state = c.state_no;
      decider = c.decider;
      decided = c.decided_s;
    }

abbrev pub change_found : UnitRows → ℕ → Option ChangeEntry
change_found rows n = row_at nat_cmp change_number n rows.changes

-- a record from its row and the change that it came from
abbrev pub record_from : RecordEntry → Sheet → RecordRow
record_from r s =
    record {
      tag = r.tag;
      change = r.change_no;
      revision = r.rev;
      cause = s.cause;
      consequence = s.consequence;
      action = s.action;
      severity = s.severity;
      response = s.response;
      priority = r.cell_no;
    }

abbrev pub record_read : UnitRows → RecordEntry → Option RecordRow
record_read rows r = option_map (λ c. record_from r (sheet_read c)) (change_found rows r.change_no)

abbrev pub record_found : UnitRows → Name → Option RecordEntry
record_found rows a = row_at name_cmp record_tag a rows.records

abbrev pub no_unit : UnitRow
no_unit = record { last_s = 0; matrix_no = 0; matrix_rev = 0; quota = 0 }

abbrev pub unit_read : UnitRows → UnitRow
unit_read rows = unwrap_or (slice_get rows.units 0) no_unit

-- the number of the last change, 0 for none: changes are numbered from 1, so it is how many there are
abbrev pub last_number : List ChangeEntry → ℕ
last_number changes = unwrap_or (option_map change_number (slice_get changes (length changes - 1))) 0

-- when the alarm of a tag last returned to normal
abbrev pub last_return_in : List AlarmRow → Name → Option ℕ
last_return_in alarms a = option_and_then (λ r. r.return_s) (row_at name_cmp alarm_tag a alarms)

-- the pair is held at the moment by these grants, and the person holds some role by them
abbrev pub held_by : List GrantRow → ℕ → Pair → Bool
held_by grants t k = unwrap_or (option_map (λ g. is_before t g.end_s) (row_at pair_cmp pair_of k grants)) false

abbrev pub holds_by : List GrantRow → ℕ → Name → Bool
holds_by grants t p = some_role (λ r. held_by grants t (p, r))

-- a grant to the person that has not ended
abbrev pub is_held_row : ℕ → Name → GrantRow → Bool
is_held_row t p g = if same_name p g.person then is_before t g.end_s else false

-- the facts from rows, given the numbers of alarms and of changes
abbrev pub facts_from : UnitRows → ℕ → ℕ → Facts
facts_from rows alarm_count change_count =
    record {
      unit = unit_read rows;
      stands = λ k. list_any (λ g. same_pair k (pair_of g)) rows.grants;
      held = held_by rows.grants;
      pairs = length rows.grants;
      stewards = count_by is_steward_row rows.grants;
      alarm_count = alarm_count;
      alarm = λ a. row_at name_cmp alarm_tag a rows.alarms;
      alarms = rows.alarms;
      shelf = λ a. row_at name_cmp shelf_tag a rows.shelves;
      shelves = rows.shelves;
      events = rows.events;
      matrix = matrix_read rows (unit_read rows).matrix_no;
      priority = λ a. option_map (λ r. r.cell_no) (record_found rows a);
      revision = λ a. unwrap_or (option_map (λ r. r.rev) (record_found rows a)) 0;
      rationale = λ a. option_and_then (record_read rows) (record_found rows a);
      rationales = filter_map (record_read rows) rows.records;
      change_count = change_count;
      change = λ n. option_map (change_read rows) (change_found rows n);
    }

-- from all rows of a unit, and from the part that a call looks at
abbrev pub facts_of : UnitRows → Facts
facts_of rows = facts_from rows (length rows.alarms) (last_number rows.changes)

abbrev pub facts_in : UnitPart → Facts
facts_in part = facts_from part.rows part.count part.count

-- from a part, with these as all events of the unit: an import's part has some of them
abbrev pub facts_among : UnitPart → List Event → Facts
facts_among part es = record (facts_in part) { events = es }
