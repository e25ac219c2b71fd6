-- The rows of a unit, from its history: each table has the rows of the keys that the history names, in their order.
use Rattle.std.specs.Ordering.{nat_cmp}
use Rattle.std.specs.Prelude.{option_to_list, Bool, List, None, Option, Some, [], filter_map, map, option_and_then, option_map, unwrap_or, ℕ, ◌+◌, ◌∷◌}
use Rattle.plant_model.specs.{Alarms.{latching, limit, quota}, declared.rows.UnitRows.{UnitRows}}
use Rattle.plant_model.specs.Changes.{change, kind_of_change, limit_of_kind, limit_revision, matrix, matrix_revision, number_approved, proposals, rationale_of_kind, record_of}
use Rattle.plant_model.specs.{Events.{events, events_of}, Grants.{standing}, Histories.{all_named, last_moment}, Kinds.{says}}
use Rattle.plant_model.specs.Matrices.{BandKey, CellKey, band_at, band_cmp, band_places, cell_cmp, cell_of, cell_places, matrix_numbered, numbered_matrix, places_in}
use Rattle.plant_model.specs.{Service.{Outage, outage}, Shelves.{shelf}, declared.call.{Call.{Call}, Request.{Request}}}
use Rattle.plant_model.specs.declared.{reply.{ChangeRow.{ChangeRow}, RecordRow.{RecordRow}}, rows.{AlarmRow.{AlarmRow}, BandRow.{BandRow}}}
use Rattle.plant_model.specs.declared.rows.{CellRow.{CellRow}, ChangeEntry.{ChangeEntry}, ChangeTopic.{ChangeTopic}}
use Rattle.plant_model.specs.declared.rows.ChangeTopic.TheVariants.{Limit as LimitTopic, Matrix as MatrixTopic, Record as RecordTopic}
use Rattle.plant_model.specs.declared.rows.{GrantRow.{GrantRow}, RecordEntry.{RecordEntry}, ShelfRow.{ShelfRow}, UnitRow.{UnitRow}}
use Rattle.plant_ration.specs.declared.change.{ChangeKind.{ChangeKind, TheVariants.{Limit, Matrix, Rationale}}, Sheet.{Sheet}}
use Rattle.plant_alarm.specs.{States.{active_since, is_suppressed, last_return, state_of}, declared.event.Event.{Event}}
use Rattle.plant_types.specs.{KeyedRows.{in_order}, Names.{Name, name_cmp}, Roles.{Pair, pair_cmp}}

abbrev pub pairs_named : Request → List Pair
pairs_named r = option_to_list (option_map (λ e. e.0) (says r).pair)

abbrev pub grant_as : Pair → Option ℕ → GrantRow
grant_as k until = record { person = k.0; role_no = k.1; end_s = until }

abbrev pub grant_row : List Call → Pair → Option GrantRow
grant_row h k = option_map (grant_as k) (standing h k)

-- Grants: the pairs that stand, including those that have ended
abbrev pub grant_rows : List Call → List GrantRow
grant_rows h = filter_map (grant_row h) (in_order pair_cmp (all_named (λ c before. pairs_named c.request) h))

abbrev pub tags_registered : Request → List Name
tags_registered r = option_to_list (option_map (λ x. x.tag) (says r).registration)

-- an alarm's row: state, suppression by design and the moments of the last activation and return follow from all its
-- kept events
abbrev pub alarm_as : Name → ℕ → ℕ → List Event → Option Outage → Bool → AlarmRow
alarm_as a max revision es out latches =
    record {
      tag = a;
      latching = latches;
      max_s = max;
      max_rev = revision;
      state_no = state_of latches es;
      suppressed = is_suppressed es;
      active_s = active_since es;
      return_s = last_return es;
      out_s = option_map (λ o. o.from) out;
      out_by = option_map (λ o. o.person) out;
      out_words = option_map (λ o. o.words) out;
    }

-- how many changes of an alarm's limit were approved, 0 for an alarm that does not exist
abbrev pub revision_of_limit : Option AlarmRow → ℕ
revision_of_limit alarm = unwrap_or (option_map (λ r. r.max_rev) alarm) 0

-- an alarm with the limit from one more approved change
abbrev pub with_limit : ℕ → AlarmRow → AlarmRow
with_limit max r = record r { max_s = max; max_rev = r.max_rev + 1 }

abbrev pub alarm_row : List Call → Name → Option AlarmRow
alarm_row h a =
    option_map (alarm_as a (unwrap_or (limit h a) 0) (limit_revision h a) (events_of h a) (outage h a)) (latching h a)

-- Alarms, one for each registration
abbrev pub alarm_rows : List Call → List AlarmRow
alarm_rows h = filter_map (alarm_row h) (in_order name_cmp (all_named (λ c before. tags_registered c.request) h))

abbrev pub tags_shelved : Request → List Name
tags_shelved r = option_to_list (option_map (λ e. e.0) (says r).shelf)

-- Shelves, including those whose time has passed
abbrev pub shelf_rows : List Call → List ShelfRow
shelf_rows h = filter_map (shelf h) (in_order name_cmp (all_named (λ c before. tags_shelved c.request) h))

-- Finite limits and cells of the unit's matrices
abbrev pub band_row : List Call → BandKey → Option BandRow
band_row h k = option_and_then (band_at k) (matrix_numbered h k.0)

abbrev pub cell_row : List Call → CellKey → Option CellRow
cell_row h k = option_and_then (cell_of k) (matrix_numbered h k.0)

abbrev pub band_rows : List Call → List BandRow
band_rows h =
    filter_map (band_row h)
    (in_order band_cmp (all_named (λ c before. places_in band_places (numbered_matrix before c.request)) h))

abbrev pub cell_rows : List Call → List CellRow
cell_rows h =
    filter_map (cell_row h)
    (in_order cell_cmp (all_named (λ c before. places_in cell_places (numbered_matrix before c.request)) h))

abbrev pub tag_rationalised : Option ChangeKind → List Name
tag_rationalised kind = option_to_list (option_map (λ e. e.0) (option_and_then rationale_of_kind kind))

abbrev pub tags_approved : List Call → Request → List Name
tags_approved before r = tag_rationalised (option_and_then (kind_of_change before) (number_approved r))

abbrev pub record_entry : RecordRow → RecordEntry
record_entry r = record { tag = r.tag; change_no = r.change; rev = r.revision; cell_no = r.priority }

-- Rationalisation records (ISA-18.2), one for each alarm with an approved change of its record
abbrev pub records_of : List Call → List RecordRow
records_of h = filter_map (record_of h) (in_order name_cmp (all_named (λ c before. tags_approved before c.request) h))

abbrev pub record_rows : List Call → List RecordEntry
record_rows h = map record_entry (records_of h)

abbrev pub topic_of : ChangeKind → ChangeTopic
topic_of (Rationale a s) = RecordTopic
topic_of (Matrix m) = MatrixTopic
topic_of (Limit a max) = LimitTopic

abbrev pub tag_of_kind : ChangeKind → Option Name
tag_of_kind (Rationale a s) = Some a
tag_of_kind (Matrix m) = None
tag_of_kind (Limit a max) = Some a

abbrev pub sheet_of_kind : ChangeKind → Option Sheet
sheet_of_kind kind = option_map (λ e. e.1) (rationale_of_kind kind)

abbrev pub max_of_kind : ChangeKind → Option ℕ
max_of_kind kind = option_map (λ e. e.1) (limit_of_kind kind)

-- a change's row; columns that its kind lacks are None
abbrev pub change_entry : ChangeRow → ChangeEntry
change_entry c =
    record {
      number = c.number;
      proposer = c.proposer;
      proposed_s = c.proposed;
      kind_no = topic_of c.kind;
      tag = tag_of_kind c.kind;
      base = c.base;
      cause = option_map (λ s. s.cause) (sheet_of_kind c.kind);
      consequence = option_map (λ s. s.consequence) (sheet_of_kind c.kind);
      remedy = option_map (λ s. s.action) (sheet_of_kind c.kind);
      severity = option_map (λ s. s.severity) (sheet_of_kind c.kind);
      response_s = option_map (λ s. s.response) (sheet_of_kind c.kind);
      max_s = max_of_kind c.kind;
      state_no = c.state;
      decider = c.decider;
      decided_s = c.decided;
    }

abbrev pub numbers_proposed : List Call → Request → List ℕ
numbers_proposed before r = option_to_list (option_map (λ x. proposals before + 1) (says r).proposal)

-- Changes, one for each proposal
abbrev pub changes_of : List Call → List ChangeRow
changes_of h = filter_map (change h) (in_order nat_cmp (all_named (λ c before. numbers_proposed before c.request) h))

abbrev pub change_rows : List Call → List ChangeEntry
change_rows h = map change_entry (changes_of h)

-- the unit's own row, with the number and the revision of the matrix in force
abbrev pub unit_row : List Call → UnitRow
unit_row h =
    record { last_s = last_moment h; matrix_no = (matrix h).0; matrix_rev = matrix_revision h; quota = quota h }

-- all rows of the unit
abbrev pub rows_of : List Call → UnitRows
rows_of h =
    record {
      units = unit_row h ∷ [];
      grants = grant_rows h;
      alarms = alarm_rows h;
      shelves = shelf_rows h;
      events = events h;
      bands = band_rows h;
      cells = cell_rows h;
      records = record_rows h;
      changes = change_rows h;
    }
