-- The tables that all units share, each by its shape, and the schema.
use Rattle.std.specs.{Ordering.{nat_cmp}, Prelude.{List, Some, [], codes, false, length, map, suc, take, true, ℕ, ◌++◌, ◌∷◌, ◌≡◌}}
use Rattle.sqlite.specs.{Effect.{Database}, Kind.TheVariants.{Integer, Text as TextKind}, Schema.{Schema}, Table.{Table}, Tree.{Trees}}
use Rattle.sqlite_schema.specs.declared.schema.{Column.{Column}, Index.{Index}}
use Rattle.sqlite_value.specs.{Order.{Row, bytes, column}, declared.value.Value.TheVariants.{Null, Text}}
use Rattle.plant_alarm.specs.declared.event.Event.{Event}
use Rattle.plant_model.specs.Matrices.{BandKey, CellKey, band_cmp, cell_cmp}
use Rattle.plant_model.specs.steps.RowFacts.{alarm_tag, band_key, cell_key, change_number, event_number, pair_of, record_tag, shelf_tag}
use Rattle.plant_model.specs.declared.rows.{AlarmRow.{AlarmRow}, BandRow.{BandRow}, CellRow.{CellRow}, ChangeEntry.{ChangeEntry}, GrantRow.{GrantRow}}
use Rattle.plant_model.specs.declared.rows.{RecordEntry.{RecordEntry}, ShelfRow.{ShelfRow}, UnitRow.{UnitRow}, UnitRows.{UnitRows}}
use Rattle.plant_store_columns.specs.Codes.{alarm_state, cell, cell_in, change_state, change_state_in, flag, flag_in, kind, kind_in, number, number_in, open_number, open_number_in, open_text, open_text_in, role, role_in, state_in, topic, topic_in}
use Rattle.plant_store_columns.specs.declared.tables.TableKind.{TableKind, TheVariants.{Units, Grants, Alarms, Shelves, Bands, Cells, Events, Records}}
use Rattle.plant_store_columns.specs.declared.tables.TableKind.TheVariants.{Changes}
use Rattle.plant_store_columns.specs.{Forms.{column_of, index_of, open_column}, Shape.{AreTables, Shape, seen, table_in}}
use Rattle.plant_types.specs.{Names.{Name, name_cmp}, Roles.{Pair, pair_cmp}}

abbrev pub RowOf : TableKind → Type 0
RowOf Units = UnitRow
RowOf Grants = GrantRow
RowOf Alarms = AlarmRow
RowOf Shelves = ShelfRow
RowOf Bands = BandRow
RowOf Cells = CellRow
RowOf Events = Event
RowOf Records = RecordEntry
RowOf Changes = ChangeEntry

abbrev pub KeyOf : TableKind → Type 0
KeyOf Units = ℕ
KeyOf Grants = Pair
KeyOf Alarms = Name
KeyOf Shelves = Name
KeyOf Bands = BandKey
KeyOf Cells = CellKey
KeyOf Events = ℕ
KeyOf Records = Name
KeyOf Changes = ℕ

abbrev pub text_column : List ℕ → Column
text_column name = column_of name TextKind

abbrev pub number_column : List ℕ → Column
number_column name = column_of name Integer

abbrev pub open_text_column : List ℕ → Column
open_text_column name = open_column name TextKind

abbrev pub open_number_column : List ℕ → Column
open_number_column name = open_column name Integer

-- a unit has one row of its own
abbrev pub own_key : UnitRow → ℕ
own_key r = 0

abbrev pub unit_shape : Shape UnitRow ℕ
unit_shape = record {
  name = codes "units";
  place = 1;
  tree = 1;
  columns =
      text_column (codes "unit") ∷ number_column (codes "last_s") ∷ number_column (codes "matrix_no")
      ∷ number_column (codes "matrix_rev") ∷ number_column (codes "quota") ∷ [];
  keys = [];
  order = nat_cmp;
  key = own_key;
  cells = λ r. number r.last_s ∷ number r.matrix_no ∷ number r.matrix_rev ∷ number r.quota ∷ [];
  read = λ r. record {
    last_s = number_in (column r 2);
    matrix_no = number_in (column r 3);
    matrix_rev = number_in (column r 4);
    quota = number_in (column r 5);
  };
}

abbrev pub grant_shape : Shape GrantRow Pair
grant_shape = record {
  name = codes "grants";
  place = 2;
  tree = 3;
  columns =
      text_column (codes "unit") ∷ text_column (codes "person") ∷ number_column (codes "role_no")
      ∷ open_number_column (codes "end_s") ∷ [];
  keys = 2 ∷ 3 ∷ [];
  order = pair_cmp;
  key = pair_of;
  cells = λ r. Text r.person ∷ role r.role_no ∷ open_number r.end_s ∷ [];
  read = λ r. record {
    person = bytes (column r 2);
    role_no = role_in (column r 3);
    end_s = open_number_in (column r 4);
  };
}

abbrev pub alarm_shape : Shape AlarmRow Name
alarm_shape = record {
  name = codes "alarms";
  place = 3;
  tree = 5;
  columns =
      text_column (codes "unit") ∷ text_column (codes "tag") ∷ number_column (codes "latching")
      ∷ number_column (codes "max_s") ∷ number_column (codes "max_rev") ∷ number_column (codes "state_no")
      ∷ number_column (codes "suppressed")
      ∷ open_number_column (codes "active_s") ∷ open_number_column (codes "return_s")
      ∷ open_number_column (codes "out_s") ∷ open_text_column (codes "out_by") ∷ open_text_column (codes "out_words")
      ∷ [];
  keys = 2 ∷ [];
  order = name_cmp;
  key = alarm_tag;
  cells = λ r. Text r.tag ∷ flag r.latching ∷ number r.max_s ∷ number r.max_rev ∷ alarm_state r.state_no
      ∷ flag r.suppressed ∷ open_number r.active_s ∷ open_number r.return_s ∷ open_number r.out_s ∷ open_text r.out_by
      ∷ open_text r.out_words ∷ [];
  read = λ r. record {
    tag = bytes (column r 2);
    latching = flag_in (column r 3);
    max_s = number_in (column r 4);
    max_rev = number_in (column r 5);
    state_no = state_in (column r 6);
    suppressed = flag_in (column r 7);
    active_s = open_number_in (column r 8);
    return_s = open_number_in (column r 9);
    out_s = open_number_in (column r 10);
    out_by = open_text_in (column r 11);
    out_words = open_text_in (column r 12);
  };
}

abbrev pub shelf_shape : Shape ShelfRow Name
shelf_shape = record {
  name = codes "shelves";
  place = 4;
  tree = 7;
  columns =
      text_column (codes "unit") ∷ text_column (codes "tag") ∷ number_column (codes "one_shot")
      ∷ number_column (codes "start_s") ∷ number_column (codes "until_s") ∷ text_column (codes "person")
      ∷ text_column (codes "words") ∷ [];
  keys = 2 ∷ [];
  order = name_cmp;
  key = shelf_tag;
  cells = λ r. Text r.tag ∷ flag r.one_shot ∷ number r.start_s ∷ number r.until_s ∷ Text r.person ∷ Text r.words ∷ [];
  read = λ r. record {
    tag = bytes (column r 2);
    one_shot = flag_in (column r 3);
    start_s = number_in (column r 4);
    until_s = number_in (column r 5);
    person = bytes (column r 6);
    words = bytes (column r 7);
  };
}

abbrev pub band_shape : Shape BandRow BandKey
band_shape = record {
  name = codes "bands";
  place = 5;
  tree = 9;
  columns =
      text_column (codes "unit") ∷ number_column (codes "matrix_no") ∷ number_column (codes "band_no")
      ∷ number_column (codes "limit_s") ∷ [];
  keys = 2 ∷ 3 ∷ [];
  order = band_cmp;
  key = band_key;
  cells = λ r. number r.matrix_no ∷ number r.band_no ∷ number r.limit_s ∷ [];
  read = λ r. record {
    matrix_no = number_in (column r 2);
    band_no = number_in (column r 3);
    limit_s = number_in (column r 4);
  };
}

abbrev pub cell_shape : Shape CellRow CellKey
cell_shape = record {
  name = codes "cells";
  place = 6;
  tree = 11;
  columns =
      text_column (codes "unit") ∷ number_column (codes "matrix_no") ∷ number_column (codes "severity")
      ∷ number_column (codes "band_no") ∷ number_column (codes "cell_no") ∷ [];
  keys = 2 ∷ 3 ∷ 4 ∷ [];
  order = cell_cmp;
  key = cell_key;
  cells = λ r. number r.matrix_no ∷ number r.severity ∷ number r.band_no ∷ cell r.cell_no ∷ [];
  read = λ r. record {
    matrix_no = number_in (column r 2);
    severity = number_in (column r 3);
    band_no = number_in (column r 4);
    cell_no = cell_in (column r 5);
  };
}

abbrev pub event_shape : Shape Event ℕ
event_shape = record {
  name = codes "events";
  place = 7;
  tree = 13;
  columns =
      text_column (codes "unit") ∷ number_column (codes "seq") ∷ number_column (codes "moment_s")
      ∷ text_column (codes "tag") ∷ number_column (codes "kind_no") ∷ [];
  keys = 2 ∷ [];
  order = nat_cmp;
  key = event_number;
  cells = λ e. number e.seq ∷ number e.moment ∷ Text e.tag ∷ kind e.kind ∷ [];
  read = λ r. record {
    seq = number_in (column r 2);
    moment = number_in (column r 3);
    tag = bytes (column r 4);
    kind = kind_in (column r 5);
  };
}

abbrev pub record_shape : Shape RecordEntry Name
record_shape = record {
  name = codes "records";
  place = 8;
  tree = 15;
  columns =
      text_column (codes "unit") ∷ text_column (codes "tag") ∷ number_column (codes "change_no")
      ∷ number_column (codes "rev") ∷ number_column (codes "cell_no") ∷ [];
  keys = 2 ∷ [];
  order = name_cmp;
  key = record_tag;
  cells = λ r. Text r.tag ∷ number r.change_no ∷ number r.rev ∷ cell r.cell_no ∷ [];
  read = λ r. record {
    tag = bytes (column r 2);
    change_no = number_in (column r 3);
    rev = number_in (column r 4);
    cell_no = cell_in (column r 5);
  };
}

abbrev pub change_shape : Shape ChangeEntry ℕ
change_shape = record {
  name = codes "changes";
  place = 9;
  tree = 17;
  columns =
      text_column (codes "unit") ∷ number_column (codes "number") ∷ text_column (codes "proposer")
      ∷ number_column (codes "proposed_s") ∷ number_column (codes "kind_no") ∷ open_text_column (codes "tag")
      ∷ number_column (codes "base")
      ∷ open_text_column (codes "cause") ∷ open_text_column (codes "consequence") ∷ open_text_column (codes "remedy")
      ∷ open_number_column (codes "severity") ∷ open_number_column (codes "response_s")
      ∷ open_number_column (codes "max_s")
      ∷ number_column (codes "state_no") ∷ open_text_column (codes "decider") ∷ open_number_column (codes "decided_s")
      ∷ [];
  keys = 2 ∷ [];
  order = nat_cmp;
  key = change_number;
  cells = λ c. number c.number ∷ Text c.proposer ∷ number c.proposed_s ∷ topic c.kind_no ∷ open_text c.tag
      ∷ number c.base ∷ open_text c.cause ∷ open_text c.consequence ∷ open_text c.remedy ∷ open_number c.severity
      ∷ open_number c.response_s ∷ open_number c.max_s ∷ change_state c.state_no ∷ open_text c.decider
      ∷ open_number c.decided_s ∷ [];
  read = λ r. record {
    number = number_in (column r 2);
    proposer = bytes (column r 3);
    proposed_s = number_in (column r 4);
    kind_no = topic_in (column r 5);
    tag = open_text_in (column r 6);
    base = number_in (column r 7);
    cause = open_text_in (column r 8);
    consequence = open_text_in (column r 9);
    remedy = open_text_in (column r 10);
    severity = open_number_in (column r 11);
    response_s = open_number_in (column r 12);
    max_s = open_number_in (column r 13);
    state_no = change_state_in (column r 14);
    decider = open_text_in (column r 15);
    decided_s = open_number_in (column r 16);
  };
}

abbrev pub shape : (i : TableKind) → Shape (RowOf i) (KeyOf i)
shape Units = unit_shape
shape Grants = grant_shape
shape Alarms = alarm_shape
shape Shelves = shelf_shape
shape Bands = band_shape
shape Cells = cell_shape
shape Events = event_shape
shape Records = record_shape
shape Changes = change_shape

-- the rows of one table among a unit's rows
abbrev pub rows_of_table : (i : TableKind) → UnitRows → List (RowOf i)
rows_of_table Units rows = rows.units
rows_of_table Grants rows = rows.grants
rows_of_table Alarms rows = rows.alarms
rows_of_table Shelves rows = rows.shelves
rows_of_table Bands rows = rows.bands
rows_of_table Cells rows = rows.cells
rows_of_table Events rows = rows.events
rows_of_table Records rows = rows.records
rows_of_table Changes rows = rows.changes

-- the office's own table, whose key is the rowid
abbrev pub office_table : Table
office_table = record {
  name = codes "office";
  tree = 0;
  columns = number_column (codes "id") ∷ number_column (codes "schema_no") ∷ text_column (codes "admin") ∷ [];
  key = Some 0;
  primary = 0 ∷ [];
  uniques = [];
  orders = [];
  checks = [];
  references = [];
  computed = [];
  stamps = record { places = []; terms = []; formats = [] };
  is_counted = false;
}

-- this schema's number, and its row in the office's table: its first column lies in the rowid
abbrev pub schema_no : ℕ
schema_no = 2

abbrev pub office_row : Name → Row
office_row admin = number 1 ∷ Null ∷ number schema_no ∷ Text admin ∷ []

-- the index that a table's key makes
abbrev pub key_index : {X K : Type 0} → Shape X K → Index
key_index s = index_of (codes "sqlite_autoindex_" ++ s.name ++ codes "_1") (suc s.tree) s.tree (1 ∷ s.keys) true

abbrev pub by_person : Index
by_person = index_of (codes "grants_by_person") 19 grant_shape.tree (2 ∷ 1 ∷ []) false

-- the tables in the order in which they are made
abbrev pub all_tables : List TableKind
all_tables = Units ∷ Grants ∷ Alarms ∷ Shelves ∷ Bands ∷ Cells ∷ Events ∷ Records ∷ Changes ∷ []

-- before anything is made
abbrev pub no_schema : Schema
no_schema = record { tables = []; indexes = []; views = [] }

-- how many tables there are
abbrev pub table_count : ℕ
table_count = length all_tables

-- once the office's table and the first n of these are made
abbrev pub schema_with : ℕ → Schema
schema_with n =
    record {
      tables = office_table ∷ map (λ i. table_in (shape i)) (take n all_tables);
      indexes = map (λ i. key_index (shape i)) (take n all_tables);
      views = [];
    }

-- once all tables and the index by person are made
abbrev pub books_schema : Schema
books_schema =
    record (schema_with table_count) { indexes = map (λ i. key_index (shape i)) all_tables ++ by_person ∷ [] }

-- a database with this schema that only these statements have written
abbrev pub AreBooks : Database → Type 0
AreBooks db = AreTables RowOf KeyOf shape books_schema db

-- what the tables have of a unit
abbrev pub rows_seen : List ℕ → Trees → (i : TableKind) → List (RowOf i)
rows_seen unit trees = seen RowOf KeyOf shape unit trees

-- the tables have these rows of the unit
abbrev pub AreSeen : List ℕ → Database → UnitRows → Type 0
AreSeen unit db rows = (i : TableKind) → rows_seen unit db.trees i ≡ rows_of_table i rows
