-- The texts of the statements on the table of each kind of rows.
use Rattle.std.specs.Prelude.{List, ℕ}
use Rattle.plant_store_columns.specs.declared.tables.TableKind.{TableKind, TheVariants.{Units, Grants, Alarms, Shelves, Bands, Cells, Events, Records}}
use Rattle.plant_store_columns.specs.declared.tables.TableKind.TheVariants.{Changes}
use Rattle.plant_store_statements.specs.declared.texts.TheConstants.{CREATE_UNITS, CREATE_GRANTS, CREATE_ALARMS, CREATE_SHELVES, CREATE_BANDS, CREATE_CELLS, CREATE_EVENTS, CREATE_RECORDS, CREATE_CHANGES}
use Rattle.plant_store_statements.specs.declared.texts.TheConstants.{INSERT_UNIT, INSERT_GRANT, INSERT_ALARM, INSERT_SHELF, INSERT_BAND, INSERT_CELL, INSERT_EVENT, INSERT_RECORD, INSERT_CHANGE}
use Rattle.plant_store_statements.specs.declared.texts.TheConstants.{SELECT_UNITS, SELECT_GRANTS, SELECT_ALARMS, SELECT_SHELVES, SELECT_BANDS, SELECT_CELLS, SELECT_EVENTS, SELECT_RECORDS, SELECT_CHANGES}

-- the text that makes the table
abbrev pub table_text : TableKind → List ℕ
table_text Units = CREATE_UNITS.now
table_text Grants = CREATE_GRANTS.now
table_text Alarms = CREATE_ALARMS.now
table_text Shelves = CREATE_SHELVES.now
table_text Bands = CREATE_BANDS.now
table_text Cells = CREATE_CELLS.now
table_text Events = CREATE_EVENTS.now
table_text Records = CREATE_RECORDS.now
table_text Changes = CREATE_CHANGES.now

-- the text that inserts a row whose key no row has
abbrev pub put_text : TableKind → List ℕ
put_text Units = INSERT_UNIT.now
put_text Grants = INSERT_GRANT.now
put_text Alarms = INSERT_ALARM.now
put_text Shelves = INSERT_SHELF.now
put_text Bands = INSERT_BAND.now
put_text Cells = INSERT_CELL.now
put_text Events = INSERT_EVENT.now
put_text Records = INSERT_RECORD.now
put_text Changes = INSERT_CHANGE.now

-- a unit's rows, in the order of their keys
abbrev pub rows_text : TableKind → List ℕ
rows_text Units = SELECT_UNITS.now
rows_text Grants = SELECT_GRANTS.now
rows_text Alarms = SELECT_ALARMS.now
rows_text Shelves = SELECT_SHELVES.now
rows_text Bands = SELECT_BANDS.now
rows_text Cells = SELECT_CELLS.now
rows_text Events = SELECT_EVENTS.now
rows_text Records = SELECT_RECORDS.now
rows_text Changes = SELECT_CHANGES.now
