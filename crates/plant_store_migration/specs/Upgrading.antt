-- A plant's rows taken over from schema 1: each unit may shelve as many alarms as a unit can have, no grant ends, and
-- all else stays.
use Rattle.std.specs.{FinMap.{contains_key}, List.{list_any}, Prelude.{flat_map, Bool, List, None, [], false, map, true, ◌∷◌, ◌≡◌}}
use Rattle.plant_types.specs.{Limits.{max_quota}, Names.{Name, same_name}}
use Rattle.sqlite.specs.{Effect.{Database, IsDatabase}, Tree.{Trees}}
use Rattle.sqlite_value.specs.Order.{bytes, column}
use Rattle.plant_books.specs.Contents.{Content, rows_in}
use Rattle.plant_store_columns.specs.Kept.{by_columns, kept}
use Rattle.plant_store_columns.specs.declared.tables.TableKind.{TableKind, TheVariants.{Alarms, Bands, Cells, Changes, Events, Grants, Records, Shelves}}
use Rattle.plant_store_columns.specs.declared.tables.TableKind.TheVariants.{Units}
use Rattle.plant_store_columns.specs.Tables.{AreBooks, AreSeen, all_tables, rows_of_table}
use Rattle.plant_model.specs.declared.rows.GrantRow.{GrantRow}
use Rattle.plant_model.specs.steps.RowChanges.{no_rows}
use Rattle.plant_model.specs.declared.rows.{RowEdit.{RowEdit, TheVariants.{Put}}, UnitRow.{UnitRow}, UnitRows.{UnitRows}}
use Rattle.plant_store_statements.specs.{Changes.{IsOfficeOf, as_row}, Keeping.{has_any}}
use Rattle.plant_store_migration.specs.OldTables.{AreOldBooks, old_office_row, old_rows}
use Rattle.plant_store_migration.specs.declared.old_rows.{OldGrantRow.{OldGrantRow}, OldUnitRow.{OldUnitRow}}

abbrev pub upgraded_unit : OldUnitRow → UnitRow
upgraded_unit r = record { last_s = r.last_s; matrix_no = r.matrix_no; matrix_rev = r.matrix_rev; quota = max_quota }

abbrev pub upgraded_grant : OldGrantRow → GrantRow
upgraded_grant g = record { person = g.person; role_no = g.role_no; end_s = None }

-- a unit's rows, as this schema has them
abbrev pub upgraded_rows : Name → Trees → UnitRows
upgraded_rows u trees = record {
  units = map upgraded_unit (old_rows u trees Units);
  grants = map upgraded_grant (old_rows u trees Grants);
  alarms = old_rows u trees Alarms;
  shelves = old_rows u trees Shelves;
  events = old_rows u trees Events;
  bands = old_rows u trees Bands;
  cells = old_rows u trees Cells;
  records = old_rows u trees Records;
  changes = old_rows u trees Changes;
}

-- tables of schema 1 that have a content: its units have the greatest quota, and its grants no end
pub record HaveOldRows (m : Content) (db : Database) : Type 0 where
  pub books : AreOldBooks db
  pub office : db.trees 0 ≡ old_office_row m.admin ∷ []
  pub seen : (u : Name) → upgraded_rows u db.trees ≡ rows_in m u
  pub opened : (u : Name) → contains_key m.units u ≡ has_any (rows_in m u).units

-- the codes of the units, rising
abbrev pub old_codes : Trees → List Name
old_codes trees = map (λ r. bytes (column r 1)) (kept (by_columns (1 ∷ [])) (λ r. true) (trees 1))

-- the puts of the rows of one table, and of all
abbrev pub puts_of : UnitRows → TableKind → List RowEdit
puts_of rows i = map (λ r. Put (as_row i r)) (rows_of_table i rows)

abbrev pub puts_all : UnitRows → List RowEdit
puts_all rows = flat_map (puts_of rows) all_tables

abbrev pub is_among : List Name → Name → Bool
is_among us u = list_any (λ k. same_name k u) us

-- the rows of these units are copied; other units have no rows
pub record AreTakenOver (us : List Name) (trees : Trees) (db : Database) : Type 0 where
  pub books : AreBooks db
  pub database : IsDatabase db
  pub taken : (u : Name) → is_among us u ≡ true → AreSeen u db (upgraded_rows u trees)
  pub others : (u : Name) → is_among us u ≡ false → AreSeen u db no_rows

-- the database is the whole copy of the older tables, as this administrator's office
pub record IsCopyOf (admin : Name) (trees : Trees) (db : Database) : Type 0 where
  pub taken : AreTakenOver (old_codes trees) trees db
  pub office : IsOfficeOf admin db
