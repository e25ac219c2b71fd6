-- The tables of schema 1, from which a plant may come: those of this schema, except that a unit's row has no quota and
-- a grant has no end.
use Rattle.std.specs.{Ordering.{nat_cmp}, Prelude.{List, [], codes, map, ℕ, ◌++◌, ◌∷◌}}
use Rattle.sqlite.specs.{Effect.{Database}, Schema.{Schema}, Tree.{Trees}}
use Rattle.sqlite_value.specs.{Order.{Row, bytes, column}, declared.value.Value.TheVariants.{Null, Text}}
use Rattle.plant_store_columns.specs.{Codes.{number, number_in, role, role_in}, Shape.{AreTables, Shape, seen, table_in}}
use Rattle.plant_store_columns.specs.declared.tables.TableKind.{TableKind, TheVariants.{Grants, Units}}
use Rattle.plant_store_columns.specs.Tables.{KeyOf, RowOf, all_tables, by_person, key_index, number_column, office_table, shape, text_column}
use Rattle.plant_store_migration.specs.declared.old_rows.{OldGrantRow.{OldGrantRow}, OldUnitRow.{OldUnitRow}}
use Rattle.plant_types.specs.{Names.{Name}, Roles.{Pair, pair_cmp}}

abbrev pub old_schema_no : ℕ
old_schema_no = 1

-- the row of an office of that schema
abbrev pub old_office_row : Name → Row
old_office_row admin = number 1 ∷ Null ∷ number old_schema_no ∷ Text admin ∷ []

-- a unit has one row of its own
abbrev pub old_own_key : OldUnitRow → ℕ
old_own_key r = 0

abbrev pub old_pair_of : OldGrantRow → Pair
old_pair_of g = (g.person, g.role_no)

abbrev pub old_unit_shape : Shape OldUnitRow ℕ
old_unit_shape = record {
  name = codes "units";
  place = 1;
  tree = 1;
  columns =
      text_column (codes "unit") ∷ number_column (codes "last_s") ∷ number_column (codes "matrix_no")
      ∷ number_column (codes "matrix_rev") ∷ [];
  keys = [];
  order = nat_cmp;
  key = old_own_key;
  cells = λ r. number r.last_s ∷ number r.matrix_no ∷ number r.matrix_rev ∷ [];
  read = λ r. record {
    last_s = number_in (column r 2);
    matrix_no = number_in (column r 3);
    matrix_rev = number_in (column r 4);
  };
}

abbrev pub old_grant_shape : Shape OldGrantRow Pair
old_grant_shape = record {
  name = codes "grants";
  place = 2;
  tree = 3;
  columns = text_column (codes "unit") ∷ text_column (codes "person") ∷ number_column (codes "role_no") ∷ [];
  keys = 2 ∷ 3 ∷ [];
  order = pair_cmp;
  key = old_pair_of;
  cells = λ g. Text g.person ∷ role g.role_no ∷ [];
  read = λ r. record { person = bytes (column r 2); role_no = role_in (column r 3) };
}

-- a row of each table of that schema: two are of their own, the others those of today
abbrev pub OldRowOf : TableKind → Type 0
OldRowOf Units = OldUnitRow
OldRowOf Grants = OldGrantRow
OldRowOf i = RowOf i

-- the shape of each table of that schema
abbrev pub old_shape : (i : TableKind) → Shape (OldRowOf i) (KeyOf i)
old_shape Units = old_unit_shape
old_shape Grants = old_grant_shape
old_shape i = shape i

abbrev pub old_books_schema : Schema
old_books_schema = record {
  tables = office_table ∷ map (λ i. table_in (old_shape i)) all_tables;
  indexes = map (λ i. key_index (old_shape i)) all_tables ++ by_person ∷ [];
  views = [];
}

-- a database with that schema that only its own statements have written
abbrev pub AreOldBooks : Database → Type 0
AreOldBooks db = AreTables OldRowOf KeyOf old_shape old_books_schema db

-- what its tables have of a unit
abbrev pub old_rows : Name → Trees → (i : TableKind) → List (OldRowOf i)
old_rows unit trees = seen OldRowOf KeyOf old_shape unit trees
