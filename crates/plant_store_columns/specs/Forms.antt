-- The form of a table and of an index.
use Rattle.std.specs.Prelude.{true, false, [], ◌∷◌, None, List, ℕ, Bool}
use Rattle.sqlite.specs.{Collation.TheVariants.{Binary}, Kind.{Kind}, Table.{Table}}
use Rattle.sqlite_value.specs.{Keys.{plain}, declared.value.Value.TheVariants.{Null}}
use Rattle.sqlite_schema.specs.declared.schema.{Column.{Column}, Index.{Index}}

abbrev pub column_of : List ℕ → Kind → Column
column_of name kind =
    record { name = name; kind = kind; is_strict = true; not_null = true; default = Null; collation = Binary }

-- a column that may hold NULL
abbrev pub open_column : List ℕ → Kind → Column
open_column name kind =
    record { name = name; kind = kind; is_strict = true; not_null = false; default = Null; collation = Binary }

-- a strict table with this key, in this tree
abbrev pub table_of : List ℕ → ℕ → List Column → List ℕ → Table
table_of name tree columns key = record {
  name = name;
  tree = tree;
  columns = columns;
  key = None;
  primary = key;
  uniques = key ∷ [];
  orders = plain ∷ [];
  checks = [];
  references = [];
  computed = [];
  stamps = record { places = []; terms = []; formats = [] };
  is_counted = false;
}

abbrev pub index_of : List ℕ → ℕ → ℕ → List ℕ → Bool → Index
index_of name tree table columns is_unique =
    record { name = name; tree = tree; table = table; columns = columns; order = plain; is_unique = is_unique }
