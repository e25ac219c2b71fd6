-- Which databases are this office's books.
use Rattle.std.specs.Prelude.{Bool, List, Option, Some, [], codes, is_some, map, option_and_then, option_map, false, slice_get, true, unwrap_or, ℕ, ◌&&◌, ◌∷◌, ◌≡◌}
use Rattle.sqlite.specs.{Effect.{Database}, Schema.{Schema}, Table.{Table}}
use Rattle.sqlite_schema.specs.Names.{column_named, place_of, table_named}
use Rattle.sqlite_value.specs.{Order.{Row, column}, declared.value.Value.TheVariants.{Text}}
use Rattle.plant_store_columns.specs.{Codes.{number}, Tables.{schema_no}}
use Rattle.plant_types.specs.Names.{Name}

-- the table of this name, wherever it stands; SQL does not distinguish upper and lower case
abbrev pub office_in : Schema → Option Table
office_in schema = option_and_then (slice_get schema.tables) (table_named schema (codes "office"))

-- the columns id, schema_no and admin
abbrev pub has_column : List ℕ → Table → Bool
has_column name t = is_some (column_named t name)

abbrev pub is_office : Table → Bool
is_office t = has_column (codes "id") t && (has_column (codes "schema_no") t && has_column (codes "admin") t)

abbrev pub has_office : Schema → Bool
has_office schema = unwrap_or (option_map is_office (office_in schema)) false

-- the place in a row of the column of this name
abbrev pub place_named : Table → List ℕ → ℕ
place_named t name = place_of t (unwrap_or (column_named t name) 0)

-- the row of an office, as it is shown
abbrev pub office_shown : Table → Row → Row
office_shown t r =
    column r (place_named t (codes "id")) ∷ column r (place_named t (codes "schema_no"))
    ∷ column r (place_named t (codes "admin")) ∷ []

abbrev pub office_cells : ℕ → Name → Row
office_cells schema admin = number 1 ∷ number schema ∷ Text admin ∷ []

-- the office's table exists with its columns, and it has one row, with a schema's number and a person's name
pub record IsOffice (schema : ℕ) (admin : Name) (db : Database) : Type 0 where
  pub table : Table
  pub is_there : office_in db.schema ≡ Some table
  pub has_columns : is_office table ≡ true
  pub row : map (office_shown table) (db.trees table.tree) ≡ office_cells schema admin ∷ []

-- the same for this schema
abbrev pub IsThisOffice : Name → Database → Type 0
IsThisOffice admin db = IsOffice schema_no admin db
