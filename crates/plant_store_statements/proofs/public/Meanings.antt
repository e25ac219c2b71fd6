-- What each text means under the schema, found by running the resolver's meaning.
use Rattle.std.{specs.Fmt.{digits}, proofs.Common.{◌≡◌, Ok, refl, List, ℕ, suc, [], ◌∷◌, drop, false, codes, length, map, pos, true, ◌-◌}}
use Rattle.sqlite.specs.{Change.{created, indexed}, Collation.TheVariants.{Binary}, Command.{Command}}
use Rattle.sqlite.specs.{Command.TheVariants.{Insert, Delete, Select, Update, CreateTable, CreateIndex}, Compile.{table_defined_by, index_defined_by}}
use Rattle.sqlite.specs.{Listing.{understood, reads_listing}, Query.{Query, inner, end}, Schema.{Schema}, Source.TheVariants.{Values}, Table.{Table}}
use Rattle.sqlite.{specs.Term.{Term, lit, col, op2}, proofs.Callers.{IsPlain, command_of, statement_of}}
use Rattle.sqlite_schema.specs.declared.schema.Column.{Column}
use Rattle.sqlite_sql.specs.declared.ops.{BinaryOp.TheVariants.{Compare}, CompareOp.TheVariants.{Eq}}
use Rattle.sqlite_tied.specs.Compute.{everything}
use Rattle.sqlite_value.specs.{Keys.{ascending}, declared.{keys.Key.{Key}, value.Value.TheVariants.{Null, Int}}}
use Rattle.plant_store_statements.specs.{Texts.{put_text, rows_text, table_text}, declared.texts.TheConstants.{CREATE_OFFICE, CREATE_GRANTS_BY_PERSON, INSERT_OFFICE, SELECT_OFFICE, UPDATE_UNIT, UPDATE_ALARM, UPDATE_RECORD, UPDATE_CHANGE, DELETE_GRANT, DELETE_SHELF, SELECT_OWN_GRANTS, SELECT_ALARM, SELECT_SHELF, SELECT_SHELF_TAGS, SELECT_RECORD, SELECT_MATRIX_BANDS, SELECT_MATRIX_CELLS, SELECT_CHANGE, SELECT_LAST_CHANGE}}
use Rattle.plant_store_columns.specs.{Kept.{plain_query}, Shape.{Shape, table_in}, declared.tables.TableKind.{TableKind, TheVariants.{Units}}}
use Rattle.plant_store_columns.specs.Tables.{shape, office_table, unit_shape, grant_shape, alarm_shape, shelf_shape, band_shape, cell_shape, by_person}
use Rattle.plant_store_columns.specs.Tables.{no_schema, books_schema, record_shape, change_shape, schema_with, table_count}

-- under this schema the text is this command, and plain
pub record Means (schema : Schema) (text : List ℕ) (command : Command) : Type 0 where
  pub is : command_of (understood schema text) ≡ command
  pub plain : IsPlain (understood schema text)

-- it is this query, which shows columns of these names, and none of the tables that list the schema
pub record Asks (schema : Schema) (text : List ℕ) (query : Query) (names : List (List ℕ)) : Type 0 where
  pub is : command_of (understood schema text) ≡ Select (record { lets = []; body = query }) names
  pub unlisted : reads_listing schema text ≡ false
  pub plain : IsPlain (understood schema text)

-- it makes this table, which lies in tree 0 until it is made, and leaves the schema so
pub record Makes (before : Schema) (text : List ℕ) (made : Table) (after : Schema) : Type 0 where
  pub means : Means before text CreateTable
  pub whole : statement_of text (understood before text) ≡ text
  pub defines : table_defined_by text ≡ Ok made
  pub leaves : created before made ≡ after

-- ---- what makes the schema

pub makes_office : Makes no_schema CREATE_OFFICE.now office_table (schema_with 0)
unfolding understood everything digits
makes_office = record { means = record { is = refl; plain = (refl, refl) }; whole = refl; defines = refl; leaves = refl }

-- by running it for each table
pub makes_table : (i : TableKind)
    → Makes (schema_with ((shape i).place - 1)) (table_text i) (table_in (record (shape i) { tree = 0 })) (schema_with (shape i).place)
unfolding understood everything digits
makes_table Units = record { means = record { is = refl; plain = (refl, refl) }; whole = refl; defines = refl; leaves = refl }
makes_table i = record { means = record { is = refl; plain = (refl, refl) }; whole = refl; defines = refl; leaves = refl }

pub by_person_made : index_defined_by (table_in grant_shape) CREATE_GRANTS_BY_PERSON.now ≡ Ok (record by_person { tree = 0 })
unfolding everything
by_person_made = refl

pub by_person_created : indexed (schema_with table_count) (table_in grant_shape) (record by_person { tree = 0 }) ≡ books_schema
by_person_created = refl

pub by_person_whole : statement_of CREATE_GRANTS_BY_PERSON.now (understood (schema_with table_count) CREATE_GRANTS_BY_PERSON.now) ≡ CREATE_GRANTS_BY_PERSON.now
unfolding understood everything
by_person_whole = refl

pub by_person_means : Means (schema_with table_count) CREATE_GRANTS_BY_PERSON.now (CreateIndex 2)
unfolding understood everything
by_person_means = record { is = refl; plain = (refl, refl) }

-- ---- the office's row

pub put_office : Means books_schema INSERT_OFFICE.now (Insert 0 (Values (lit (Int (pos 1)) ∷ lit Null ∷ lit (Int (pos 2)) ∷ col 0 0 ∷ []) 4))
unfolding understood everything
put_office = record { is = refl; plain = (refl, refl) }

pub office_row_plain : IsPlain (understood books_schema SELECT_OFFICE.now)
unfolding understood everything
office_row_plain = (refl, refl)

-- ---- a row put

-- a term for each of these columns: of a source, from this one on
abbrev pub terms : ℕ → ℕ → List Column → List Term
terms source n [] = []
terms source n (c ∷ cs) = col source n ∷ terms source (suc n) cs

-- the cells that are given, behind a rowid that is to be chosen
abbrev pub put_terms : TableKind → List Term
put_terms i = lit Null ∷ terms 0 0 (shape i).columns

abbrev pub put_width : TableKind → ℕ
put_width i = suc (length (shape i).columns)

-- by running it for each table
pub puts : (i : TableKind) → Means books_schema (put_text i) (Insert (shape i).place (Values (put_terms i) (put_width i)))
unfolding understood everything
puts Units = record { is = refl; plain = (refl, refl) }
puts i = record { is = refl; plain = (refl, refl) }

-- ---- tests of the first columns against the parameters
abbrev pub by_unit : List Term
by_unit = op2 (Compare Eq Binary) (col 1 1) (col 0 0) ∷ []

abbrev pub by_two : List Term
by_two = op2 (Compare Eq Binary) (col 1 1) (col 0 0) ∷ op2 (Compare Eq Binary) (col 1 2) (col 0 1) ∷ []

abbrev pub by_three : List Term
by_three =
    op2 (Compare Eq Binary) (col 1 1) (col 0 0) ∷ op2 (Compare Eq Binary) (col 1 2) (col 0 1) ∷ op2 (Compare Eq Binary) (col 1 3) (col 0 2) ∷ []

-- ---- a row written over: its rowid is shown, and then the row as it is to be

abbrev pub over_unit_shows : List Term
over_unit_shows = col 1 0 ∷ col 1 0 ∷ col 1 1 ∷ col 0 1 ∷ col 0 2 ∷ col 0 3 ∷ col 0 4 ∷ []

-- where the key is the unit and a name or a number
module _ {X K : Type 0} (s : Shape X K) where
  abbrev pub over_two_shows : List Term
  over_two_shows = col 1 0 ∷ col 1 0 ∷ col 1 1 ∷ col 1 2 ∷ terms 0 2 (drop 2 s.columns)

  -- the text changes what the tests find in the table, and shows it so
  abbrev pub Updates : List ℕ → List Term → List Term → Type 0
  Updates text tests shows = Means books_schema text (Update s.place (record { lets = []; body = plain_query (inner s.tree end) tests shows [] }))

  -- it takes out what the tests find
  abbrev pub Removes : List ℕ → List Term → Type 0
  Removes text tests = Means books_schema text (Delete s.place (record { lets = []; body = plain_query (inner s.tree end) tests (col 1 0 ∷ []) [] }))

pub over_unit : Updates unit_shape UPDATE_UNIT.now by_unit over_unit_shows
unfolding understood everything
over_unit = record { is = refl; plain = (refl, refl) }

pub over_alarm : Updates alarm_shape UPDATE_ALARM.now by_two (over_two_shows alarm_shape)
unfolding understood everything
over_alarm = record { is = refl; plain = (refl, refl) }

pub over_record : Updates record_shape UPDATE_RECORD.now by_two (over_two_shows record_shape)
unfolding understood everything
over_record = record { is = refl; plain = (refl, refl) }

pub over_change : Updates change_shape UPDATE_CHANGE.now by_two (over_two_shows change_shape)
unfolding understood everything
over_change = record { is = refl; plain = (refl, refl) }

-- ---- a row taken out

pub remove_grant : Removes grant_shape DELETE_GRANT.now by_three
unfolding understood everything
remove_grant = record { is = refl; plain = (refl, refl) }

pub remove_shelf : Removes shelf_shape DELETE_SHELF.now by_two
unfolding understood everything
remove_shelf = record { is = refl; plain = (refl, refl) }

-- ---- rows read

module _ {X K : Type 0} (s : Shape X K) where
  -- a table's own columns, which are those but the unit's, and their names
  abbrev pub own_columns : List Term
  own_columns = terms 1 2 (drop 1 s.columns)

  abbrev pub own_names : List (List ℕ)
  own_names = map (λ c. c.name) (drop 1 s.columns)

  -- the order of its key
  abbrev pub by_key : List (Term × Key)
  by_key = map (λ n. (col 1 n, ascending Binary)) (1 ∷ s.keys)

  -- the text shows the rows that the tests find, by their key
  abbrev pub Lists : Schema → List ℕ → List Term → Type 0
  Lists schema text tests = Asks schema text (plain_query (inner s.tree end) tests own_columns by_key) own_names

-- by running it for each table
pub lists_all : (i : TableKind) → Lists (shape i) books_schema (rows_text i) by_unit
unfolding understood everything
lists_all Units = record { is = refl; unlisted = refl; plain = (refl, refl) }
lists_all i = record { is = refl; unlisted = refl; plain = (refl, refl) }

pub lists_own_grants : Lists grant_shape books_schema SELECT_OWN_GRANTS.now by_two
unfolding understood everything
lists_own_grants = record { is = refl; unlisted = refl; plain = (refl, refl) }

pub lists_alarm : Lists alarm_shape books_schema SELECT_ALARM.now by_two
unfolding understood everything
lists_alarm = record { is = refl; unlisted = refl; plain = (refl, refl) }

pub lists_shelf : Lists shelf_shape books_schema SELECT_SHELF.now by_two
unfolding understood everything
lists_shelf = record { is = refl; unlisted = refl; plain = (refl, refl) }

pub lists_record : Lists record_shape books_schema SELECT_RECORD.now by_two
unfolding understood everything
lists_record = record { is = refl; unlisted = refl; plain = (refl, refl) }

pub lists_bands : Lists band_shape books_schema SELECT_MATRIX_BANDS.now by_two
unfolding understood everything
lists_bands = record { is = refl; unlisted = refl; plain = (refl, refl) }

pub lists_cells : Lists cell_shape books_schema SELECT_MATRIX_CELLS.now by_two
unfolding understood everything
lists_cells = record { is = refl; unlisted = refl; plain = (refl, refl) }

pub lists_change : Lists change_shape books_schema SELECT_CHANGE.now by_two
unfolding understood everything
lists_change = record { is = refl; unlisted = refl; plain = (refl, refl) }

pub shelf_tags : Asks books_schema SELECT_SHELF_TAGS.now (plain_query (inner 7 end) by_unit (col 1 2 ∷ []) (by_key shelf_shape)) (codes "tag" ∷ [])
unfolding understood everything
shelf_tags = record { is = refl; unlisted = refl; plain = (refl, refl) }

abbrev pub falling : Key
falling = record { collation = Binary; descending = true }

abbrev pub falling_2 : List (Term × Key)
falling_2 = (col 1 1, falling) ∷ (col 1 2, falling) ∷ []

pub last_change : Asks books_schema SELECT_LAST_CHANGE.now (record (plain_query (inner 17 end) by_unit (col 1 2
    ∷ []) falling_2) { limit = lit (Int (pos 1)) }) (codes "number" ∷ [])
unfolding understood everything
last_change = record { is = refl; unlisted = refl; plain = (refl, refl) }
