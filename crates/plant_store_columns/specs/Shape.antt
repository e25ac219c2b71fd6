-- The shape of a table that all units share: what is particular to one table, in one record.
use Rattle.std.specs.{Prelude.{◌≡◌, ℕ, Bool, List, ◌∷◌, map}, declared.cmp.Ordering.{Ordering}}
use Rattle.sqlite.specs.{Effect.{Database}, Schema.{Schema}, Table.{Table}, Tree.{Trees, rowid}}
use Rattle.sqlite_schema.specs.declared.schema.Column.{Column}
use Rattle.sqlite_value.specs.{Order.{Row, column, bytes}, declared.value.Value.{Value, TheVariants.{Text}}}
use Rattle.plant_store_columns.specs.{Forms.{table_of}, Kept.{by_columns, kept, is_of}, Tidy.{IsTidy}}

-- X is a row without its unit, K its key. The first column is the unit's code, and begins the key.
pub record Shape (X K : Type 0) : Type 0 where
  pub name : List ℕ
  -- which of the schema's tables it is
  pub place : ℕ
  -- which of the database's trees has its rows
  pub tree : ℕ
  pub columns : List Column
  -- the columns of the key after the unit's
  pub keys : List ℕ
  pub order : K → K → Ordering
  pub key : X → K
  -- the cells of a row after the unit's, and the row that cells are read as
  pub cells : X → Row
  pub read : Row → X

module _ {X K : Type 0} (s : Shape X K) where
  abbrev pub table_in : Table
  table_in = table_of s.name s.tree s.columns (1 ∷ s.keys)

  abbrev pub row_in : Value → List ℕ → X → Row
  row_in id unit x = id ∷ Text unit ∷ s.cells x

  -- a row as it is written: nothing is lost when it is read
  abbrev pub IsRowIn : Row → Type 0
  IsRowIn r = r ≡ rowid r ∷ Text (bytes (column r 1)) ∷ s.cells (s.read r)

  -- a unit's rows, in the order of their keys
  abbrev pub rows_in : List ℕ → List Row → List X
  rows_in unit rows = map s.read (kept (by_columns (1 ∷ s.keys)) (is_of unit) rows)

  -- the rows that pass a test, of all units, in the order of their keys
  abbrev pub rows_passing : (Row → Bool) → List Row → List X
  rows_passing p rows = map s.read (kept (by_columns (1 ∷ s.keys)) p rows)

-- tables of these shapes, by their names
module _ {I : Type 0} (X K : I → Type 0) (shape : (i : I) → Shape (X i) (K i)) where
  -- the rows that a database has of a unit in one table
  abbrev pub seen : List ℕ → Trees → (i : I) → List (X i)
  seen unit trees i = rows_in (shape i) unit (trees (shape i).tree)

  -- a database with this schema that only these tables' statements have written
  pub record AreTables (schema : Schema) (db : Database) : Type 0 where
    pub same_schema : db.schema ≡ schema
    pub tidy : (i : I) → IsTidy (IsRowIn (shape i)) (1 ∷ (shape i).keys) (db.trees (shape i).tree)
