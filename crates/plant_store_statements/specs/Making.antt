-- The tables while they are made.
use Rattle.std.specs.{List.{AllByRecursion}, Prelude.{[], ◌≡◌}}
use Rattle.sqlite.specs.{Effect.{Database, IsDatabase}, Schema.{Schema}, Tree.{Trees}}
use Rattle.plant_store_statements.specs.Changes.{IsOfficeOf}
use Rattle.plant_store_columns.specs.{Tables.{AreBooks, shape}, declared.tables.TableKind.{TableKind}}
use Rattle.plant_types.specs.Names.{Name}

-- the tables of this schema exist, and have no rows
pub record AreEmpty (schema : Schema) (db : Database) : Type 0 where
  pub same_schema : db.schema ≡ schema
  pub empty : AllByRecursion (λ t. db.trees t.tree ≡ []) schema.tables

-- the books of an office in which no unit was opened
pub record AreNew (admin : Name) (db : Database) : Type 0 where
  pub books : AreBooks db
  pub office : IsOfficeOf admin db
  pub empty : (i : TableKind) → db.trees (shape i).tree ≡ []
  -- the engine can open it
  pub database : IsDatabase db

-- these trees are books of that kind
abbrev pub AreNewTrees : Name → Trees → Type 0
AreNewTrees admin db = (d : Database) × (d.trees ≡ db) × AreNew admin d
