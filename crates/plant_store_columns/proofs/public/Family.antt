-- Several tables, each with its shape, in one schema: what a put into one, a change of a row or a remove out of one leaves of all.
use Rattle.std.proofs.Common.{◌≡◌, ◌≢◌, ◌⊎◌, inl, inr, ℕ, List, ◌∷◌, slice_get, Some, sym, ap, ◌∙◌, subst}
use Rattle.std.proofs.lemmas.Bool.{cases_eq}
use Rattle.sqlite.specs.{Effect.{Database}, Schema.{Schema}, Table.{Table}, Tree.{Trees}}
use Rattle.sqlite_rules.proofs.ListLemmas.{all_has, has_got}
use Rattle.plant_store_columns.{specs.{Shape.{Shape, table_in, IsRowIn, seen, AreTables}, Tidy.{IsTidy}}, proofs.public.Changes.{KeepsOthers}}
use Rattle.plant_store_columns.proofs.public.Shapes.{ChangesRows}

-- the rows of a table that is listed, where another was written
pub kept_at : (schema : Schema) (tree : ℕ) (old new : Trees) → KeepsOthers schema tree old new → (place : ℕ) (t : Table)
    → slice_get schema.tables place ≡ Some t → t.tree ≢ tree → new t.tree ≡ old t.tree
kept_at schema tree old new kept place t e other =
    all_has (λ t. t.tree ≢ tree → new t.tree ≡ old t.tree) schema.tables t kept (has_got schema.tables place t e) other

module _ {I : Type 0} (X K : I → Type 0) (shape : (i : I) → Shape (X i) (K i)) (schema : Schema) where
  -- each table has a tree of its own, and the schema lists it
  pub record AreListed : Type 0 where
    pub which : ℕ → I
    pub placed : (i : I) → which (shape i).tree ≡ i
    pub at : (i : I) → slice_get schema.tables (shape i).place ≡ Some (table_in (shape i))

  -- one table is changed in one unit's rows, and nothing else is
  pub record Edits (i : I) (u : List ℕ) (change : List (X i) → List (X i)) (old new : Database) : Type 0 where
    pub tables : AreTables X K shape schema new
    pub mine : seen X K shape u new.trees i ≡ change (seen X K shape u old.trees i)
    pub other_units : (v : List ℕ) → v ≢ u → seen X K shape v new.trees i ≡ seen X K shape v old.trees i
    pub other_tables : (j : I) → j ≢ i → new.trees (shape j).tree ≡ old.trees (shape j).tree
    pub others : KeepsOthers schema (shape i).tree old.trees new.trees

  module _ (all : AreListed) where
    apart : (i j : I) → j ≢ i → (shape j).tree ≢ (shape i).tree
    apart i j other e = other (sym (all.placed j) ∙ ap all.which e ∙ all.placed i)

    pub same_table : (i j : I) → (j ≡ i) ⊎ (j ≢ i)
    same_table i j = go (cases_eq (shape j).tree (shape i).tree)
      where
        go : ((shape j).tree ≡ (shape i).tree) ⊎ ((shape j).tree ≢ (shape i).tree) → (j ≡ i) ⊎ (j ≢ i)
        go (inl same) = inl (sym (all.placed j) ∙ ap all.which same ∙ all.placed i)
        go (inr other) = inr (λ e. other (ap (λ k. (shape k).tree) e))

    elsewhere : (i j : I) (old new : Trees) → KeepsOthers schema (shape i).tree old new → j ≢ i → new (shape j).tree ≡ old (shape j).tree
    elsewhere i j old new kept other = kept_at schema (shape i).tree old new kept (shape j).place (table_in (shape j)) (all.at j) (apart i j other)

    tidy_all : (i : I) (old new : Database) → KeepsOthers schema (shape i).tree old.trees new.trees → AreTables X K shape schema old
        → IsTidy (IsRowIn (shape i)) (1 ∷ (shape i).keys) (new.trees (shape i).tree)
        → (j : I) → IsTidy (IsRowIn (shape j)) (1 ∷ (shape j).keys) (new.trees (shape j).tree)
    tidy_all i old new kept was now j = go (cases_eq (shape j).tree (shape i).tree)
      where
        go : ((shape j).tree ≡ (shape i).tree) ⊎ ((shape j).tree ≢ (shape i).tree)
            → IsTidy (IsRowIn (shape j)) (1 ∷ (shape j).keys) (new.trees (shape j).tree)
        go (inl same) =
            subst (λ k. IsTidy (IsRowIn (shape k)) (1 ∷ (shape k).keys) (new.trees (shape k).tree))
            (sym (all.placed i) ∙ ap all.which (sym same) ∙ all.placed j) now
        go (inr other) =
            subst (IsTidy (IsRowIn (shape j)) (1 ∷ (shape j).keys))
            (sym (kept_at schema (shape i).tree old.trees new.trees kept (shape j).place (table_in (shape j)) (all.at j) other)) (was.tidy j)

    -- what is changed in one table is changed in the database
    pub edits : (i : I) (u : List ℕ) (change : List (X i) → List (X i)) (old new : Database) → AreTables X K shape schema old
        → ChangesRows schema (shape i) u change old new → Edits i u change old new
    edits i u change old new was it = record {
      tables = record { same_schema = it.same_schema; tidy = tidy_all i old new it.others was it.tidy };
      mine = it.mine;
      other_units = it.other_units;
      other_tables = λ j other. elsewhere i j old.trees new.trees it.others other;
      others = it.others;
    }
