-- What the text of a query reads, and what a statement has written.
use Rattle.std.specs.Prelude.{List, [], false, filter, map, suc, zero, ℕ, ◌∷◌, ◌≡◌}
use Rattle.sqlite.specs.{Effect.{Database, Reads as Answers}, Listing.{reads_listing, understood}, Schema.{Schema}, Tree.{Trees}}
use Rattle.sqlite.proofs.Callers.{IsPlain, command_of}
use Rattle.sqlite_value.specs.{Order.{Row as Line}, declared.value.Value.TheVariants.{Text}}
use Rattle.plant_store_columns.specs.{Shown.{columns}, Tables.{AreBooks, books_schema}}
use Rattle.plant_model.specs.{Histories.{same_number}, declared.rows.RowEdit.{RowEdit}}
use Rattle.plant_types.specs.Names.{Name, same_name}
use Rattle.plant_store_columns.specs.Codes as codes

-- the text of a query under this schema, whose answers in its databases are decoded to these rows
pub record ReadsIn (schema : Schema) (AreIts : Database → Type 0) {X : Type 0} (width : ℕ) (cells : X → Line)
    (rows : Trees → List X) (params : Line) (text : List ℕ) : Type 0 where
  pub plain : IsPlain (understood schema text)
  pub unlisted : reads_listing schema text ≡ false
  pub decoded : (db : Database) → AreIts db → (lines : List Line)
      → Answers (command_of (understood schema text)) db params lines → (read : List X)
      → map (columns width) lines ≡ map cells read → read ≡ rows db.trees

-- under this schema
abbrev pub Reads : {X : Type 0} → ℕ → (X → Line) → (Trees → List X) → Line → List ℕ → Type 0
Reads width cells rows params text = ReadsIn books_schema AreBooks width cells rows params text

-- the text reads all rows that a unit has in a table
abbrev pub ReadsUnit : {X : Type 0} → ℕ → (X → Line) → (Name → Trees → List X) → List ℕ → Type 0
ReadsUnit width cells seen text = (u : Name) → Reads width cells (seen u) (Text u ∷ []) text

-- the text reads the rows with one tag that a unit has in a table
abbrev pub ReadsTag : {X : Type 0} → ℕ → (X → Line) → (Name → Trees → List X) → (X → Name) → List ℕ → Type 0
ReadsTag width cells seen tag_of text =
    (u tag : Name)
    → Reads width cells (λ trees. filter (λ r. same_name tag (tag_of r)) (seen u trees)) (Text u ∷ Text tag ∷ []) text

-- the text reads the rows with one number that a unit has in a table
abbrev pub ReadsNumber : {X : Type 0} → ℕ → (X → Line) → (Name → Trees → List X) → (X → ℕ) → List ℕ → Type 0
ReadsNumber width cells seen number_of text =
    (u : Name) (n : ℕ)
    → Reads width cells (λ trees. filter (λ r. same_number n (number_of r)) (seen u trees))
    (Text u ∷ codes.number n ∷ []) text

-- the changes made by a statement, by the number of rows that it wrote: none, or this one
abbrev pub changes_written : ℕ → RowEdit → List RowEdit
changes_written zero change = []
changes_written (suc n) change = change ∷ []
