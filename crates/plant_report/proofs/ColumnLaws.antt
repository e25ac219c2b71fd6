-- Columns added one after another are a line.
use Rattle.std.proofs.Common.{◌≡◌, ℕ, List, [], ◌∷◌, ◌++◌, append_assoc}
use Rattle.plant_report.specs.Columns.{line}

-- a column, and then the rest of the line
pub column_then : (before with all column next : List ℕ) (others : List (List ℕ)) → with ≡ before ++ (column ++ 32 ∷ [])
    → all ≡ with ++ line (next ∷ others) → all ≡ before ++ line (column ∷ next ∷ others)
column_then before with all column next others e f = rw (f, e) (simp append_assoc)
