-- Rows with a number: limits and cells have that of their matrix, changes their own.
use Rattle.std.specs.{BTreeSet.{BTreeSet, contains}, List.Sorted.{IsNonDecreasingBy}, Ordering.{nat_cmp}, Prelude.{List, filter, ℕ}}
use Rattle.plant_model.specs.Histories.{same_number}

-- the numbers of the rows do not fall
abbrev pub NumbersRise : {X : Type 0} → (X → ℕ) → List X → Type 0
NumbersRise number rows = IsNonDecreasingBy number rows

-- the rows with a number
abbrev pub of_number : {X : Type 0} → (X → ℕ) → ℕ → List X → List X
of_number number n rows = filter (λ r. same_number (number r) n) rows

-- the rows whose numbers are in the set
abbrev pub of_numbers : {X : Type 0} → (X → ℕ) → BTreeSet ℕ → List X → List X
of_numbers number numbers rows = filter (λ r. contains nat_cmp numbers (number r)) rows
