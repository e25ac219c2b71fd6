use Rattle.std.proofs.Common.{List, ◌++◌, ◌≡◌, ℕ}
use Rattle.plant_books.proofs.public.NumberRanges.{those_among}
use Rattle.plant_books.proofs.numbered.rows_of_numbers.Given as goal

abbrev pub invariant-loop-number : goal.invariant-loop-number
invariant-loop-number g l =
    (before : List ℕ) × (before ++ l.number-iterator ≡ l.initial.number-iterator) × (l.found ≡ those_among g.T.Numbered.number before l.rows)
