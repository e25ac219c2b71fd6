-- Lines of columns, as in the printed lists.
use Rattle.std.specs.{List.{join_with_byte}, Prelude.{ℕ, ◌-◌, List, [], ◌∷◌, ◌++◌, length, replicate}}

-- a column padded with spaces on the right
abbrev pub left : ℕ → List ℕ → List ℕ
left width column = column ++ replicate (width - length column) 32

-- a column padded with spaces on the left
abbrev pub right : ℕ → List ℕ → List ℕ
right width column = replicate (width - length column) 32 ++ column

-- the columns, with a space between each two, and a line feed
abbrev pub line : List (List ℕ) → List ℕ
line columns = join_with_byte 32 columns ++ 10 ∷ []
