-- JSON as in answers: compact, with the members in the byte order of their names.
use Rattle.std.specs.{List.{join_with_byte}, Prelude.{ℕ, Bool, List, [], ◌∷◌, ◌++◌, Option, Some, None, codes, ◌==◌, ◌||◌, if◌then◌else◌, flat_map}}

-- a byte of a string; a quote or a backslash is written with a backslash before it
abbrev pub escaped : ℕ → List ℕ
escaped b = if b == 34 || b == 92 then 92 ∷ b ∷ [] else b ∷ []

-- a string
unfoldable pub quoted : List ℕ → List ℕ
quoted text = codes "\"" ++ flat_map escaped text ++ codes "\""

abbrev pub truth : Bool → List ℕ
truth b = if b then codes "true" else codes "false"

-- the values, each after a comma
abbrev pub after_commas : {A : Type 0} → (A → List ℕ) → List A → List ℕ
after_commas write values = flat_map (λ x. 44 ∷ write x) values

-- a list of values, with a comma between each two
abbrev pub listed : List (List ℕ) → List ℕ
listed values = codes "[" ++ join_with_byte 44 values ++ codes "]"

-- a string, or null for None
abbrev pub quoted_or_null : Option (List ℕ) → List ℕ
quoted_or_null None = codes "null"
quoted_or_null (Some text) = quoted text
