-- The fields of a head, as names and trimmed values, and a look-up that ignores ASCII case.
use Rattle.std.specs.{Prelude.{◌≡◌, ◌≤◌, ℕ, List, [], ◌∷◌, map, filter, length, Bool}, Str.{str_eq_ignore_ascii_case}}
use Rattle.httparse.specs.{Grammar.{RequestHead}, Spans.{name_and_value}}
use Rattle.plant_wire_head.specs.declared.fields.Lookup.{Lookup, TheVariants.{Missing, Once, Repeated}}

-- a field's name, and its value without the spaces and tabs at its ends
abbrev pub NameValue : Type 0
NameValue = List ℕ × List ℕ

abbrev pub fields_of : RequestHead → List NameValue
fields_of head = map name_and_value head.fields

-- the field has this name, ignoring ASCII case
abbrev pub is_named : List ℕ → NameValue → Bool
is_named name field = str_eq_ignore_ascii_case field.0 name

-- the values of the fields of this name, in order
abbrev pub values_named : List ℕ → List NameValue → List (List ℕ)
values_named name fields = map (λ field. field.1) (filter (is_named name) fields)

-- what `field` returns, given the values of the fields of that name
abbrev pub IsLookup : List (List ℕ) → Lookup → Type 0
IsLookup values Missing = values ≡ []
IsLookup values (Once value) = values ≡ value.now ∷ []
IsLookup values Repeated = 2 ≤ length values
