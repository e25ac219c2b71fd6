-- The length of a request's body, from its header fields.
use Rattle.std.specs.{Char.{is_ascii_digit}, List.{list_all}}
use Rattle.std.specs.{Prelude.{ℕ, List, [], ◌∷◌, length, codes, Result, Ok, Err, Bool, ◌&&◌, nat_lt, if◌then◌else◌, not}, Str.Parse.{digits_value}}
use Rattle.plant_types.specs.Limits.{max_body}
use Rattle.plant_wire_head.specs.Fields.{NameValue, values_named}
use Rattle.plant_wire_call.specs.{Causes.{◌>>=◌}, declared.causes.Cause.{Cause, TheVariants.{LengthWrong, BodyTooLong, Chunked}}}

abbrev pub is_numeral : List ℕ → Bool
is_numeral text = nat_lt 0 (length text) && list_all is_ascii_digit text

abbrev pub length_in : List ℕ → Result ℕ Cause
length_in text =
    if not (is_numeral text) then Err LengthWrong
    else (if nat_lt max_body (digits_value 10 text) then Err BodyTooLong else Ok (digits_value 10 text))

-- without the field the length is 0
abbrev pub length_said : List (List ℕ) → Result ℕ Cause
length_said [] = Ok 0
length_said (text ∷ []) = length_in text
length_said (text ∷ other ∷ texts) = Err LengthWrong

abbrev pub unless_chunked : List (List ℕ) → ℕ → Result ℕ Cause
unless_chunked [] n = Ok n
unless_chunked (coding ∷ codings) n = Err Chunked

abbrev pub body_length_in : List NameValue → Result ℕ Cause
body_length_in fields =
    length_said (values_named (codes "content-length") fields) >>= unless_chunked
    (values_named (codes "transfer-encoding") fields)
