-- The segments of a path.
use Rattle.std.specs.Prelude.{ℕ, zero, suc, List, [], ◌∷◌, length, slice_index, ◌==◌, nat_le, Bool, ◌&&◌, not, if◌then◌else◌, Option, Some, None, Result, ok_or}
use Rattle.std.specs.Str.Parse.{digits_value}
use Rattle.plant_types.specs.{Moment.{moment_of}, Text.{unit_code_of, tag_of}}
use Rattle.plant_wire_call.specs.{Lengths.{is_numeral}, declared.causes.Cause.{Cause, TheVariants.{BadPath}}}

-- the bytes up to the first slash
abbrev pub until_slash : List ℕ → List ℕ
until_slash [] = []
until_slash (b ∷ rest) = if b == 47 then [] else b ∷ until_slash rest

-- the bytes after the first slash
abbrev pub after_slash : List ℕ → List ℕ
after_slash [] = []
after_slash (b ∷ rest) = if b == 47 then rest else after_slash rest

-- the bytes after the first n slashes
unfoldable pub after_slashes : ℕ → List ℕ → List ℕ
after_slashes zero path = path
after_slashes (suc n) path = after_slash (after_slashes n path)

-- the segment after the nth slash; a path begins with the first slash
abbrev pub segment : ℕ → List ℕ → List ℕ
segment n path = until_slash (after_slashes n path)

-- /units/{unit}
abbrev pub unit_in : List ℕ → Result (List ℕ) Cause
unit_in path = ok_or (unit_code_of (segment 2 path)) BadPath

-- /units/{unit}/alarms/{tag}
abbrev pub tag_in : List ℕ → Result (List ℕ) Cause
tag_in path = ok_or (tag_of (segment 4 path)) BadPath

-- /units/{unit}/floods/{begin}/{until}
abbrev pub moment_at : ℕ → List ℕ → Result ℕ Cause
moment_at n path = ok_or (moment_of (segment n path)) BadPath

abbrev pub begin_in : List ℕ → Result ℕ Cause
begin_in path = moment_at 4 path

abbrev pub until_in : List ℕ → Result ℕ Cause
until_in path = moment_at 5 path

-- 1 to 5 digits, the first not 0
abbrev pub is_change_number : List ℕ → Bool
is_change_number text = is_numeral text && nat_le (length text) 5 && not (slice_index text 0 == 48)

abbrev pub change_number_of : List ℕ → Option ℕ
change_number_of text = if is_change_number text then Some (digits_value 10 text) else None

-- /units/{unit}/changes/{n}
abbrev pub change_number_in : List ℕ → Result ℕ Cause
change_number_in path = ok_or (change_number_of (segment 4 path)) BadPath
