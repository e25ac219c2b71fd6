-- What the fields of a row are read as.
use Rattle.std.specs.{Cmp.Lexicographic.{pointwise}, List.{list_all}}
use Rattle.std.specs.Prelude.{ℕ, Bool, ◌&&◌, not, nat_lt, nat_eq, ◌==◌, if◌then◌else◌, List, [], ◌∷◌, length, Option, Some, None, codes, slice_index, is_none, unwrap_or, slice_get}
use Rattle.std.specs.Str.{is_utf8}
use Rattle.plant_types.specs.{Limits.{max_file_rows}, Moment.{decimal_value, moment_of}, Text.{is_digit, is_between, tag_of}}
use Rattle.plant_alarm.specs.declared.event.{Event.{Event}, EventKind.{EventKind, TheVariants.{Act, Rtn, Ack, Reset, Sup, Unsup}}}
use Rattle.plant_import.specs.declared.bad_file.Cause.{Cause, TheVariants.{FieldCount, NotUtf8, BadNumber, BadMoment, BadTag, BadEvent, TooLong}}

abbrev pub same_bytes : List ℕ → List ℕ → Bool
same_bytes = pointwise nat_eq

-- one to twelve digits, the first not 0
abbrev pub event_number_of : List ℕ → Option ℕ
event_number_of field =
    if is_between 1 12 (length field) && list_all is_digit field && not (slice_index field 0 == 48) then
    Some (decimal_value field) else None

-- the name of a kind
abbrev pub event_kind_of : List ℕ → Option EventKind
event_kind_of field =
    if same_bytes field (codes "ACT") then Some Act
    else if same_bytes field (codes "RTN") then Some Rtn
    else if same_bytes field (codes "ACK") then Some Ack
    else if same_bytes field (codes "RESET") then Some Reset
    else if same_bytes field (codes "SUP") then Some Sup
    else if same_bytes field (codes "UNSUP") then Some Unsup
    else None

-- the field at a place, empty past the last
abbrev pub field : List (List ℕ) → ℕ → List ℕ
field fields i = unwrap_or (slice_get fields i) []

-- the first cause whose condition holds
abbrev pub first_cause : List (Bool × Cause) → Option Cause
first_cause [] = None
first_cause ((holds, cause) ∷ rest) = if holds then Some cause else first_cause rest

-- the fault of the k-th row, if any: the first of these
unfoldable pub row_fault : ℕ → List (List ℕ) → Option Cause
row_fault k fields =
    first_cause ((not (length fields == 4), FieldCount)
    ∷ (not (list_all is_utf8 fields), NotUtf8)
    ∷ (is_none (event_number_of (field fields 0)), BadNumber)
    ∷ (is_none (moment_of (field fields 1)), BadMoment)
    ∷ (is_none (tag_of (field fields 2)), BadTag)
    ∷ (is_none (event_kind_of (field fields 3)), BadEvent)
    ∷ (nat_lt max_file_rows k, TooLong)
    ∷ [])

-- the event of a row
unfoldable pub event_in : List (List ℕ) → Event
event_in fields =
    record {
      seq = unwrap_or (event_number_of (field fields 0)) 0;
      moment = unwrap_or (moment_of (field fields 1)) 0;
      tag = unwrap_or (tag_of (field fields 2)) [];
      kind = unwrap_or (event_kind_of (field fields 3)) Act;
    }
