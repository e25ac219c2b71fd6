-- The rows of a file, or its first fault.
use Rattle.std.specs.List.{enumerate_from}
use Rattle.std.specs.Prelude.{ℕ, ◌+◌, Bool, ◌&&◌, ◌==◌, if◌then◌else◌, List, [], ◌∷◌, length, Option, Some, None, Result, Ok, Err, codes, slice_get, option_map, map, filter_map}
use Rattle.csv.specs.Reading.{default_config, strip_bom, records}
use Rattle.plant_alarm.specs.declared.event.Event.{Event}
use Rattle.plant_import.specs.{Fields.{same_bytes, field, row_fault, event_in}, declared.bad_file.{BadFile.{BadFile}, Cause.{Cause}}}
use Rattle.plant_import.specs.declared.bad_file.Cause.TheVariants.{Header}

-- the first record of each file
abbrev pub is_header : List (List ℕ) → Bool
is_header fields =
    (length fields == 4) && same_bytes (field fields 0) (codes "seq") && same_bytes (field fields 1) (codes "moment")
    && same_bytes (field fields 2) (codes "tag") && same_bytes (field fields 3) (codes "event")

abbrev pub bad : ℕ → Cause → BadFile
bad line cause = record { line = line; cause = cause }

-- the faults of the rows, in order; the k-th row is line k + 1
abbrev pub row_faults : List (ℕ × List (List ℕ)) → List BadFile
row_faults rows = filter_map (λ e. option_map (bad (e.0 + 1)) (row_fault e.0 e.1)) rows

-- a row's event, or its fault
abbrev pub event_or : Option Cause → List (List ℕ) → Result Event Cause
event_or (Some cause) fields = Err cause
event_or None fields = Ok (event_in fields)

abbrev pub row_read : ℕ → List (List ℕ) → Result Event Cause
row_read k fields = event_or (row_fault k fields) fields

-- the rows' events, or the first fault
abbrev pub events_or : Option BadFile → List (List (List ℕ)) → Result (List Event) BadFile
events_or (Some fault) rows = Err fault
events_or None rows = Ok (map event_in rows)

abbrev pub rows_read : List (List (List ℕ)) → Result (List Event) BadFile
rows_read rows = events_or (slice_get (row_faults (enumerate_from 1 rows)) 0) rows

abbrev pub records_read : List (List (List ℕ)) → Result (List Event) BadFile
records_read [] = Err (bad 1 Header)
records_read (first ∷ rows) = if is_header first then rows_read rows else Err (bad 1 Header)

-- what a file is read as
unfoldable pub file_read : List ℕ → Result (List Event) BadFile
file_read bytes = records_read (records default_config (strip_bom bytes))
