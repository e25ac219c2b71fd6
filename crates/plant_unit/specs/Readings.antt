-- What is read from rows, if nothing of it is missing.
use Rattle.std.specs.{List.{list_any}, Prelude.{Bool, Option, false, not, is_some, length, option_map, true, unwrap_or, ℕ, ◌&&◌, ◌==◌}}
use Rattle.plant_model.specs.{Facts.{Facts}, Refusals.{has_row}}
use Rattle.plant_model.specs.steps.RowFacts.{change_found, change_read, record_read, kind_read, matrix_read, sheet_read}
use Rattle.plant_model.specs.declared.{reply.ChangeRow.{ChangeRow}, rows.{ChangeEntry.{ChangeEntry}, ChangeTopic.{ChangeTopic}}}
use Rattle.plant_model.specs.declared.rows.{ChangeTopic.TheVariants.{Limit, Matrix, Record}, RecordEntry.{RecordEntry}, UnitRows.{UnitRows}}
use Rattle.plant_ration.specs.{Grid.{Grid}, Matrix.{is_matrix}, declared.change.{ChangeKind.{ChangeKind}, Sheet.{Sheet}}}
use Rattle.plant_types.specs.Options.{when}

-- the matrix with a number
abbrev pub is_matrix_at : UnitRows → ℕ → Bool
is_matrix_at rows n = is_matrix (matrix_read rows n).limits (matrix_read rows n).cells

abbrev pub matrix_found : UnitRows → ℕ → Option Grid
matrix_found rows n = when (is_matrix_at rows n) (matrix_read rows n)

-- the matrix has no cells among the rows
abbrev pub is_left_out : UnitRows → ℕ → Bool
is_left_out rows n = length (matrix_read rows n).cells == 0

-- a change has the columns of a sheet
abbrev pub has_sheet : ChangeEntry → Bool
has_sheet c = is_some c.cause && is_some c.consequence && is_some c.remedy && is_some c.severity && is_some c.response_s

abbrev pub sheet_found : ChangeEntry → Option Sheet
sheet_found c = when (has_sheet c) (sheet_read c)

-- a change has what its kind needs
abbrev pub has_kind : UnitRows → ChangeEntry → ChangeTopic → Bool
has_kind rows c Record = is_some c.tag && has_sheet c
has_kind rows c Matrix = is_matrix_at rows c.number
has_kind rows c Limit = is_some c.tag && is_some c.max_s

abbrev pub kind_found : UnitRows → ChangeEntry → ChangeTopic → Option ChangeKind
kind_found rows c topic = when (has_kind rows c topic) (kind_read rows c topic)

abbrev pub change_whole : UnitRows → ChangeEntry → Option ChangeRow
change_whole rows c = when (has_kind rows c c.kind_no) (change_read rows c)

-- the change that a record came from
abbrev pub source_found : UnitRows → RecordEntry → Option ChangeEntry
source_found rows r = change_found rows r.change_no

-- the change that a record came from, if it is among the rows, has the columns of a sheet
abbrev pub has_its_sheet : UnitRows → RecordEntry → Bool
has_its_sheet rows r = unwrap_or (option_map has_sheet (change_found rows r.change_no)) true

-- the matrix has no row for the severity of a record
unfoldable pub is_outside : Grid → UnitRows → RecordEntry → Bool
is_outside m rows r = unwrap_or (option_map (λ x. not (has_row m x.severity)) (record_read rows r)) false

-- the matrix has no row for the severity of some record
abbrev pub has_outside : Grid → Facts → Bool
has_outside m f = list_any (λ r. not (has_row m r.severity)) f.rationales
