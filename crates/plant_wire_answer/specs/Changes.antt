-- The bodies of a record and of a change.
use Rattle.std.specs.Prelude.{ℕ, List, ◌++◌, map, Option, Some, None, option_map, codes, decimal}
use Rattle.plant_ration.specs.{Grid.{Grid}, declared.{cell.Cell.{Cell}, change.ChangeKind.{ChangeKind, TheVariants.{Rationale, Matrix, Limit}}}}
use Rattle.plant_ration.specs.declared.change.Sheet.{Sheet}
use Rattle.plant_model.specs.declared.reply.{ChangeRow.{ChangeRow}, RecordRow.{RecordRow}}
use Rattle.plant_report.specs.{Moments.{moment_text}, Texts.{cell_name}}
use Rattle.plant_wire_answer.specs.{Json.{quoted, quoted_or_null, listed}, Names.{kind_name, change_state_name}}

-- an alarm's record
unfoldable pub record_body : RecordRow → List ℕ
record_body r =
    codes "{\"action\":" ++ quoted r.action
    ++ codes ",\"cause\":" ++ quoted r.cause
    ++ codes ",\"change\":" ++ decimal r.change
    ++ codes ",\"consequence\":" ++ quoted r.consequence
    ++ codes ",\"priority\":" ++ quoted (cell_name r.priority)
    ++ codes ",\"response\":" ++ decimal r.response
    ++ codes ",\"revision\":" ++ decimal r.revision
    ++ codes ",\"severity\":" ++ decimal r.severity
    ++ codes ",\"tag\":" ++ quoted r.tag
    ++ codes "}"

-- what is proposed for a record
unfoldable pub sheet_object : Sheet → List ℕ
sheet_object s =
    codes "{\"action\":" ++ quoted s.action
    ++ codes ",\"cause\":" ++ quoted s.cause
    ++ codes ",\"consequence\":" ++ quoted s.consequence
    ++ codes ",\"response\":" ++ decimal s.response
    ++ codes ",\"severity\":" ++ decimal s.severity
    ++ codes "}"

-- a row of a matrix, the shortest band first
abbrev pub row_list : List Cell → List ℕ
row_list row = listed (map (λ cell. quoted (cell_name cell)) row)

-- a matrix, in the form that the opening of a unit takes
unfoldable pub matrix_object : Grid → List ℕ
matrix_object matrix =
    codes "{\"bands\":" ++ listed (map decimal matrix.limits)
    ++ codes ",\"cells\":" ++ listed (map row_list matrix.cells)
    ++ codes "}"

-- a limit of shelves
unfoldable pub limit_object : ℕ → List ℕ
limit_object max = codes "{\"max\":" ++ decimal max ++ codes "}"

-- the proposed content
abbrev pub content_object : ChangeKind → List ℕ
content_object (Rationale tag sheet) = sheet_object sheet
content_object (Matrix matrix) = matrix_object matrix
content_object (Limit tag max) = limit_object max

-- the alarm that the change concerns; a change of the matrix concerns none
abbrev pub changed_tag : ChangeKind → Option (List ℕ)
changed_tag (Rationale tag sheet) = Some tag
changed_tag (Matrix matrix) = None
changed_tag (Limit tag max) = Some tag

-- a change
unfoldable pub change_body : ChangeRow → List ℕ
change_body c =
    codes "{\"base\":" ++ decimal c.base
    ++ codes ",\"content\":" ++ content_object c.kind
    ++ codes ",\"decided\":" ++ quoted_or_null (option_map moment_text c.decided)
    ++ codes ",\"decider\":" ++ quoted_or_null c.decider
    ++ codes ",\"kind\":" ++ quoted (kind_name c.kind)
    ++ codes ",\"number\":" ++ decimal c.number
    ++ codes ",\"proposed\":" ++ quoted (moment_text c.proposed)
    ++ codes ",\"proposer\":" ++ quoted c.proposer
    ++ codes ",\"state\":" ++ quoted (change_state_name c.state)
    ++ codes ",\"tag\":" ++ quoted_or_null (changed_tag c.kind)
    ++ codes "}"
