-- What the body of a proposal says: what is to be changed, to what, and the revision that it was drawn up for.
use Rattle.std.specs.Prelude.{ℕ, List, Result, Ok, Err, codes, if◌then◌else◌, bytes_eq}
use Rattle.serde_json.specs.Data.{Data}
use Rattle.plant_ration.specs.declared.change.{ChangeKind.{ChangeKind, TheVariants.{Rationale, Matrix, Limit}}, Proposal.{Proposal}, Sheet.{Sheet}}
use Rattle.plant_wire_body.specs.{Bodies.{matrix_from}, Lists.{numbers_at, rows_from}}
use Rattle.plant_wire_body.specs.{Members.{or_body, ◌>>=◌, string_at, tag_at, words_at, seconds_at, base_at, severity_at}, declared.members.Unfit.{Unfit}}
use Rattle.plant_wire_body.specs.declared.members.Unfit.TheVariants.{Body}

-- what is recorded of an alarm
unfoldable pub sheet_in : Data → Result Sheet Unfit
sheet_in d = do
  cause ← or_body (words_at (codes "cause") d)
  consequence ← or_body (words_at (codes "consequence") d)
  action ← or_body (words_at (codes "action") d)
  severity ← or_body (severity_at (codes "severity") d)
  response ← or_body (seconds_at (codes "response") d)
  Ok (record { cause = cause; consequence = consequence; action = action; severity = severity; response = response })

-- a proposal for the record of an alarm
unfoldable pub record_in : Data → Result ChangeKind Unfit
record_in d = do
  tag ← or_body (tag_at (codes "tag") d)
  sheet ← sheet_in d
  Ok (Rationale tag sheet)

-- a proposal for the unit's matrix; that its table is a matrix is checked last
unfoldable pub matrix_in : Data → Result ChangeKind Unfit
matrix_in d = do
  limits ← or_body (numbers_at (codes "bands") d)
  rows ← or_body (rows_from (codes "cells") d)
  matrix ← matrix_from limits rows
  Ok (Matrix matrix)

-- a proposal for the limit of an alarm's shelves
unfoldable pub limit_in : Data → Result ChangeKind Unfit
limit_in d = do
  tag ← or_body (tag_at (codes "tag") d)
  max ← or_body (seconds_at (codes "max") d)
  Ok (Limit tag max)

-- the change of the named kind
abbrev pub change_in : List ℕ → Data → Result ChangeKind Unfit
change_in kind d =
    if bytes_eq kind (codes "record") then record_in d
    else if bytes_eq kind (codes "matrix") then matrix_in d
    else if bytes_eq kind (codes "limit") then limit_in d
    else Err Body

-- a proposal; its base is read before the change, so that a fault of a matrix is reported only if all else is right
unfoldable pub proposal_in : Data → Result Proposal Unfit
proposal_in d = do
  name ← or_body (string_at (codes "kind") d)
  base ← or_body (base_at (codes "base") d)
  kind ← change_in name d
  Ok (record { kind = kind; base = base })
