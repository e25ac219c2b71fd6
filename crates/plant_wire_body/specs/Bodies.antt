-- What a body asks for: a definition over its bytes, one for each call that has a body.
use Rattle.std.specs.Prelude.{ℕ, List, Result, Ok, Err, codes}
use Rattle.serde_json.specs.Data.{Data}
use Rattle.plant_ration.specs.{Grid.{Grid}, Matrix.{matrix_of}, declared.cell.{Cell.{Cell}, MatrixFault.{MatrixFault}}}
use Rattle.plant_wire_body.specs.Lists.{numbers_at, rows_from}
use Rattle.plant_wire_body.specs.Members.{value_of, or_body, ◌>>=◌, person_at, tag_at, words_at, seconds_at, truth_at, role_at, end_at, quota_at, tenure_of}
use Rattle.plant_wire_body.specs.declared.bodies.{Granting.{Granting}, Opening.{Opening}, Registration.{Registration}, TimedShelving.{TimedShelving}}
use Rattle.plant_wire_body.specs.declared.{bodies.Withdrawal.{Withdrawal}, members.Unfit.{Unfit, TheVariants.{Matrix}}}

-- the matrix, or why the table is not one
abbrev pub matrix_or : Result Grid MatrixFault → Result Grid Unfit
matrix_or (Ok grid) = Ok grid
matrix_or (Err fault) = Err (Matrix fault)

abbrev pub matrix_from : List ℕ → List (List Cell) → Result Grid Unfit
matrix_from limits rows = matrix_or (matrix_of limits rows)

-- the opening of a unit; that its table is a matrix is checked last
unfoldable pub opening_in : Data → Result Opening Unfit
opening_in d = do
  steward ← or_body (person_at (codes "steward") d)
  limits ← or_body (numbers_at (codes "bands") d)
  rows ← or_body (rows_from (codes "cells") d)
  quota ← or_body (quota_at (codes "quota") d)
  matrix ← matrix_from limits rows
  Ok (record { steward = steward; matrix = matrix; quota = quota })

-- a grant
unfoldable pub granting_in : Data → Result Granting Unfit
granting_in d = do
  person ← or_body (person_at (codes "person") d)
  role ← or_body (role_at (codes "role") d)
  until ← or_body (end_at (codes "end") d)
  tenure ← or_body (tenure_of role until)
  Ok (record { person = person; tenure = tenure })

-- a withdrawal
unfoldable pub withdrawal_in : Data → Result Withdrawal Unfit
withdrawal_in d = do
  person ← or_body (person_at (codes "person") d)
  role ← or_body (role_at (codes "role") d)
  Ok (record { person = person; role = role })

-- the registration of an alarm
unfoldable pub registration_in : Data → Result Registration Unfit
registration_in d = do
  tag ← or_body (tag_at (codes "tag") d)
  latching ← or_body (truth_at (codes "latching") d)
  max ← or_body (seconds_at (codes "max") d)
  Ok (record { tag = tag; latching = latching; max = max })

-- a timed shelving
unfoldable pub timed_shelving_in : Data → Result TimedShelving Unfit
timed_shelving_in d = do
  seconds ← or_body (seconds_at (codes "seconds") d)
  words ← or_body (words_at (codes "words") d)
  Ok (record { seconds = seconds; words = words })

-- a one-shot shelving: the words only
abbrev pub reason_in : Data → Result (List ℕ) Unfit
reason_in d = or_body (words_at (codes "words") d)

-- the same over the bytes of a body
abbrev pub read_by : {A : Type 0} → (Data → Result A Unfit) → List ℕ → Result A Unfit
read_by reads bytes = or_body (value_of bytes) >>= reads
