-- What a request asks for: a definition over its head's parts and its body.
use Rattle.std.specs.Prelude.{ℕ, List, [], ◌∷◌, codes, Result, Ok, Err, ok_or}
use Rattle.plant_types.specs.{Moment.{moment_of}, Names.{Name}, Text.{person_of}}
use Rattle.plant_import.specs.Reading.{file_read}
use Rattle.plant_model.specs.declared.{call.{Call.{Call}, Request.{Request}}, kinds.CallKind.{CallKind}}
use Rattle.plant_wire_route.specs.Routes.{route_of}
use Rattle.plant_wire_body.specs.Bodies.{read_by, opening_in, granting_in, withdrawal_in, registration_in, timed_shelving_in, reason_in}
use Rattle.plant_wire_body.specs.Proposals.{proposal_in}
use Rattle.plant_wire_head.specs.Fields.{NameValue, values_named}
use Rattle.plant_wire_call.specs.{Causes.{of_body, ◌>>=◌}, Path.{unit_in, tag_in, begin_in, until_in, change_number_in}, declared.causes.Cause.{Cause}}
use Rattle.plant_wire_call.specs.declared.causes.Cause.TheVariants.{NoRoute, BadPerson, BadMoment}
use Rattle.plant_model.specs.declared.call.Request.TheVariants as request
use Rattle.plant_model.specs.declared.kinds.CallKind.TheVariants as kind

-- the value of the field, which comes once and is a person
abbrev pub person_said : List (List ℕ) → Result (List ℕ) Cause
person_said [] = Err BadPerson
person_said (text ∷ []) = ok_or (person_of text) BadPerson
person_said (text ∷ other ∷ texts) = Err BadPerson

-- the value of the field, which comes once and is a moment
abbrev pub moment_said : List (List ℕ) → Result ℕ Cause
moment_said [] = Err BadMoment
moment_said (text ∷ []) = ok_or (moment_of text) BadMoment
moment_said (text ∷ other ∷ texts) = Err BadMoment

-- a request of a unit and one thing in it, which the path names
abbrev pub of_one : {A : Type 0} → (List ℕ → Result A Cause) → (Name → A → Request) → List ℕ → Result Request Cause
of_one thing_in make path = do
  unit ← unit_in path
  thing ← thing_in path
  Ok (make unit thing)

-- a request of a unit and two moments, which the path names
abbrev pub floods_in : List ℕ → Result Request Cause
floods_in path = do
  unit ← unit_in path
  begin ← begin_in path
  until ← until_in path
  Ok (request.Floods unit begin until)

-- the request of a kind, by the path and the body
unfoldable pub request_in : CallKind → List ℕ → List ℕ → Result Request Cause
request_in kind.OpenUnit path body = do
  unit ← unit_in path
  opening ← of_body (read_by opening_in body)
  Ok (request.OpenUnit unit opening.steward opening.matrix opening.quota)
request_in kind.Grant path body = do
  unit ← unit_in path
  granting ← of_body (read_by granting_in body)
  Ok (request.Grant unit granting.person granting.tenure)
request_in kind.Withdraw path body = do
  unit ← unit_in path
  withdrawal ← of_body (read_by withdrawal_in body)
  Ok (request.Withdraw unit withdrawal.person withdrawal.role)
request_in kind.Register path body = do
  unit ← unit_in path
  registration ← of_body (read_by registration_in body)
  Ok (request.Register unit registration.tag registration.latching registration.max)
request_in kind.Import path body = do
  unit ← unit_in path
  Ok (request.Import unit (file_read body))
request_in kind.TimedShelve path body = do
  unit ← unit_in path
  tag ← tag_in path
  shelving ← of_body (read_by timed_shelving_in body)
  Ok (request.TimedShelve unit tag shelving.seconds shelving.words)
request_in kind.OneShotShelve path body = do
  unit ← unit_in path
  tag ← tag_in path
  words ← of_body (read_by reason_in body)
  Ok (request.OneShotShelve unit tag words)
request_in kind.Unshelve path body = of_one tag_in request.Unshelve path
request_in kind.RemoveFromService path body = do
  unit ← unit_in path
  tag ← tag_in path
  words ← of_body (read_by reason_in body)
  Ok (request.RemoveFromService unit tag words)
request_in kind.PlaceInService path body = of_one tag_in request.PlaceInService path
request_in kind.Propose path body = do
  unit ← unit_in path
  proposal ← of_body (read_by proposal_in body)
  Ok (request.Propose unit proposal)
request_in kind.WithdrawChange path body = of_one change_number_in request.WithdrawChange path
request_in kind.Approve path body = of_one change_number_in request.Approve path
request_in kind.Reject path body = of_one change_number_in request.Reject path
request_in kind.Status path body = of_one tag_in request.Status path
request_in kind.RecordOf path body = of_one tag_in request.RecordOf path
request_in kind.ChangeOf path body = of_one change_number_in request.ChangeOf path
request_in kind.Alarms path body = unit_in path >>= λ unit. Ok (request.Alarms unit)
request_in kind.Shelves path body = unit_in path >>= λ unit. Ok (request.Shelves unit)
request_in kind.Standing path body = unit_in path >>= λ unit. Ok (request.Standing unit)
request_in kind.Floods path body = floods_in path
request_in kind.MyUnits path body = Ok request.MyUnits
request_in kind.MyShelves path body = Ok request.MyShelves

-- the call of a request, or the first cause for which it is malformed, looked for in this order: the route, the person,
-- the moment, the path, the body
unfoldable pub call_in : List ℕ → List ℕ → List NameValue → List ℕ → Result Call Cause
call_in method target fields body = do
  kind ← ok_or (route_of method target) NoRoute
  person ← person_said (values_named (codes "x-person") fields)
  moment ← moment_said (values_named (codes "x-moment") fields)
  request ← request_in kind target body
  Ok (record { person = person; moment = moment; request = request })
