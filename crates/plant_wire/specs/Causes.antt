-- The answer to a malformed request.
use Rattle.std.specs.Prelude.{ℕ, List, ◌++◌, codes, decimal}
use Rattle.plant_wire_answer.specs.{Json.{quoted}, Response.{response}, declared.responses.Media.TheVariants.{Json}}
use Rattle.plant_wire_call.specs.declared.causes.Cause.{Cause}
use Rattle.plant_wire_call.specs.declared.causes.Cause.TheVariants.{HeadSyntax, HeadTooLong, LengthWrong, BodyTooLong, Chunked, NoRoute, BadPerson, BadMoment, BadPath, BadBody, MatrixShape, BandsNotRising, NotOrdered}

-- its name in the answer
abbrev pub cause_name : Cause → List ℕ
cause_name HeadSyntax = codes "HeadSyntax"
cause_name HeadTooLong = codes "HeadTooLong"
cause_name LengthWrong = codes "LengthWrong"
cause_name BodyTooLong = codes "BodyTooLong"
cause_name Chunked = codes "Chunked"
cause_name NoRoute = codes "NoRoute"
cause_name BadPerson = codes "BadPerson"
cause_name BadMoment = codes "BadMoment"
cause_name BadPath = codes "BadPath"
cause_name BadBody = codes "BadBody"
cause_name MatrixShape = codes "MatrixShape"
cause_name BandsNotRising = codes "BandsNotRising"
cause_name NotOrdered = codes "NotOrdered"

-- its number: causes are looked for in this order
abbrev pub cause_no : Cause → ℕ
cause_no HeadSyntax = 1
cause_no HeadTooLong = 2
cause_no LengthWrong = 3
cause_no BodyTooLong = 4
cause_no Chunked = 5
cause_no NoRoute = 6
cause_no BadPerson = 7
cause_no BadMoment = 8
cause_no BadPath = 9
cause_no BadBody = 10
cause_no MatrixShape = 11
cause_no BandsNotRising = 12
cause_no NotOrdered = 13

-- the status of the answer
abbrev pub cause_status : Cause → ℕ
cause_status HeadSyntax = 400
cause_status HeadTooLong = 400
cause_status LengthWrong = 400
cause_status BodyTooLong = 400
cause_status Chunked = 501
cause_status NoRoute = 404
cause_status BadPerson = 400
cause_status BadMoment = 400
cause_status BadPath = 400
cause_status BadBody = 400
cause_status MatrixShape = 400
cause_status BandsNotRising = 400
cause_status NotOrdered = 400

-- the body of the answer: name and number
unfoldable pub cause_body : Cause → List ℕ
cause_body cause =
    codes "{\"cause\":" ++ quoted (cause_name cause) ++ codes ",\"malformed\":" ++ decimal (cause_no cause) ++ codes "}"

-- the whole answer
unfoldable pub cause_text : Cause → List ℕ
cause_text cause = response (cause_status cause) Json (cause_body cause)
