-- The bodies of answers.
use Rattle.std.specs.Prelude.{ℕ, List, [], ◌++◌, map, Option, Some, None, codes, decimal}
use Rattle.plant_types.specs.declared.fault.Fault.{Fault}
use Rattle.plant_import.specs.declared.bad_file.BadFile.{BadFile}
use Rattle.plant_model.specs.declared.reply.Refused.{Refused}
use Rattle.plant_model.specs.declared.reply.Refused.TheVariants.{RoleLacking, MomentBehind, UnitFull, ShelvingTimeOutOfRange, NotProposed, BaseChanged, BadFile as FileRefused, ShelfQuota}
use Rattle.plant_model.specs.declared.reply.Refused.TheVariants.{NotAdministrator, UnitTaken, NotGranted, AlarmTaken, AlarmUnknown, ConditionAlreadyShelved}
use Rattle.plant_model.specs.declared.reply.Refused.TheVariants.{ConditionNotShelved, AlreadyOutOfService, NotOutOfService, AlreadyHeld, NotHeld, LastSteward}
use Rattle.plant_model.specs.declared.reply.Refused.TheVariants.{ChangeUnknown, SamePerson, NotProposer, OutsideMatrix, NotAnAlarm, RecordUnknown}
use Rattle.plant_model.specs.declared.reply.Refused.TheVariants.{RangeNotAligned, EndNotAhead}
use Rattle.plant_model.specs.declared.reply.{StatusRow.{StatusRow}, UnitLine.{UnitLine}}
use Rattle.plant_report.specs.{Moments.{moment_text}, Texts.{state_name}}
use Rattle.plant_wire_answer.specs.Json.{quoted, truth, listed}
use Rattle.plant_wire_answer.specs.Names.{role_name, shelf_name, seconds_left, full_name, file_cause_name, fault_name, change_state_name, refusal_label}

abbrev pub done_body : List ℕ
done_body = codes "{\"done\":true}"

-- how many rows of a file are new, and how many are repeated
unfoldable pub imported_body : ℕ → ℕ → List ℕ
imported_body fresh repeated =
    codes "{\"new\":" ++ decimal fresh ++ codes ",\"repeated\":" ++ decimal repeated ++ codes "}"

-- the number of the change that was proposed
unfoldable pub number_body : ℕ → List ℕ
number_body number = codes "{\"number\":" ++ decimal number ++ codes "}"

unfoldable pub status_body : StatusRow → List ℕ
status_body s =
    codes "{\"limit\":" ++ decimal s.limit
    ++ codes ",\"limit_revision\":" ++ decimal s.limit_revision
    ++ codes ",\"out_of_service\":" ++ truth s.out_of_service
    ++ codes ",\"shelf\":" ++ quoted (shelf_name s.shelf)
    ++ codes ",\"shelf_left\":" ++ decimal (seconds_left s.shelf)
    ++ codes ",\"state\":" ++ quoted (state_name s.state)
    ++ codes ",\"suppressed\":" ++ truth s.suppressed
    ++ codes ",\"suppressed_or_shelved\":" ++ truth s.suppressed_or_shelved
    ++ codes ",\"tag\":" ++ quoted s.tag
    ++ codes "}"

-- a unit, with the names of the roles held in it
unfoldable pub unit_object : UnitLine → List ℕ
unit_object l =
    codes "{\"roles\":" ++ listed (map (λ r. quoted (role_name r)) l.roles)
    ++ codes ",\"unit\":" ++ quoted l.unit
    ++ codes "}"

unfoldable pub units_body : List UnitLine → List ℕ
units_body lines = codes "{\"units\":" ++ listed (map unit_object lines) ++ codes "}"

-- a file's first fault
abbrev pub bad_file_object : BadFile → List ℕ
bad_file_object fault =
    codes "{\"cause\":" ++ quoted (file_cause_name fault.cause) ++ codes ",\"line\":" ++ decimal fault.line ++ codes "}"

-- the value that shows why a call is refused, if the refusal carries one
abbrev pub refusal_value : Refused → Option (List ℕ)
refusal_value (RoleLacking role) = Some (quoted (role_name role))
refusal_value (MomentBehind last) = Some (quoted (moment_text last))
refusal_value (UnitFull what) = Some (quoted (full_name what))
refusal_value (ShelvingTimeOutOfRange max) = Some (decimal max)
refusal_value (NotProposed state) = Some (quoted (change_state_name state))
refusal_value (BaseChanged revision) = Some (decimal revision)
refusal_value (FileRefused fault) = Some (bad_file_object fault)
refusal_value (ShelfQuota quota) = Some (decimal quota)
refusal_value NotAdministrator = None
refusal_value UnitTaken = None
refusal_value NotGranted = None
refusal_value AlarmTaken = None
refusal_value AlarmUnknown = None
refusal_value ConditionAlreadyShelved = None
refusal_value ConditionNotShelved = None
refusal_value AlreadyOutOfService = None
refusal_value NotOutOfService = None
refusal_value AlreadyHeld = None
refusal_value NotHeld = None
refusal_value LastSteward = None
refusal_value ChangeUnknown = None
refusal_value SamePerson = None
refusal_value NotProposer = None
refusal_value OutsideMatrix = None
refusal_value NotAnAlarm = None
refusal_value RecordUnknown = None
refusal_value RangeNotAligned = None
refusal_value EndNotAhead = None

abbrev pub value_member : Option (List ℕ) → List ℕ
value_member None = []
value_member (Some value) = codes ",\"value\":" ++ value

unfoldable pub refusal_body : Refused → List ℕ
refusal_body r =
    codes "{\"name\":" ++ quoted (refusal_label r).1
    ++ codes ",\"refused\":" ++ decimal (refusal_label r).0
    ++ value_member (refusal_value r)
    ++ codes "}"

abbrev pub fault_body : Fault → List ℕ
fault_body f = codes "{\"fault\":" ++ quoted (fault_name f) ++ codes "}"
