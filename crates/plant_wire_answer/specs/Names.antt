-- The names and the numbers that answers use. Those of states and cells, which printed lists use too, are in `Texts`.
use Rattle.std.specs.Prelude.{ℕ, List, codes}
use Rattle.plant_types.specs.declared.{fault.Fault.{Fault}, role.Role.{Role, TheVariants.{Viewer, Operator, Maintainer, Engineer, Approver, Steward}}}
use Rattle.plant_alarm.specs.declared.shelf.ShelfState.{ShelfState, TheVariants.{Unshelved, TimedShelved, OneShotShelved}}
use Rattle.plant_ration.specs.declared.change.{ChangeKind.{ChangeKind}, ChangeState.{ChangeState}}
use Rattle.plant_ration.specs.declared.change.ChangeState.TheVariants.{Proposed, Approved, Rejected, Withdrawn}
use Rattle.plant_import.specs.declared.bad_file.Cause.{Cause}
use Rattle.plant_import.specs.declared.bad_file.Cause.TheVariants.{Header, FieldCount, NotUtf8, BadNumber, BadMoment, BadTag, BadEvent, TooLong, TagUnknown, MomentAhead, SequenceClash, MomentOutOfOrder}
use Rattle.plant_model.specs.declared.reply.{Full.{Full}, Refused.{Refused}}
use Rattle.plant_model.specs.declared.reply.Refused.TheVariants.{NotAdministrator, UnitTaken, NotGranted, RoleLacking, MomentBehind, UnitFull, AlarmTaken, AlarmUnknown, ShelvingTimeOutOfRange, ConditionAlreadyShelved, ConditionNotShelved, AlreadyOutOfService, NotOutOfService, AlreadyHeld, NotHeld, LastSteward, ChangeUnknown, NotProposed, SamePerson, NotProposer, BaseChanged, OutsideMatrix, NotAnAlarm, RecordUnknown, RangeNotAligned, BadFile, ShelfQuota, EndNotAhead}
use Rattle.plant_types.specs.declared.fault.Fault.TheVariants as fault
use Rattle.plant_ration.specs.declared.change.ChangeKind.TheVariants as kind
use Rattle.plant_model.specs.declared.reply.Full.TheVariants as full

abbrev pub role_name : Role → List ℕ
role_name Viewer = codes "Viewer"
role_name Operator = codes "Operator"
role_name Maintainer = codes "Maintainer"
role_name Engineer = codes "Engineer"
role_name Approver = codes "Approver"
role_name Steward = codes "Steward"

-- a shelved state, named as in OPC 10000-9
abbrev pub shelf_name : ShelfState → List ℕ
shelf_name Unshelved = codes "Unshelved"
shelf_name (TimedShelved seconds) = codes "TimedShelved"
shelf_name (OneShotShelved seconds) = codes "OneShotShelved"

-- how many seconds of a shelf are left
abbrev pub seconds_left : ShelfState → ℕ
seconds_left Unshelved = 0
seconds_left (TimedShelved seconds) = seconds
seconds_left (OneShotShelved seconds) = seconds

-- what a full unit has no room for
abbrev pub full_name : Full → List ℕ
full_name full.Alarms = codes "Alarms"
full_name full.Grants = codes "Grants"
full_name full.Events = codes "Events"
full_name full.Changes = codes "Changes"

-- the kind of a change
abbrev pub kind_name : ChangeKind → List ℕ
kind_name (kind.Rationale tag sheet) = codes "record"
kind_name (kind.Matrix matrix) = codes "matrix"
kind_name (kind.Limit tag max) = codes "limit"

-- the state of a change
abbrev pub change_state_name : ChangeState → List ℕ
change_state_name Proposed = codes "Proposed"
change_state_name Approved = codes "Approved"
change_state_name Rejected = codes "Rejected"
change_state_name Withdrawn = codes "Withdrawn"

-- why a row of a file is faulty
abbrev pub file_cause_name : Cause → List ℕ
file_cause_name Header = codes "Header"
file_cause_name FieldCount = codes "FieldCount"
file_cause_name NotUtf8 = codes "NotUtf8"
file_cause_name BadNumber = codes "BadNumber"
file_cause_name BadMoment = codes "BadMoment"
file_cause_name BadTag = codes "BadTag"
file_cause_name BadEvent = codes "BadEvent"
file_cause_name TooLong = codes "TooLong"
file_cause_name TagUnknown = codes "TagUnknown"
file_cause_name MomentAhead = codes "MomentAhead"
file_cause_name SequenceClash = codes "SequenceClash"
file_cause_name MomentOutOfOrder = codes "MomentOutOfOrder"

abbrev pub fault_name : Fault → List ℕ
fault_name fault.Memory = codes "Memory"
fault_name fault.Store = codes "Store"

abbrev pub refusal_label : Refused → ℕ × List ℕ
refusal_label NotAdministrator = (1, codes "NotAdministrator")
refusal_label UnitTaken = (2, codes "UnitTaken")
refusal_label NotGranted = (3, codes "NotGranted")
refusal_label (RoleLacking role) = (4, codes "RoleLacking")
refusal_label (MomentBehind last) = (5, codes "MomentBehind")
refusal_label (UnitFull what) = (6, codes "UnitFull")
refusal_label AlarmTaken = (7, codes "AlarmTaken")
refusal_label AlarmUnknown = (8, codes "AlarmUnknown")
refusal_label (ShelvingTimeOutOfRange max) = (9, codes "ShelvingTimeOutOfRange")
refusal_label ConditionAlreadyShelved = (10, codes "ConditionAlreadyShelved")
refusal_label ConditionNotShelved = (11, codes "ConditionNotShelved")
refusal_label AlreadyOutOfService = (12, codes "AlreadyOutOfService")
refusal_label NotOutOfService = (13, codes "NotOutOfService")
refusal_label AlreadyHeld = (14, codes "AlreadyHeld")
refusal_label NotHeld = (15, codes "NotHeld")
refusal_label LastSteward = (16, codes "LastSteward")
refusal_label ChangeUnknown = (17, codes "ChangeUnknown")
refusal_label (NotProposed state) = (18, codes "NotProposed")
refusal_label SamePerson = (19, codes "SamePerson")
refusal_label NotProposer = (20, codes "NotProposer")
refusal_label (BaseChanged revision) = (21, codes "BaseChanged")
refusal_label OutsideMatrix = (22, codes "OutsideMatrix")
refusal_label NotAnAlarm = (23, codes "NotAnAlarm")
refusal_label RecordUnknown = (24, codes "RecordUnknown")
refusal_label RangeNotAligned = (25, codes "RangeNotAligned")
refusal_label (BadFile fault) = (26, codes "BadFile")
refusal_label (ShelfQuota quota) = (27, codes "ShelfQuota")
refusal_label EndNotAhead = (28, codes "EndNotAhead")
