-- The whole text of an answer.
use Rattle.std.specs.Prelude.{ℕ, List}
use Rattle.plant_model.specs.declared.reply.{Answer.{Answer}, Refused.{Refused}, Reply.{Reply}}
use Rattle.plant_report.specs.Texts.{shelf_text, standing_text, alarm_text, flood_text, mine_text}
use Rattle.plant_wire_answer.specs.Bodies.{done_body, imported_body, number_body, status_body, units_body, refusal_body, fault_body}
use Rattle.plant_wire_answer.specs.{Changes.{record_body, change_body}, Response.{response}, declared.responses.Media.{Media, TheVariants.{Json, Plain}}}
use Rattle.plant_model.specs.declared.reply.Answer.TheVariants as answer
use Rattle.plant_model.specs.declared.reply.Refused.TheVariants as refused
use Rattle.plant_model.specs.declared.reply.Reply.TheVariants as reply

-- 403 if the caller lacks the right to make the call, 409 for any other refusal
abbrev pub refusal_status : Refused → ℕ
refusal_status refused.NotAdministrator = 403
refusal_status refused.UnitTaken = 409
refusal_status refused.NotGranted = 403
refusal_status (refused.RoleLacking x) = 403
refusal_status (refused.MomentBehind x) = 409
refusal_status (refused.UnitFull x) = 409
refusal_status refused.AlarmTaken = 409
refusal_status refused.AlarmUnknown = 409
refusal_status (refused.ShelvingTimeOutOfRange x) = 409
refusal_status refused.ConditionAlreadyShelved = 409
refusal_status refused.ConditionNotShelved = 409
refusal_status refused.AlreadyOutOfService = 409
refusal_status refused.NotOutOfService = 409
refusal_status refused.AlreadyHeld = 409
refusal_status refused.NotHeld = 409
refusal_status refused.LastSteward = 409
refusal_status refused.ChangeUnknown = 409
refusal_status (refused.NotProposed x) = 409
refusal_status refused.SamePerson = 409
refusal_status refused.NotProposer = 409
refusal_status (refused.BaseChanged x) = 409
refusal_status refused.OutsideMatrix = 409
refusal_status refused.NotAnAlarm = 409
refusal_status refused.RecordUnknown = 409
refusal_status refused.RangeNotAligned = 409
refusal_status (refused.BadFile x) = 409
refusal_status (refused.ShelfQuota x) = 409
refusal_status refused.EndNotAhead = 409

-- replies are JSON, except the lists, which are plain text
abbrev pub reply_media : Reply → Media
reply_media (reply.Shelves unit at lines) = Plain
reply_media (reply.Standing unit at lines) = Plain
reply_media (reply.Alarms unit at lines) = Plain
reply_media (reply.Floods unit begin until lines) = Plain
reply_media (reply.Mine person at lines) = Plain
reply_media reply.Done = Json
reply_media (reply.Imported fresh repeated) = Json
reply_media (reply.Number number) = Json
reply_media (reply.Status row) = Json
reply_media (reply.RecordOf row) = Json
reply_media (reply.ChangeOf row) = Json
reply_media (reply.Units lines) = Json

abbrev pub reply_body : Reply → List ℕ
reply_body reply.Done = done_body
reply_body (reply.Imported fresh repeated) = imported_body fresh repeated
reply_body (reply.Number number) = number_body number
reply_body (reply.Status row) = status_body row
reply_body (reply.RecordOf row) = record_body row
reply_body (reply.ChangeOf row) = change_body row
reply_body (reply.Units lines) = units_body lines
reply_body (reply.Shelves unit at lines) = shelf_text unit at lines
reply_body (reply.Standing unit at lines) = standing_text unit at lines
reply_body (reply.Alarms unit at lines) = alarm_text unit at lines
reply_body (reply.Floods unit begin until lines) = flood_text unit begin until lines
reply_body (reply.Mine person at lines) = mine_text person at lines

-- the bytes of an answer
abbrev pub answer_bytes : Answer → List ℕ
answer_bytes (answer.Reply r) = response 200 (reply_media r) (reply_body r)
answer_bytes (answer.Refused r) = response (refusal_status r) Json (refusal_body r)
answer_bytes (answer.Fault f) = response 503 Json (fault_body f)
