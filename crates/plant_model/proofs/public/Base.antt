-- The unit of the worked examples: opened, staffed, and with two alarms.
use Rattle.std.proofs.Common.{Err, List, None, Ok, Result, [], codes, false, max, not, true, ℕ, ◌*◌, ◌+◌, ◌∷◌, ◌≡◌}
use Rattle.plant_alarm.specs.{Shelves.{is_unshelved}, declared.{event.{Event.{Event}, EventKind.{EventKind}}, shelf.ShelfState.{ShelfState}}}
use Rattle.plant_alarm.specs.declared.summary.AlarmState.{AlarmState}
use Rattle.plant_model.specs.{Alarms.{limit}, Shelves.{shelf}, Verdicts.{verdict}, declared.call.{Call.{Call}, Request.{Request}}}
use Rattle.plant_model.specs.declared.{call.Request.TheVariants.{Grant, OpenUnit, Register, Status}, reply.{Refused.{Refused}, Reply.{Reply}}}
use Rattle.plant_model.specs.declared.reply.Reply.TheVariants.{Done, Status as StatusOf}
use Rattle.plant_ration.specs.{Grid.{Grid}, declared.cell.Cell.{Cell, TheVariants.{P1, P2, P3, P4}}}
use Rattle.plant_types.specs.{Names.{Name}, declared.role.Role.{Role, TheVariants.{Approver, Engineer, Maintainer, Operator, Viewer}}}

abbrev pub u1 : Name
u1 = codes "U1"

abbrev pub root : Name
root = codes "root"

abbrev pub ste : Name
ste = codes "ste"

abbrev pub ann : Name
ann = codes "ann"

abbrev pub eve : Name
eve = codes "eve"

abbrev pub abe : Name
abe = codes "abe"

abbrev pub amy : Name
amy = codes "amy"

abbrev pub moe : Name
moe = codes "moe"

abbrev pub vic : Name
vic = codes "vic"

abbrev pub bob : Name
bob = codes "bob"

abbrev pub pt : Name
pt = codes "PT-101"

abbrev pub lt : Name
lt = codes "LT-2"

abbrev pub x : Name
x = codes "x"

-- a time of the day 2026-03-01
abbrev pub at : ℕ → ℕ → ℕ → ℕ
at h m s = 825638400 + 3600 * h + 60 * m + s

abbrev pub call : Name → ℕ → Request → Call
call p t q = record { person = p; moment = t; request = q }

abbrev pub event : ℕ → EventKind → ℕ → Name → Event
event n k t a = record { seq = n; moment = t; tag = a; kind = k }

-- the call is accepted after the history, with Done
abbrev pub IsDone : List Call → Call → Type 0
IsDone h c = verdict h c ≡ Ok Done

abbrev pub IsAnswered : List Call → Call → Refused → Type 0
IsAnswered h c refused = verdict h c ≡ Err refused

abbrev pub cells : List (List Cell)
cells = (P3 ∷ P4 ∷ []) ∷ (P1 ∷ P2 ∷ []) ∷ []

abbrev pub grid : ℕ → Grid
grid limit = record { limits = limit ∷ []; cells = cells }

abbrev pub grant : Name → Role → Call
grant p r = call ste (at 8 0 0) (Grant u1 p (r, None))

abbrev pub opened : List Call
opened = call root (at 8 0 0) (OpenUnit u1 ste (grid 300) 2000) ∷ []

-- the calls that make the unit, the newest first
abbrev pub base : List Call
base =
    call eve (at 8 0 0) (Register u1 lt true 86400) ∷ call eve (at 8 0 0) (Register u1 pt false 3600)
    ∷ grant vic Viewer ∷ grant moe Maintainer ∷ grant abe Approver ∷ grant eve Engineer ∷ grant ann Operator ∷ opened

abbrev pub status : List Call → ℕ → Result Reply Refused
status h t = verdict h (call ann t (Status u1 pt))

-- a status of an alarm that is in service and not suppressed by design
abbrev pub plain : Name → ℕ → ℕ → AlarmState → ShelfState → Result Reply Refused
plain a max revision state shelf =
    Ok (StatusOf (record {
      tag = a;
      limit = max;
      limit_revision = revision;
      state = state;
      shelf = shelf;
      suppressed = false;
      out_of_service = false;
      suppressed_or_shelved = not (is_unshelved shelf);
    }))
