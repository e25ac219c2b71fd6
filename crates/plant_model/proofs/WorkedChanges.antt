-- Worked examples: management of change, rationalisation records, and limits.
use Rattle.std.proofs.Common.{refl, List, None, Ok, Option, Result, Some, [], codes, false, length, ℕ, ◌∷◌, ◌≡◌}
use Rattle.plant_alarm.specs.declared.{shelf.ShelfState.TheVariants.{OneShotShelved, Unshelved}, summary.AlarmState.TheVariants.{Normal}}
use Rattle.plant_model.specs.{Refusals.{holds_some}, Rows.{rows_of}, Verdicts.{verdict}, declared.call.Call.{Call}}
use Rattle.plant_model.specs.declared.call.Request.TheVariants.{Alarms, Approve, ChangeOf, Grant, OneShotShelve, OpenUnit, Propose, RecordOf, Register, Reject, TimedShelve, WithdrawChange}
use Rattle.plant_model.specs.declared.reply.{AlarmLine.{AlarmLine}, Refused.{Refused}}
use Rattle.plant_model.specs.declared.reply.Refused.TheVariants.{BaseChanged, ChangeUnknown, NotAnAlarm, NotProposed, NotProposer, OutsideMatrix, RecordUnknown, RoleLacking, SamePerson, ShelvingTimeOutOfRange}
use Rattle.plant_model.specs.declared.reply.Reply.{Reply, TheVariants.{Alarms as AlarmsOf, ChangeOf as ChangeReply, Number, RecordOf as RecordReply}}
use Rattle.plant_model.proofs.public.Base.{IsAnswered, IsDone, abe, amy, ann, at, base, call, eve, grant, grid, lt, plain, pt, root, status, ste, u1, vic, x}
use Rattle.plant_ration.specs.{Grid.{Grid}, declared.{cell.Cell.{Cell, TheVariants.{N, P1, P2, P3, P4}}, change.ChangeKind.{ChangeKind}}}
use Rattle.plant_ration.specs.declared.change.{ChangeKind.TheVariants.{Limit, Matrix, Rationale}, ChangeState.TheVariants.{Approved, Withdrawn}}
use Rattle.plant_ration.specs.declared.change.Sheet.{Sheet}
use Rattle.plant_types.specs.{Names.{Name}, declared.role.Role.TheVariants.{Approver, Engineer}}

abbrev u2 : Name
u2 = codes "U2"

abbrev ft : Name
ft = codes "FT-7"

abbrev now : ℕ
now = at 9 0 0

abbrev staffed : List Call
staffed = grant amy Approver ∷ grant abe Engineer ∷ base

-- another unit, opened as this one
abbrev other : List Call
other = call ste (at 8 0 0) (Grant u2 eve (Engineer, None)) ∷ call ste (at 8 0 0) (Register u2 ft false 3600) ∷ call root (at 8 0 0)
    (OpenUnit u2 ste (grid 300) 2000) ∷ []

abbrev seal : ℕ → Sheet
seal severity =
    record { cause = codes "seal leak"; consequence = codes "loss of pressure"; action = codes "close XV-7"; severity = severity; response = 120 }

abbrev propose : Name → Name → ChangeKind → ℕ → Call
propose u p k base = call p now (Propose u (record { kind = k; base = base }))

abbrev IsNumbered : List Call → Call → ℕ → Type 0
IsNumbered h c n = verdict h c ≡ Ok (Number n)

abbrev first : Call
first = propose u1 abe (Rationale pt (seal 2)) 0

abbrev second : Call
second = propose u1 eve (Rationale pt (seal 2)) 0

-- changes are numbered in each unit by itself
numbered : IsNumbered staffed first 1 × IsNumbered other (propose u2 eve (Rationale ft (seal 2)) 0) 1 × IsNumbered (first ∷ staffed) second 2
unfolding holds_some
numbered = (refl, refl, refl)

abbrev proposed : List Call
proposed = second ∷ first ∷ staffed

abbrev approve : Name → ℕ → Call
approve p n = call p now (Approve u1 n)

who_approves : IsAnswered proposed (approve abe 1) SamePerson
    × IsAnswered proposed (approve eve 1) (RoleLacking Approver)
    × IsDone proposed (approve amy 1)
unfolding holds_some
who_approves = (refl, refl, refl)

abbrev approved : List Call
approved = approve amy 1 ∷ proposed

approved_once : IsAnswered approved (approve amy 2) (BaseChanged 1)
    × IsAnswered approved (approve amy 1) (NotProposed Approved)
unfolding holds_some
approved_once = (refl, refl)

abbrev withdraw : Name → ℕ → Call
withdraw p n = call p now (WithdrawChange u1 n)

who_withdraws : IsAnswered approved (withdraw abe 2) NotProposer
    × IsDone approved (withdraw eve 2)
unfolding holds_some
who_withdraws = (refl, refl)

abbrev withdrawn : List Call
withdrawn = withdraw eve 2 ∷ approved

changes_read : IsAnswered withdrawn (call vic now (ChangeOf u1 3)) ChangeUnknown
    × (verdict withdrawn (call vic now (ChangeOf u1 2))
    ≡ Ok (ChangeReply (record {
      number = 2;
      kind = Rationale pt (seal 2);
      base = 0;
      proposer = eve;
      proposed = now;
      state = Withdrawn;
      decider = Some eve;
      decided = Some now;
    })))
unfolding holds_some
changes_read = (refl, refl)

abbrev third : Call
third = propose u1 eve (Rationale pt (seal 2)) 1

third_rejected : IsNumbered withdrawn third 3 × IsDone (third ∷ withdrawn) (call abe now (Reject u1 3))
unfolding holds_some
third_rejected = (refl, refl)

abbrev whole : List Call
whole = call abe now (Reject u1 3) ∷ third ∷ withdrawn

-- the record, with its priority by the matrix in force
abbrev record_with : Cell → Result Reply Refused
record_with cell =
    Ok (RecordReply (record {
      tag = pt;
      change = 1;
      revision = 1;
      cause = codes "seal leak";
      consequence = codes "loss of pressure";
      action = codes "close XV-7";
      severity = 2;
      response = 120;
      priority = cell;
    }))

high : verdict whole (call vic now (RecordOf u1 pt)) ≡ record_with P1
unfolding holds_some
high = refl

abbrev shorter : Call
shorter = propose u1 eve (Matrix (grid 60)) 0

shorter_approved : IsNumbered whole shorter 4 × IsDone (shorter ∷ whole) (approve amy 4)
unfolding holds_some
shorter_approved = (refl, refl)

abbrev rerated : List Call
rerated = approve amy 4 ∷ shorter ∷ whole

lower : verdict rerated (call vic now (RecordOf u1 pt)) ≡ record_with P2
unfolding holds_some
lower = refl

-- the kept cell follows the matrix in force
kept_cells : ((rows_of whole).records ≡ record { tag = pt; change_no = 1; rev = 1; cell_no = P1 } ∷ [])
    × ((rows_of rerated).records ≡ record { tag = pt; change_no = 1; rev = 1; cell_no = P2 } ∷ [])
kept_cells = (refl, refl)

abbrev one_row : Grid
one_row = record { limits = 300 ∷ []; cells = (P3 ∷ P4 ∷ []) ∷ [] }

severities_outside : IsAnswered rerated (propose u1 eve (Matrix one_row) 1) OutsideMatrix
    × IsAnswered rerated (call vic now (RecordOf u1 lt)) RecordUnknown
    × IsAnswered rerated (propose u1 eve (Rationale lt (seal 3)) 0) OutsideMatrix
unfolding holds_some
severities_outside = (refl, refl, refl)

-- a unit whose only cell is N
abbrev quiet : List Call
quiet = call ste (at 8 0 0) (Register u2 ft false 3600) ∷ call ste (at 8 0 0) (Grant u2 ste (Engineer, None)) ∷ call root (at 8 0 0)
    (OpenUnit u2 ste (record { limits = []; cells = (N ∷ []) ∷ [] }) 2000) ∷ []

not_an_alarm : IsAnswered quiet (propose u2 ste (Rationale ft (seal 1)) 0) NotAnAlarm
unfolding holds_some
not_an_alarm = refl

-- bands and cells of each proposed matrix
matrix_rows : ((rows_of rerated).bands ≡ record { matrix_no = 0; band_no = 1; limit_s = 300 } ∷ record { matrix_no = 4; band_no = 1; limit_s = 60 }
    ∷ [])
    × (length (rows_of rerated).cells ≡ 8)
    × ((rows_of rerated).units ≡ record { last_s = now; matrix_no = 4; matrix_rev = 1; quota = 2000 } ∷ [])
matrix_rows = (refl, refl, refl)

-- a limit that is approved while a one-shot shelf stands leaves its end
abbrev one_shot : List Call
one_shot = call ann (at 10 0 0) (OneShotShelve u1 pt x) ∷ base

abbrev limit_call : Call
limit_call = call eve (at 10 10 0) (Propose u1 (record { kind = Limit pt 600; base = 0 }))

limit_approved : IsNumbered one_shot limit_call 1 × IsDone (limit_call ∷ one_shot) (call abe (at 10 10 0) (Approve u1 1))
unfolding holds_some
limit_approved = (refl, refl)

abbrev limited : List Call
limited = call abe (at 10 10 0) (Approve u1 1) ∷ limit_call ∷ one_shot

limit_in_force : (status limited (at 10 59 59) ≡ plain pt 600 1 Normal (OneShotShelved 1))
    × (status limited (at 11 0 0) ≡ plain pt 600 1 Normal Unshelved)
    × IsAnswered limited (call ann (at 11 0 0) (TimedShelve u1 pt 601 x)) (ShelvingTimeOutOfRange 600)
unfolding holds_some
limit_in_force = (refl, refl, refl)

-- the line of an alarm has its priority by the matrix in force
abbrev line_of_pt : Option Cell → AlarmLine
line_of_pt priority =
    record { tag = pt; state = Normal; priority = priority; shelved = false; by_design = false; out_of_service = false; limit = 3600 }

abbrev line_of_lt : AlarmLine
line_of_lt = record { tag = lt; state = Normal; priority = None; shelved = false; by_design = false; out_of_service = false; limit = 86400 }

priorities : (verdict whole (call vic now (Alarms u1)) ≡ Ok (AlarmsOf u1 now (line_of_lt ∷ line_of_pt (Some P1) ∷ [])))
    × (verdict rerated (call vic now (Alarms u1)) ≡ Ok (AlarmsOf u1 now (line_of_lt ∷ line_of_pt (Some P2) ∷ [])))
unfolding holds_some
priorities = (refl, refl)

-- the bands and cells of a matrix that is rejected are kept
abbrev refused : List Call
refused = call abe now (Reject u1 4) ∷ shorter ∷ whole

refused_kept : (IsDone (shorter ∷ whole) (call abe now (Reject u1 4))) × (length (rows_of refused).bands ≡ 2)
    × ((rows_of refused).units ≡ record { last_s = now; matrix_no = 0; matrix_rev = 0; quota = 2000 } ∷ [])
unfolding holds_some
refused_kept = (refl, refl, refl)
