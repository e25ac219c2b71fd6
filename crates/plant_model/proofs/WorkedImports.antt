-- Worked examples: imports, alarm states, and how a return ends a one-shot shelf.
use Rattle.std.proofs.Common.{refl, true, ◌≡◌, Err, List, Ok, [], codes, false, ℕ, ◌∷◌}
use Rattle.plant_alarm.specs.declared.event.{Event.{Event}, EventKind.{EventKind, TheVariants.{Ack, Act, Reset, Rtn, Sup, Unsup}}}
use Rattle.plant_alarm.specs.declared.{shelf.ShelfState.TheVariants.{OneShotShelved, Unshelved}, summary.AlarmState.{AlarmState}}
use Rattle.plant_alarm.specs.declared.summary.AlarmState.TheVariants.{Acknowledged, LatchedAck, LatchedUnack, Normal, ReturnedUnack, Unacknowledged}
use Rattle.plant_import.specs.Merging.{merge_fault}
use Rattle.plant_import.specs.declared.bad_file.Cause.TheVariants.{Header, MomentAhead, MomentOutOfOrder, SequenceClash, TagUnknown}
use Rattle.plant_model.specs.{Refusals.{holds_some}, Rows.{rows_of}, Verdicts.{verdict}, declared.call.Call.{Call}}
use Rattle.plant_model.specs.declared.call.Request.TheVariants.{Import, OneShotShelve, Status}
use Rattle.plant_model.specs.declared.reply.Refused.TheVariants.{BadFile as FileRefused, RoleLacking}
use Rattle.plant_model.specs.declared.{reply.Reply.TheVariants.{Imported, Status as StatusOf}, rows.UnitRows.{UnitRows}}
use Rattle.plant_model.proofs.public.Base.{IsAnswered, ann, at, base, call, event, lt, plain, pt, status, u1, vic, x}
use Rattle.plant_types.specs.declared.role.Role.TheVariants.{Operator}

abbrev import_at : ℕ → List Event → Call
import_at t rows = call ann t (Import u1 (Ok rows))

abbrev IsImported : List Call → Call → ℕ → ℕ → Type 0
IsImported h c new repeated = verdict h c ≡ Ok (Imported new repeated)

-- one-shot, and three files with returns before, at and after its start
abbrev one_shot : List Call
one_shot = call ann (at 10 0 0) (OneShotShelve u1 pt x) ∷ base

abbrev before_start : Call
before_start = import_at (at 10 0 2) (event 1 Act (at 9 59 58) pt ∷ event 2 Rtn (at 9 59 59) pt ∷ [])

abbrev at_start : Call
at_start = import_at (at 10 0 2) (event 3 Act (at 10 0 0) pt ∷ event 4 Rtn (at 10 0 0) pt ∷ [])

abbrev after_start : Call
after_start = import_at (at 10 0 2) (event 5 Act (at 10 0 1) pt ∷ event 6 Rtn (at 10 0 1) pt ∷ [])

returns_around_the_start : IsImported one_shot before_start 2 0
    × IsImported (before_start ∷ one_shot) at_start 2 0
    × IsImported (at_start ∷ before_start ∷ one_shot) after_start 2 0
    × (status (before_start ∷ one_shot) (at 10 0 2) ≡ plain pt 3600 0 ReturnedUnack (OneShotShelved 3598))
    × (status (at_start ∷ before_start ∷ one_shot) (at 10 0 2) ≡ plain pt 3600 0 ReturnedUnack (OneShotShelved 3598))
    × (status (after_start ∷ at_start ∷ before_start ∷ one_shot) (at 10 0 2) ≡ plain pt 3600 0 ReturnedUnack Unshelved)
unfolding holds_some merge_fault
returns_around_the_start = (refl, refl, refl, refl, refl, refl)

-- a latching alarm, one file for each event
abbrev one : ℕ → EventKind → Call
one n k = import_at (at 9 30 0) (event n k (at 9 0 n) lt ∷ [])

abbrev latch_status : List Call → AlarmState → Type 0
latch_status h state = verdict h (call ann (at 9 30 0) (Status u1 lt)) ≡ plain lt 86400 0 state Unshelved

latching_states : latch_status (one 2 Rtn ∷ one 1 Act ∷ base) LatchedUnack
    × latch_status (one 3 Reset ∷ one 2 Rtn ∷ one 1 Act ∷ base) ReturnedUnack
    × latch_status (one 4 Rtn ∷ one 3 Reset ∷ one 2 Rtn ∷ one 1 Act ∷ base) ReturnedUnack
    × latch_status (one 5 Ack ∷ one 4 Rtn ∷ one 3 Reset ∷ one 2 Rtn ∷ one 1 Act ∷ base) Normal
    × latch_status (one 3 Ack ∷ one 2 Rtn ∷ one 1 Act ∷ base) LatchedAck
unfolding holds_some merge_fault
latching_states = (refl, refl, refl, refl, refl)

-- a re-alarm must be acknowledged anew
abbrev one_pt : ℕ → EventKind → Call
one_pt n k = import_at (at 9 30 0) (event n k (at 9 0 n) pt ∷ [])

alarms_again : (status (one_pt 2 Ack ∷ one_pt 1 Act ∷ base) (at 9 30 0) ≡ plain pt 3600 0 Acknowledged Unshelved)
    × (status (one_pt 3 Act ∷ one_pt 2 Ack ∷ one_pt 1 Act ∷ base) (at 9 30 0) ≡ plain pt 3600 0 Unacknowledged Unshelved)
unfolding holds_some merge_fault
alarms_again = (refl, refl)

-- repeats, clashes, and causes of reading and of merging
abbrev row1 : Event
row1 = event 1 Act (at 9 0 0) pt

abbrev row2 : Event
row2 = event 2 Rtn (at 9 5 0) pt

abbrev row3 : Event
row3 = event 3 Ack (at 9 6 0) pt

abbrev three : Call
three = import_at (at 9 30 0) (row1 ∷ row2 ∷ row3 ∷ [])

repeats_and_faults : IsImported base three 3 0
    × (status (three ∷ base) (at 9 30 0) ≡ plain pt 3600 0 Normal Unshelved)
    × IsImported (three ∷ base) three 0 3
    × (rows_of (three ∷ three ∷ base) ≡ rows_of (three ∷ base))
    × IsAnswered (three ∷ base) (import_at (at 9 30 0) (row1 ∷ event 2 Rtn (at 9 4 0) pt ∷ row3 ∷ []))
    (FileRefused (record { line = 3; cause = SequenceClash }))
    × IsAnswered base (call ann (at 9 30 0) (Import u1 (Err (record { line = 1; cause = Header }))))
    (FileRefused (record { line = 1; cause = Header }))
    × IsImported base (import_at (at 9 30 0) []) 0 0
    × IsAnswered base (import_at (at 9 30 0) (event 1 Act (at 9 0 0) (codes "NO-1") ∷ [])) (FileRefused (record { line = 2; cause = TagUnknown }))
unfolding holds_some merge_fault
repeats_and_faults = (refl, refl, refl, refl, refl, refl, refl, refl)

-- numbers, not arrival, order the events
abbrev late : Call
late = import_at (at 9 30 0) (event 5 Act (at 9 10 0) pt ∷ event 6 Ack (at 9 20 0) pt ∷ [])

abbrev early : Call
early = import_at (at 9 30 0) (event 3 Rtn (at 9 0 0) pt ∷ [])

ordered_by_number : IsImported base late 2 0
    × IsImported (late ∷ base) early 1 0
    × (status (early ∷ late ∷ base) (at 9 30 0) ≡ plain pt 3600 0 Acknowledged Unshelved)
    × IsAnswered (early ∷ late ∷ base) (import_at (at 9 30 0) (event 4 Ack (at 9 15 0) pt ∷ []))
    (FileRefused (record { line = 2; cause = MomentOutOfOrder }))
    × IsAnswered (early ∷ late ∷ base) (import_at (at 9 30 0) (event 7 Act (at 9 31 0) pt ∷ []))
    (FileRefused (record { line = 2; cause = MomentAhead }))
unfolding holds_some merge_fault
ordered_by_number = (refl, refl, refl, refl, refl)

-- a gap that is filled takes a return away, and the one-shot shelf holds again
abbrev gap : Call
gap = import_at (at 10 1 0) (event 1 Act (at 9 50 0) pt ∷ event 3 Rtn (at 10 0 5) pt ∷ [])

abbrev filled : Call
filled = import_at (at 10 2 0) (event 2 Rtn (at 9 55 0) pt ∷ [])

filled_gap : IsImported one_shot gap 2 0
    × (status (gap ∷ one_shot) (at 10 1 0) ≡ plain pt 3600 0 ReturnedUnack Unshelved)
    × IsImported (gap ∷ one_shot) filled 1 0
    × (status (filled ∷ gap ∷ one_shot) (at 10 2 0) ≡ plain pt 3600 0 ReturnedUnack (OneShotShelved 3480))
unfolding holds_some merge_fault
filled_gap = (refl, refl, refl, refl)

-- suppression by design
suppressed_by_design : (status (one_pt 1 Sup ∷ base) (at 9 30 0)
    ≡ Ok (StatusOf (record {
      tag = pt;
      limit = 3600;
      limit_revision = 0;
      state = Normal;
      shelf = Unshelved;
      suppressed = true;
      out_of_service = false;
      suppressed_or_shelved = true;
    })))
    × (status (one_pt 2 Unsup ∷ one_pt 1 Sup ∷ base) (at 9 30 0) ≡ plain pt 3600 0 Normal Unshelved)
unfolding holds_some merge_fault
suppressed_by_design = (refl, refl)

-- three files with the same rows, in other orders
abbrev file12 : Call
file12 = import_at (at 9 30 0) (row1 ∷ row2 ∷ [])

abbrev file23 : Call
file23 = import_at (at 9 30 0) (row2 ∷ row3 ∷ [])

abbrev file13 : Call
file13 = import_at (at 9 30 0) (row1 ∷ row3 ∷ [])

counts_in_two_orders : (rows_of (file13 ∷ file23 ∷ file12 ∷ base) ≡ rows_of (file12 ∷ file23 ∷ file13 ∷ base))
    × IsImported base file12 2 0 × IsImported (file12 ∷ base) file23 1 1 × IsImported (file23 ∷ file12 ∷ base) file13 0 2
    × IsImported base file13 2 0 × IsImported (file13 ∷ base) file23 1 1 × IsImported (file23 ∷ file13 ∷ base) file12 0 2
unfolding holds_some merge_fault
counts_in_two_orders = (refl, refl, refl, refl, refl, refl, refl)

abbrev rows_after : Call → Call → Call → UnitRows
rows_after first second third = rows_of (third ∷ second ∷ first ∷ base)

all_orders_agree : (rows_after file12 file13 file23 ≡ rows_after file12 file23 file13)
    × (rows_after file13 file12 file23 ≡ rows_after file12 file23 file13) × (rows_after file23 file12 file13 ≡ rows_after file12 file23 file13)
    × (rows_after file23 file13 file12 ≡ rows_after file12 file23 file13)
all_orders_agree = (refl, refl, refl, refl)

abbrev Counts : Call → Call → Call → Type 0
Counts first second third = IsImported base first 2 0 × IsImported (first ∷ base) second 1 1 × IsImported (second ∷ first ∷ base) third 0 2

counts_in_all_orders : Counts file12 file13 file23 × Counts file13 file12 file23 × Counts file23 file12 file13 × Counts file23 file13 file12
unfolding holds_some merge_fault
counts_in_all_orders = ((refl, refl, refl), (refl, refl, refl), (refl, refl, refl), (refl, refl, refl))

twice_in_one_file : IsImported base (import_at (at 9 30 0) (row1 ∷ row1 ∷ [])) 1 1
unfolding holds_some merge_fault
twice_in_one_file = refl

-- an operator imports, and no one else
by_viewer : IsAnswered base (call vic (at 9 30 0) (Import u1 (Ok (row1 ∷ [])))) (RoleLacking Operator)
unfolding holds_some merge_fault
by_viewer = refl
