-- Worked examples: out of service, and the list of alarms.
use Rattle.std.proofs.Common.{refl, ◌≡◌, List, None, Ok, Option, Some, [], codes, false, option_map, true, ℕ, ◌∷◌}
use Rattle.plant_alarm.specs.declared.{shelf.ShelfState.TheVariants.{TimedShelved, Unshelved}, summary.AlarmState.TheVariants.{Normal}}
use Rattle.plant_model.specs.{Refusals.{holds_some}, Rows.{alarm_row}, Verdicts.{verdict}, declared.{call.Call.{Call}, rows.AlarmRow.{AlarmRow}}}
use Rattle.plant_model.specs.declared.call.Request.TheVariants.{Alarms, PlaceInService, RemoveFromService, Standing, TimedShelve}
use Rattle.plant_model.specs.declared.reply.Refused.TheVariants.{AlarmUnknown, AlreadyOutOfService, NotOutOfService, RoleLacking}
use Rattle.plant_model.specs.declared.reply.Reply.TheVariants.{Alarms as AlarmsOf, Standing as StandingOf, Status as StatusOf}
use Rattle.plant_model.proofs.WorkedRows.{IsByPart, rich}
use Rattle.plant_model.proofs.public.Base.{IsAnswered, IsDone, ann, at, base, call, lt, moe, pt, status, u1, vic, x}
use Rattle.plant_types.specs.{Names.{Name}, declared.role.Role.TheVariants.{Maintainer}}

-- removed from service
abbrev removed : List Call
removed = call moe (at 10 0 0) (RemoveFromService u1 pt (codes "valve")) ∷ base

removal : IsDone base (call moe (at 10 0 0) (RemoveFromService u1 pt (codes "valve")))
    × IsAnswered base (call ann (at 10 0 0) (RemoveFromService u1 pt (codes "valve"))) (RoleLacking Maintainer)
    × IsAnswered base (call moe (at 10 0 0) (RemoveFromService u1 x (codes "valve"))) AlarmUnknown
    × (status removed (at 10 0 0)
    ≡ Ok (StatusOf (record {
      tag = pt;
      limit = 3600;
      limit_revision = 0;
      state = Normal;
      shelf = Unshelved;
      suppressed = false;
      out_of_service = true;
      suppressed_or_shelved = true;
    })))
    × IsAnswered removed (call moe (at 10 0 0) (RemoveFromService u1 pt (codes "valve"))) AlreadyOutOfService
unfolding holds_some
removal = (refl, refl, refl, refl, refl)

-- it can be shelved while it is out of service, and the three kinds of suppression stay apart
abbrev shelved_too : List Call
shelved_too = call ann (at 10 0 0) (TimedShelve u1 pt 60 x) ∷ removed

shelving_out_of_service : IsDone removed (call ann (at 10 0 0) (TimedShelve u1 pt 60 x))
unfolding holds_some
shelving_out_of_service = refl

alarm_list : verdict shelved_too (call vic (at 10 0 0) (Alarms u1)) ≡ Ok (AlarmsOf u1 (at 10 0 0)
    (record { tag = lt; state = Normal; priority = None; shelved = false; by_design = false; out_of_service = false; limit = 86400 }
    ∷ record { tag = pt; state = Normal; priority = None; shelved = true; by_design = false; out_of_service = true; limit = 3600 } ∷ []))
unfolding holds_some
alarm_list = refl

-- no event was imported, so no alarm is active
standing_list : verdict shelved_too (call vic (at 10 0 0) (Standing u1)) ≡ Ok (StandingOf u1 (at 10 0 0) [])
unfolding holds_some
standing_list = refl

-- placed in service again
abbrev placed : List Call
placed = call moe (at 10 0 0) (PlaceInService u1 pt) ∷ shelved_too

placement : IsDone shelved_too (call moe (at 10 0 0) (PlaceInService u1 pt))
    × IsAnswered placed (call moe (at 10 0 0) (PlaceInService u1 pt)) NotOutOfService
    × (status placed (at 10 0 30)
    ≡ Ok (StatusOf (record {
      tag = pt;
      limit = 3600;
      limit_revision = 0;
      state = Normal;
      shelf = TimedShelved 30;
      suppressed = false;
      out_of_service = false;
      suppressed_or_shelved = true;
    })))
unfolding holds_some
placement = (refl, refl, refl)

-- the row of an alarm that is out of service has since when, by whom and why
abbrev outage : AlarmRow → Option ℕ × Option Name × Option Name
outage r = (r.out_s, r.out_by, r.out_words)

removed_row : option_map outage (alarm_row removed pt) ≡ Some (Some (at 10 0 0), Some moe, Some (codes "valve"))
removed_row = refl

-- the rows of a unit with shelves and a grant that ends
service_rows : IsByPart rich (call moe (at 10 0 0) (RemoveFromService u1 pt x))
    × IsByPart (call moe (at 9 40 0) (RemoveFromService u1 lt x) ∷ rich) (call moe (at 10 0 0) (PlaceInService u1 lt))
unfolding holds_some
service_rows = ((refl, refl), (refl, refl))
