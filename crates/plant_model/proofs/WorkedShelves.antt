-- Worked examples: timed and one-shot shelves.
use Rattle.std.proofs.Common.{refl, Err, List, Ok, [], codes, drop, false, true, ◌∷◌, ◌≡◌}
use Rattle.plant_alarm.specs.declared.{shelf.ShelfState.TheVariants.{TimedShelved, Unshelved}, summary.AlarmState.TheVariants.{Normal}}
use Rattle.plant_model.specs.{Refusals.{holds_some}, Rows.{rows_of}, Verdicts.{verdict}, declared.call.Call.{Call}}
use Rattle.plant_model.specs.declared.call.Request.TheVariants.{OneShotShelve, Register, Shelves, Status, TimedShelve, Unshelve}
use Rattle.plant_model.specs.declared.reply.Refused.TheVariants.{ConditionAlreadyShelved, ConditionNotShelved, MomentBehind, NotGranted, ShelvingTimeOutOfRange}
use Rattle.plant_model.specs.declared.reply.Reply.TheVariants.{Done, Shelves as ShelvesOf}
use Rattle.plant_model.proofs.public.Base.{IsDone, ann, at, base, bob, call, eve, grant, lt, opened, plain, pt, status, u1, x}
use Rattle.plant_types.specs.declared.role.Role.TheVariants.{Operator}

-- an unknown person, on this unit and on one that was never opened
strangers : (verdict base (call bob (at 7 0 0) (Status u1 pt)) ≡ Err NotGranted)
    × (verdict [] (call bob (at 7 0 0) (Status u1 pt)) ≡ Err NotGranted)
unfolding holds_some
strangers = (refl, refl)

first_steps : IsDone opened (grant ann Operator)
    × IsDone (drop 1 base) (call eve (at 8 0 0) (Register u1 lt true 86400))
    × IsDone base (call ann (at 10 0 0) (TimedShelve u1 pt 3600 (codes "pump test")))
unfolding holds_some
first_steps = (refl, refl, refl)

abbrev shelved : List Call
shelved = call ann (at 10 0 0) (TimedShelve u1 pt 3600 (codes "pump test")) ∷ base

timed_shelf : (status shelved (at 10 59 59) ≡ plain pt 3600 0 Normal (TimedShelved 1))
    × (status shelved (at 11 0 0) ≡ plain pt 3600 0 Normal Unshelved)
    × (verdict shelved (call ann (at 10 59 59) (Shelves u1))
    ≡ Ok (ShelvesOf u1 (at 10 59 59) (record { tag = pt; one_shot = false; start = at 10 0 0; left = 1; person = ann; words = codes "pump test" }
    ∷ [])))
    × (verdict shelved (call ann (at 11 0 0) (Shelves u1)) ≡ Ok (ShelvesOf u1 (at 11 0 0) []))
    × (verdict shelved (call ann (at 10 30 0) (TimedShelve u1 pt 3601 x)) ≡ Err (ShelvingTimeOutOfRange 3600))
    × (verdict shelved (call ann (at 10 30 0) (TimedShelve u1 pt 3600 x)) ≡ Err ConditionAlreadyShelved)
    × (verdict shelved (call ann (at 11 0 0) (TimedShelve u1 pt 3600 x)) ≡ Ok Done)
    × (verdict (call ann (at 11 0 0) (TimedShelve u1 pt 3600 x) ∷ shelved) (call ann (at 10 59 59) (TimedShelve u1 pt 3600 x))
    ≡ Err (MomentBehind (at 11 0 0)))
unfolding holds_some
timed_shelf = (refl, refl, refl, refl, refl, refl, refl, refl)

abbrev once : List Call
once = call ann (at 10 10 0) (OneShotShelve u1 pt x) ∷ shelved

one_shot_shelf : IsDone shelved (call ann (at 10 10 0) (OneShotShelve u1 pt x))
    × (verdict once (call ann (at 10 10 0) (OneShotShelve u1 pt x)) ≡ Err ConditionAlreadyShelved)
    × (verdict once (call ann (at 10 10 0) (TimedShelve u1 pt 60 x)) ≡ Ok Done)
unfolding holds_some
one_shot_shelf = (refl, refl, refl)

abbrev timed : List Call
timed = call ann (at 10 10 0) (TimedShelve u1 pt 60 x) ∷ once

unshelving : (verdict timed (call ann (at 10 10 0) (Unshelve u1 pt)) ≡ Ok Done)
    × (verdict (call ann (at 10 10 0) (Unshelve u1 pt) ∷ timed) (call ann (at 10 10 0) (Unshelve u1 pt)) ≡ Err ConditionNotShelved)
unfolding holds_some
unshelving = (refl, refl)

-- the row of the shelf lies on when its time is over
rows_shelved : (rows_of shelved).shelves
    ≡ record { tag = pt; one_shot = false; start_s = at 10 0 0; until_s = at 11 0 0; person = ann; words = codes "pump test" } ∷ []
unfolding holds_some
rows_shelved = refl
