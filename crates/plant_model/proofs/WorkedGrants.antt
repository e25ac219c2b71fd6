-- Worked examples: grants, grants that end, stewards, and moments.
use Rattle.std.proofs.Common.{refl, List, None, Some, [], codes, count_by, is_some, ℕ, ◌∷◌, ◌≡◌}
use Rattle.plant_alarm.specs.declared.{shelf.ShelfState.TheVariants.{Unshelved}, summary.AlarmState.TheVariants.{Normal}}
use Rattle.plant_model.specs.{Refusals.{holds_some}, Rows.{rows_of}, Verdicts.{verdict}, declared.call.Call.{Call}}
use Rattle.plant_model.specs.declared.call.Request.TheVariants.{Grant, OpenUnit, Status, Withdraw}
use Rattle.plant_model.specs.declared.reply.Refused.TheVariants.{AlreadyHeld, EndNotAhead, LastSteward, MomentBehind, NotGranted, NotHeld}
use Rattle.plant_model.proofs.public.Base.{IsAnswered, IsDone, ann, at, base, bob, call, grant, grid, plain, pt, root, ste, u1, vic}
use Rattle.plant_types.specs.{Names.{Name}, declared.role.Role.{Role, TheVariants.{Operator, Steward, Viewer}}}

pairs_refused : IsAnswered base (call ste (at 10 0 0) (Withdraw u1 ste Steward)) LastSteward
    × IsAnswered base (call ste (at 10 0 0) (Withdraw u1 bob Viewer)) NotHeld
    × IsAnswered base (grant ann Operator) AlreadyHeld
unfolding holds_some
pairs_refused = (refl, refl, refl)

abbrev sue : Name
sue = codes "sue"

steward_replaced : IsDone base (grant sue Steward) × IsDone (grant sue Steward ∷ base) (call ste (at 8 0 0) (Withdraw u1 ste Steward))
    × IsAnswered (call ste (at 8 0 0) (Withdraw u1 ste Steward) ∷ grant sue Steward ∷ base) (call ste (at 10 0 0) (Status u1 pt)) NotGranted
unfolding holds_some
steward_replaced = (refl, refl, refl)

-- a grant that ends
abbrev con : Name
con = codes "con"

abbrev dan : Name
dan = codes "dan"

abbrev grant_until : Name → Role → ℕ → ℕ → Call
grant_until p r t until = call ste t (Grant u1 p (r, Some until))

abbrev ending : List Call
ending = grant_until con Viewer (at 9 0 0) (at 12 0 0) ∷ base

grant_that_ends : IsDone base (grant_until con Viewer (at 9 0 0) (at 12 0 0))
    × (verdict ending (call con (at 11 59 59) (Status u1 pt)) ≡ plain pt 3600 0 Normal Unshelved)
    × IsAnswered ending (call con (at 12 0 0) (Status u1 pt)) NotGranted
    × IsAnswered ending (grant_until con Operator (at 12 0 0) (at 12 0 0)) EndNotAhead
    × IsDone ending (call ste (at 12 0 0) (Grant u1 con (Viewer, None)))
unfolding holds_some
grant_that_ends = (refl, refl, refl, refl, refl)

abbrev anew : List Call
anew = call ste (at 12 0 0) (Grant u1 con (Viewer, None)) ∷ ending

after_the_end : IsAnswered anew (grant_until con Viewer (at 12 0 0) (at 12 0 0)) AlreadyHeld
    × IsAnswered anew (call con (at 11 59 59) (Status u1 pt)) (MomentBehind (at 12 0 0))
unfolding holds_some
after_the_end = (refl, refl)

abbrev ended : List Call
ended = grant_until dan Viewer (at 12 0 0) (at 13 0 0) ∷ anew

ended_withdrawn : IsDone ended (call ste (at 14 0 0) (Withdraw u1 dan Viewer))
    × IsAnswered (call ste (at 14 0 0) (Withdraw u1 dan Viewer) ∷ ended) (call ste (at 14 0 0) (Withdraw u1 dan Viewer)) NotHeld
unfolding holds_some
ended_withdrawn = (refl, refl)

-- a pair that has ended keeps its row until it is granted or withdrawn anew
rows_of_ended : count_by (λ g. is_some g.end_s) (rows_of ended).grants ≡ 1
rows_of_ended = refl

-- the moment of another unit plays no part
abbrev far : List Call
far = call root 3155759999 (OpenUnit (codes "U2") ste (grid 300) 2000) ∷ []

far_granted : IsDone far (call ste 3155759999 (Grant (codes "U2") vic (Viewer, None)))
unfolding holds_some
far_granted = refl
