-- Worked examples: the quota of shelves.
use Rattle.std.proofs.Common.{drop, refl, ◌≡◌, List, None, Ok, [], codes, false, length, ℕ, ◌∷◌}
use Rattle.plant_alarm.specs.declared.event.{Event.{Event}, EventKind.TheVariants.{Act, Rtn}}
use Rattle.plant_import.specs.Merging.{merge_fault}
use Rattle.plant_model.specs.{Facts.{facts}, Refusals.{holds_some}, Replies.{shelf_lines}, Verdicts.{verdict}, declared.call.Call.{Call}}
use Rattle.plant_model.specs.declared.call.Request.TheVariants.{Grant, Import, OneShotShelve, OpenUnit, Register, TimedShelve, Unshelve}
use Rattle.plant_model.specs.declared.reply.{Refused.TheVariants.{ShelfQuota, ShelvingTimeOutOfRange}, Reply.TheVariants.{Imported}}
use Rattle.plant_model.proofs.public.Base.{IsAnswered, IsDone, ann, at, call, eve, event, grid, root, ste, x}
use Rattle.plant_types.specs.{Names.{Name}, declared.role.Role.TheVariants.{Engineer, Operator}}

-- a quota of two shelved alarms
abbrev u3 : Name
u3 = codes "U3"

abbrev a1 : Name
a1 = codes "A-1"

abbrev a2 : Name
a2 = codes "A-2"

abbrev a3 : Name
a3 = codes "A-3"

abbrev register : Name → Call
register a = call eve (at 8 0 0) (Register u3 a false 3600)

abbrev small : List Call
small = register a3 ∷ register a2 ∷ register a1 ∷ call ste (at 8 0 0) (Grant u3 eve (Engineer, None)) ∷ call ste (at 8 0 0)
    (Grant u3 ann (Operator, None)) ∷ call root (at 8 0 0) (OpenUnit u3 ste (grid 300) 2) ∷ []

abbrev timed : ℕ → Name → ℕ → Call
timed t a d = call ann t (TimedShelve u3 a d x)

abbrev shot : ℕ → Name → Call
shot t a = call ann t (OneShotShelve u3 a x)

two_shelved : IsDone small (timed (at 10 0 0) a1 60) × IsDone (timed (at 10 0 0) a1 60 ∷ small) (shot (at 10 0 0) a2)
unfolding holds_some
two_shelved = (refl, refl)

abbrev full : List Call
full = shot (at 10 0 0) a2 ∷ timed (at 10 0 0) a1 60 ∷ small

third_shelf : IsAnswered full (timed (at 10 0 0) a3 60) (ShelfQuota 2)
    × IsDone full (timed (at 10 1 0) a3 60)
unfolding holds_some
third_shelf = (refl, refl)

abbrev moved : List Call
moved = timed (at 10 1 0) a3 60 ∷ full

full_again : IsAnswered moved (shot (at 10 1 30) a1) (ShelfQuota 2) × IsAnswered moved (timed (at 10 1 30) a1 3601) (ShelvingTimeOutOfRange 3600)
    × IsDone moved (shot (at 10 1 30) a3)
unfolding holds_some
full_again = (refl, refl, refl)

-- a filled gap makes a one-shot shelf hold again, above the quota
abbrev rows_at : ℕ → List Event → Call
rows_at t rows = call ann t (Import u3 (Ok rows))

abbrev above : List Call
above = rows_at (at 10 2 0) (event 2 Rtn (at 9 55 0) a2 ∷ []) ∷ timed (at 10 1 30) a3 3600 ∷ timed (at 10 1 30) a1 3600 ∷ rows_at (at 10 1 0)
    (event 1 Act (at 9 50 0) a2 ∷ event 3 Rtn (at 10 0 5) a2 ∷ []) ∷ shot (at 10 0 0) a2 ∷ small

shelved_above : IsDone (drop 3 above) (timed (at 10 1 30) a1 3600) × IsDone (drop 2 above) (timed (at 10 1 30) a3 3600)
    × (verdict (drop 1 above) (rows_at (at 10 2 0) (event 2 Rtn (at 9 55 0) a2 ∷ [])) ≡ Ok (Imported 1 0))
    × (length (shelf_lines (facts above) (at 10 2 0)) ≡ 3)
unfolding holds_some merge_fault
shelved_above = (refl, refl, refl, refl)

abbrev off : Call
off = call ann (at 10 2 0) (Unshelve u3 a1)

above_the_quota : IsDone above off × IsAnswered (off ∷ above) (timed (at 10 2 0) a1 60) (ShelfQuota 2)
    × IsDone (off ∷ above) (timed (at 10 2 0) a2 60)
unfolding holds_some merge_fault
above_the_quota = (refl, refl, refl)
