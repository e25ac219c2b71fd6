-- Worked examples: openings, and calls that name no unit.
use Rattle.std.{specs.FinMap.{get-empty}, proofs.Common.{ap, refl, Err, List, None, Ok, Some, [], codes, false, is_some, true, ◌∷◌, ◌≡◌}}
use Rattle.plant_model.specs.{Worlds.{answer, answer_of_units, empty_world, opening}, declared.call.Call.{Call}}
use Rattle.plant_model.specs.declared.call.Request.TheVariants.{Grant, MyShelves, MyUnits, OneShotShelve, OpenUnit, Register, TimedShelve}
use Rattle.plant_model.specs.declared.reply.{Refused.TheVariants.{MomentBehind, NotAdministrator, UnitTaken}, Reply.TheVariants.{Done, Mine, Units}}
use Rattle.plant_model.proofs.public.Base.{ann, at, base, bob, call, grid, lt, root, ste, u1, vic}
use Rattle.plant_types.specs.{Names.{Name, name_cmp}, declared.role.Role.{Role, TheVariants.{Maintainer, Operator, Viewer}}}

-- nobody's units
no_units : answer_of_units [] (call vic (at 8 0 0) MyUnits) ≡ Ok (Units [])
no_units = refl

-- openings: by another, by the administrator, again, and again by another
openings : (opening false false ≡ Err NotAdministrator) × (opening true false ≡ Ok Done) × (opening true true ≡ Err UnitTaken)
    × (opening false true ≡ Err NotAdministrator)
openings = (refl, refl, refl, refl)

-- the opening of an empty office
abbrev open_call : Name → Call
open_call p = call p (at 8 0 0) (OpenUnit u1 ste (grid 300) 2000)

not_administrator : answer (empty_world root) (open_call bob) ≡ Err NotAdministrator
not_administrator = refl

first_opening : answer (empty_world root) (open_call root) ≡ Ok Done
first_opening = ap (λ o. opening true (is_some o)) (get-empty name_cmp u1)

-- the units of a person, with the roles of the moment
roles_in_units : answer_of_units ((u1, call ste (at 9 0 0) (Grant u1 (codes "con") (Viewer, Some (at 12 0 0))) ∷ base) ∷ [])
    (call (codes "con") (at 11 59 59) MyUnits) ≡ Ok (Units (record { unit = u1; roles = Viewer ∷ [] } ∷ []))
roles_in_units = refl

-- shelves of two units
abbrev u2 : Name
u2 = codes "U2"

abbrev ft : Name
ft = codes "FT-7"

abbrev drained : List Call
drained = call ann (at 10 0 0) (TimedShelve u1 lt 10800 (codes "drain")) ∷ base

abbrev role_in_two : Role → Call
role_in_two r = call ste (at 8 0 0) (Grant u2 ann (r, None))

abbrev wired : List Call
wired =
    call ann (at 12 0 0) (OneShotShelve u2 ft (codes "wiring")) ∷ role_in_two Maintainer ∷ role_in_two Operator ∷ role_in_two Viewer
    ∷ call ste (at 8 0 0) (Register u2 ft false 7200) ∷ call root (at 8 0 0) (OpenUnit u2 ste (grid 300) 2000) ∷ []

abbrev two_units : List (Name × List Call)
two_units = (u1, drained) ∷ (u2, wired) ∷ []

behind_the_later : answer_of_units two_units (call ann (at 11 0 0) MyShelves) ≡ Err (MomentBehind (at 12 0 0))
behind_the_later = refl

-- each shelf once, however many roles are held
my_shelves : answer_of_units two_units (call ann (at 12 0 0) MyShelves) ≡ Ok (Mine ann (at 12 0 0)
    (record { unit = u1; line = record { tag = lt; one_shot = false; start = at 10 0 0; left = 3600; person = ann; words = codes "drain" } }
    ∷ record { unit = u2; line = record { tag = ft; one_shot = true; start = at 12 0 0; left = 7200; person = ann; words = codes "wiring" } } ∷ []))
my_shelves = refl

-- nobody's shelves
no_shelves : answer_of_units [] (call vic (at 8 0 0) MyShelves) ≡ Ok (Mine vic (at 8 0 0) [])
no_shelves = refl
