-- Worked examples: the rows that calls leave, and that the part which a call looks at gives its verdict and its changes.
use Rattle.std.proofs.Common.{refl, List, Some, [], codes, true, ◌∷◌, ◌≡◌}
use Rattle.plant_model.specs.{Facts.{facts}, Refusals.{holds_some}}
use Rattle.plant_model.specs.steps.{CallChanges.{changes_for}, Parts.{part_of}, RowChanges.{changed_by, no_rows}}
use Rattle.plant_model.specs.{Rows.{rows_of}, Verdicts.{verdict, verdict_of}, declared.call.Call.{Call}}
use Rattle.plant_model.specs.steps.RowFacts.{facts_in}
use Rattle.plant_model.specs.declared.call.Request.TheVariants.{Grant, OneShotShelve, OpenUnit, Register, TimedShelve, Unshelve, Withdraw}
use Rattle.plant_model.proofs.public.Base.{amy, ann, at, base, bob, call, eve, grid, lt, opened, pt, root, ste, u1, vic, x}
use Rattle.plant_ration.specs.declared.cell.Cell.TheVariants.{P1, P2, P3, P4}
use Rattle.plant_types.specs.declared.role.Role.TheVariants.{Viewer}

-- the part of the rows that the call looks at gives its verdict and its changes
abbrev pub IsByPart : List Call → Call → Type 0
IsByPart h c = (verdict_of (facts_in (part_of c (rows_of h))) c ≡ verdict h c)
    × (changed_by (changes_for (facts_in (part_of c (rows_of h))) c) (rows_of h) ≡ rows_of (c ∷ h))

opening_rows : changed_by (changes_for (facts []) (call root (at 8 0 0) (OpenUnit u1 ste (grid 300) 2000))) no_rows ≡ rows_of opened
opening_rows = refl

-- a history with shelves of both kinds and a grant that ends
abbrev pub rich : List Call
rich =
    call ann (at 9 36 0) (OneShotShelve u1 lt x) ∷ call ann (at 9 35 0) (TimedShelve u1 pt 60 x)
    ∷ call ste (at 9 0 0) (Grant u1 amy (Viewer, Some (at 12 0 0))) ∷ base

granted : IsByPart rich (call ste (at 10 0 0) (Grant u1 bob (Viewer, Some (at 12 0 0))))
    × IsByPart rich (call ste (at 10 0 0) (Withdraw u1 vic Viewer))
unfolding holds_some
granted = ((refl, refl), (refl, refl))

registered : IsByPart rich (call eve (at 10 0 0) (Register u1 (codes "NEW") true 60))
unfolding holds_some
registered = (refl, refl)

shelved_rows : IsByPart rich (call ann (at 10 0 0) (TimedShelve u1 lt 60 x)) × IsByPart rich (call ann (at 10 0 0) (OneShotShelve u1 pt x))
    × IsByPart rich (call ann (at 10 0 0) (Unshelve u1 lt))
unfolding holds_some
shelved_rows = ((refl, refl), (refl, refl), (refl, refl))

-- the rows of the opening's matrix
matrix_rows : (rows_of opened).cells ≡
    record { matrix_no = 0; severity = 1; band_no = 1; cell_no = P3 } ∷ record { matrix_no = 0; severity = 1; band_no = 2; cell_no = P4 }
    ∷ record { matrix_no = 0; severity = 2; band_no = 1; cell_no = P1 } ∷ record { matrix_no = 0; severity = 2; band_no = 2; cell_no = P2 } ∷ []
matrix_rows = refl
