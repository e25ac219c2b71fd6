-- Faults and priorities computed by their definition.
use Rattle.std.proofs.Common.{◌≡◌, refl, [], ◌∷◌, Some, None}
use Rattle.plant_ration.specs.{Grid.{Grid}, Matrix.{fault_of, priority_of}, declared.cell.Cell.TheVariants.{P1, P2, P3, P4}}
use Rattle.plant_ration.specs.declared.cell.MatrixFault.TheVariants.{Shape, BandsNotRising, NotOrdered}

abbrev the_table : Grid
the_table = record { limits = 300 ∷ []; cells = (P3 ∷ P4 ∷ []) ∷ (P1 ∷ P2 ∷ []) ∷ [] }

pub no_fault : fault_of the_table.limits the_table.cells ≡ None
no_fault = refl

pub not_ordered : fault_of (300 ∷ []) ((P1 ∷ P4 ∷ []) ∷ (P2 ∷ P2 ∷ []) ∷ []) ≡ Some NotOrdered
not_ordered = refl

pub not_rising : fault_of (300 ∷ 300 ∷ []) ((P1 ∷ P2 ∷ P2 ∷ []) ∷ []) ≡ Some BandsNotRising
not_rising = refl

pub no_shape : fault_of [] ((P1 ∷ P2 ∷ []) ∷ []) ≡ Some Shape
no_shape = refl

pub at_120 : priority_of the_table 2 120 ≡ Some P1
at_120 = refl

pub at_300 : priority_of the_table 2 300 ≡ Some P2
at_300 = refl

pub at_zero : priority_of the_table 0 120 ≡ None
at_zero = refl
