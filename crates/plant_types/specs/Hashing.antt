-- Equal names give a hasher the same input.
use Rattle.std.specs.{FinMap.{nat_cmp-IsAntisymmetric, slice_cmp-IsAntisymmetric}, Ordering.{is_eq}, Prelude.{refl, true, ◌≡◌}}
use Rattle.std.{specs.declared.cmp.Ordering.{Ordering, TheVariants.{Equal, Greater, Less}}, proofs.Common.{ap}}
use Rattle.plant_types.specs.Names.{Name, name_cmp, same_name}
use Rattle.std.specs.Hash as fed

equal_if : (o : Ordering) → is_eq o ≡ true → o ≡ Equal
equal_if Less h = cc
equal_if Equal h = refl
equal_if Greater h = cc

pub alike_names : (a b : Name) → same_name a b ≡ true → fed.slice fed.u8 a ≡ fed.slice fed.u8 b
alike_names a b h =
    ap (fed.slice fed.u8) (slice_cmp-IsAntisymmetric nat_cmp-IsAntisymmetric a b (equal_if (name_cmp a b) h))
