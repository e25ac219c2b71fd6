-- The orders of keys: total, and equal only at equal keys.
use Rattle.std.specs.Cmp.{IsTotalOrder, nat_cmp_total, then_total, on_total}
use Rattle.std.specs.{Cmp.Lexicographic.{nat_list_cmp_total}, FinMap.{nat_cmp-IsAntisymmetric, slice_cmp-IsAntisymmetric}}
use Rattle.std.{specs.Ordering.{ordering_then}, proofs.{Common.{arith, ◌≡◌, ℕ, Ordering, Equal, nat_cmp}, lemmas.Bool.Decides.{nat_tests}}}
use Rattle.plant_types.specs.{declared.role.Role.{Role}, Names.{Name, name_cmp}, Roles.{role_no, Pair, pair_cmp}}

-- names and pairs
pub name_total : IsTotalOrder name_cmp
name_total = nat_list_cmp_total

pub same_names : (a b : Name) → name_cmp a b ≡ Equal → a ≡ b
same_names = slice_cmp-IsAntisymmetric nat_cmp-IsAntisymmetric

pub pair_total : IsTotalOrder pair_cmp
pair_total = then_total (on_total (λ (k : Pair). k.0) name_total) (on_total (λ (k : Pair). role_no k.1) nat_cmp_total)

pub same_roles : (r s : Role) → nat_cmp (role_no r) (role_no s) ≡ Equal → r ≡ s
same_roles r s e = grind (arith, nat_tests)

pub then_Equal : (a b : Ordering) → ordering_then a b ≡ Equal → (a ≡ Equal) × (b ≡ Equal)
then_Equal a b e = (grind arith, grind arith)

pub same_pairs : (a b : Pair) → pair_cmp a b ≡ Equal → a ≡ b
same_pairs a b e =
    let both = then_Equal (name_cmp a.0 b.0) (nat_cmp (role_no a.1) (role_no b.1)) e in
    let names = same_names a.0 b.0 both.0 in
    let roles = same_roles a.1 b.1 both.1 in
    λ i. (names i, roles i)

-- numbers
pub number_total : IsTotalOrder nat_cmp
number_total = nat_cmp_total

pub same_numbers : (m n : ℕ) → nat_cmp m n ≡ Equal → m ≡ n
same_numbers = nat_cmp-IsAntisymmetric
