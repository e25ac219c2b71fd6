-- The orders of places in matrices: total, and equal only at equal places.
use Rattle.std.{specs.{Cmp.{IsTotalOrder, nat_cmp_total, on_total, then_total}, Ordering.{ordering_then}}, proofs.Common.{nat_cmp, ◌≡◌, Equal}}
use Rattle.plant_model.specs.Matrices.{BandKey, CellKey, band_cmp, cell_cmp}
use Rattle.plant_types.proofs.public.Orders.{same_numbers, then_Equal}

pub band_total : IsTotalOrder band_cmp
band_total = then_total (on_total (λ (k : BandKey). k.0) nat_cmp_total) (on_total (λ (k : BandKey). k.1) nat_cmp_total)

pub same_bands : (a b : BandKey) → band_cmp a b ≡ Equal → a ≡ b
same_bands a b e =
    let both = then_Equal (nat_cmp a.0 b.0) (nat_cmp a.1 b.1) e in
    let first = same_numbers a.0 b.0 both.0 in
    let second = same_numbers a.1 b.1 both.1 in
    λ i. (first i, second i)

pub cell_total : IsTotalOrder cell_cmp
cell_total =
    then_total (on_total (λ (k : CellKey). k.0) nat_cmp_total)
    (then_total (on_total (λ (k : CellKey). k.1) nat_cmp_total) (on_total (λ (k : CellKey). k.2) nat_cmp_total))

pub same_cells : (a b : CellKey) → cell_cmp a b ≡ Equal → a ≡ b
same_cells a b e =
    let both = then_Equal (nat_cmp a.0 b.0) (ordering_then (nat_cmp a.1 b.1) (nat_cmp a.2 b.2)) e in
    let rest = then_Equal (nat_cmp a.1 b.1) (nat_cmp a.2 b.2) both.1 in
    let first = same_numbers a.0 b.0 both.0 in
    let second = same_numbers a.1 b.1 rest.0 in
    let third = same_numbers a.2 b.2 rest.1 in
    λ i. (first i, second i, third i)
