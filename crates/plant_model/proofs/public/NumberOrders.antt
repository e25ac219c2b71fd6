-- Rows in the order of their keys: the numbers that these begin with do not fall.
use Rattle.std.specs.{Cmp.{ranked}, FinMap.Entries.{below_all}, List.Sorted.{IsNonDecreasingBy}, Ordering.{ordering_then}}
use Rattle.std.proofs.Common.{List, [], arith, get_or, length, refl, suc, sym, zero, ℕ, ◌<◌, ◌∷◌, ◌≡◌, ◌≤◌, nat_cmp, Ordering, Equal, Greater, Less, T, map}
use Rattle.plant_model.specs.{Matrices.{band_cmp, cell_cmp}, declared.rows.BandRow.{BandRow}}
use Rattle.plant_model.specs.declared.rows.{CellRow.{CellRow}, ChangeEntry.{ChangeEntry}}
use Rattle.plant_model.specs.steps.RowFacts.{band_key, cell_key, change_number}
use Rattle.plant_types.{specs.KeyedRows.{IsInOrder}, proofs.public.{Halves.{first, second}, Orders.{same_numbers}, SortedLaws.{less}}}

leads : (a b : ℕ) (rest : Ordering) → ordering_then (nat_cmp a b) rest ≡ Less → a ≤ b
leads a b rest e = elim (nat_cmp a b) as (λ o. nat_cmp a b ≡ o → ordering_then o rest ≡ Less → a ≤ b) [
  | Less ↦ λ p _. let lt = ranked a b Less (sym p) in omega (arith, lt)
  | Equal ↦ λ p _. let same = same_numbers a b p in omega (arith, same)
  | Greater ↦ λ _ q. cc
] refl e

module _ {K X : Type 0} (R : K → K → Ordering) (key : X → K) (lead : K → ℕ) (le : (a b : K) → R a b ≡ Less → lead a ≤ lead b) where
  above : (a : K) (xs : List X) → T (below_all R a (map (λ r. (key r, r)) xs)) → (k : ℕ) (d : X) → k < length xs → lead a ≤ lead (key (get_or xs k d))
  above a [] h k d lt = absurd (omega (arith, lt))
  above a (x ∷ xs) h zero d lt = le a (key x) (less (R a (key x)) (first _ _ h))
  above a (x ∷ xs) h (suc k) d lt = above a xs (second _ _ h) k d (omega (arith, lt))

  rise : (xs : List X) → IsInOrder R key xs → IsNonDecreasingBy (λ r. lead (key r)) xs
  rise [] h i j d le' lt = absurd (omega (arith, lt))
  rise (x ∷ xs) h zero zero d le' lt = omega arith
  rise (x ∷ xs) h zero (suc j) d le' lt = above (key x) xs (first _ _ h) j d (omega (arith, lt))
  rise (x ∷ xs) h (suc i) zero d le' lt = absurd (omega (arith, le'))
  rise (x ∷ xs) h (suc i) (suc j) d le' lt = rise xs (second _ _ h) i j d (omega (arith, le')) (omega (arith, lt))

pub bands_rise : (rows : List BandRow) → IsInOrder band_cmp band_key rows → IsNonDecreasingBy (λ r. r.matrix_no) rows
bands_rise rows order = rise band_cmp band_key (λ k. k.0) (λ a b. leads a.0 b.0 (nat_cmp a.1 b.1)) rows order

pub cells_rise : (rows : List CellRow) → IsInOrder cell_cmp cell_key rows → IsNonDecreasingBy (λ r. r.matrix_no) rows
cells_rise rows order = rise cell_cmp cell_key (λ k. k.0) (λ a b. leads a.0 b.0 (ordering_then (nat_cmp a.1 b.1) (nat_cmp a.2 b.2))) rows order

pub changes_rise : (rows : List ChangeEntry) → IsInOrder nat_cmp change_number rows → IsNonDecreasingBy change_number rows
changes_rise rows order = rise nat_cmp change_number (λ k. k) (λ a b e. let lt = ranked a b Less (sym e) in omega (arith, lt)) rows order
