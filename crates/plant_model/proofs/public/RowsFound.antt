-- What is found in a list, and tests of numbers.
use Rattle.std.specs.Cmp.{nat_cmp_is}
use Rattle.std.proofs.lemmas.{List.{Folds.{find_at}, Sums.{passes_at_first}}, Option.{get_or_from_slice_get, slice_get_within}}
use Rattle.std.proofs.Common.{ap, sym, ◌∙◌, is_eq, is_lt, List, Some, true, ℕ, ◌<◌, ◌≡◌, Equal, Less, nat_cmp, find, Bool}
use Rattle.plant_model.specs.Histories.{same_number}
pub use Rattle.plant_types.proofs.public.SortedLaws.{After, Ordered, Parts, after_more, back, get_none, get_some, greater, later, less, lesser, none_after, ordered, parted, turned}

-- what is found passes the test
pub find_passes : {X : Type 0} (p : X → Bool) (xs : List X) (x : X) → find p xs ≡ Some x → p x ≡ true
find_passes p xs x e =
    let at = sym (find_at p xs) ∙ e in
    ap p (sym (get_or_from_slice_get xs _ x x at)) ∙ passes_at_first p xs x (slice_get_within xs _ x at)

-- numbers
pub tied_numbers : (m n : ℕ) → m ≡ n → same_number m n ≡ true
tied_numbers m n same = sym (ap is_eq (nat_cmp_is m n Equal same))

pub lower : (m n : ℕ) → m < n → is_lt (nat_cmp m n) ≡ true
lower m n less = sym (ap is_lt (nat_cmp_is m n Less less))
