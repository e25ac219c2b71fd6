-- Parts with a byte between each two: the first, and the others each after the byte.
use Rattle.std.specs.List.{join_with_byte}
use Rattle.std.proofs.Common.{◌≡◌, ℕ, ◌≤◌, ◌-◌, List, [], ◌∷◌, ◌++◌, drop, get_or, length, map, flat_map, sym, ap, ◌∙◌, append-nil, append_assoc, arith, take, take_all, Result, Ok, Err}
use Rattle.plant_types.specs.Adding.{Adds}

joined : {A : Type 0} (c : ℕ) (f : A → List ℕ) (y : List ℕ) (xs : List A) → join_with_byte c (y ∷ map f xs) ≡ y ++ flat_map (λ x. c ∷ f x) xs
joined c f y [] = sym (append-nil y)
joined c f y (x ∷ xs) = ap (λ (t : List ℕ). y ++ c ∷ t) (joined c f (f x) xs)

joined_from : {A : Type 0} (c : ℕ) (f : A → List ℕ) (xs : List A) (x : A) → 1 ≤ length xs → x ≡ get_or xs 0 x
    → join_with_byte c (map f xs) ≡ f x ++ flat_map (λ x. c ∷ f x) (take (length xs - 1) (drop 1 xs))
joined_from c f [] x some is = absurd (omega (arith, some))
joined_from c f (y ∷ ys) x some is =
    joined c f (f y) ys ∙ ap (λ z. f z ++ flat_map (λ x. c ∷ f x) ys) (sym is)
    ∙ ap (λ zs. f x ++ flat_map (λ x. c ∷ f x) zs) (sym (take_all (length (y ∷ ys) - 1) ys (omega arith)))

-- the first part was added, and then the others
pub adds_joined : {V E A : Type 0} (c : ℕ) (f : A → List ℕ) (xs : List A) (x : A) (r : Result V E) (before between after : List ℕ) → 1 ≤ length xs
    → x ≡ get_or xs 0 x → between ≡ before ++ f x
    → Adds r between after (flat_map (λ x. c ∷ f x) (take (length xs - 1) (drop 1 xs))) → Adds r before after (join_with_byte c (map f xs))
adds_joined c f xs x (Ok v) before between after some is first others =
    others ∙ ap (λ (t : List ℕ). t ++ flat_map (λ x. c ∷ f x) (take (length xs - 1) (drop 1 xs))) first
    ∙ append_assoc before (f x) (flat_map (λ x. c ∷ f x) (take (length xs - 1) (drop 1 xs)))
    ∙ ap (λ (t : List ℕ). before ++ t) (sym (joined_from c f xs x some is))
adds_joined c f xs x (Err e) before between after some is first others = tt
