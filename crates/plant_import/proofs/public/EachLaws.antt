-- What holds of each element of a list, and tests of its elements.
use Rattle.std.specs.List.{AllByRecursion, AllPairs, list_all, list_any}
use Rattle.std.{specs.List.Sorted.{IsPartitionPoint}, proofs.lemmas.Bool.{and_parts, false_from_ne_true, or_parts}}
use Rattle.std.proofs.lemmas.List.{get_or-drop, get_or-take, length-drop, length-take-le, take-append-drop}
use Rattle.std.proofs.lemmas.List.{Elements.{filter-append, filter_passes, recursion_from_All}, Folds.{list_any-append}}
use Rattle.std.proofs.{lemmas.List.Kept.{AllPairs-cons}, Math.{Bool.{or-false, or-true}, Seq.{take-append_seam}}}
use Rattle.std.proofs.Common.{append-nil, filter, if◌then◌else◌, map, ◌≡◌, ℕ, zero, suc, ◌+◌, ◌<◌, ◌≤◌, refl, sym, ap, subst, ◌∙◌, arith, List, [], ◌∷◌, ◌++◌, length, get_or, take, drop, Bool, true, false, not, ◌||◌}

-- P holds of each
abbrev pub Each : {X : Type 0} → (X → Type 0) → List X → Type 0
Each P xs = AllByRecursion P xs

pub each_of : {X : Type 0} (P : X → Type 0) (xs : List X) → ((k : ℕ) (d : X) → k < length xs → P (get_or xs k d)) → Each P xs
each_of P [] h = tt
each_of P (x ∷ xs) h = (h 0 x (omega arith), each_of P xs (λ k d lt. h (suc k) d (omega arith)))

pub each_at : {X : Type 0} (P : X → Type 0) (xs : List X) → Each P xs → (k : ℕ) (d : X) → k < length xs → P (get_or xs k d)
each_at P [] h k d lt = absurd (omega arith)
each_at P (x ∷ xs) h zero d lt = h.0
each_at P (x ∷ xs) h (suc k) d lt = each_at P xs h.1 k d (omega arith)

pub each_weaker : {X : Type 0} (P Q : X → Type 0) → ((x : X) → P x → Q x) → (xs : List X) → Each P xs → Each Q xs
each_weaker P Q f [] h = tt
each_weaker P Q f (x ∷ xs) h = (f x h.0, each_weaker P Q f xs h.1)

pub each_both : {X : Type 0} (P Q R : X → Type 0) → ((x : X) → P x → Q x → R x) → (xs : List X) → Each P xs → Each Q xs → Each R xs
each_both P Q R f [] h k = tt
each_both P Q R f (x ∷ xs) h k = (f x h.0 k.0, each_both P Q R f xs h.1 k.1)

pub each_append : {X : Type 0} (P : X → Type 0) (xs ys : List X) → Each P xs → Each P ys → Each P (xs ++ ys)
each_append P [] ys h k = k
each_append P (x ∷ xs) ys h k = (h.0, each_append P xs ys h.1 k)

pub each_front : {X : Type 0} (P : X → Type 0) (xs ys : List X) → Each P (xs ++ ys) → Each P xs
each_front P [] ys h = tt
each_front P (x ∷ xs) ys h = (h.0, each_front P xs ys h.1)

pub each_back : {X : Type 0} (P : X → Type 0) (xs ys : List X) → Each P (xs ++ ys) → Each P ys
each_back P [] ys h = h
each_back P (x ∷ xs) ys h = each_back P xs ys h.1

-- R holds of each and each later one
abbrev pub Pairs : {X : Type 0} → (X → X → Type 0) → List X → Type 0
Pairs R [] = Unit {0}
Pairs R (x ∷ xs) = Each (R x) xs × Pairs R xs

pub pairs_of : {X : Type 0} (R : X → X → Type 0) (xs : List X) → AllPairs R xs → Pairs R xs
pairs_of R [] h = tt
pairs_of R (x ∷ xs) h = (
  each_of (R x) xs (λ k d lt. h 0 (suc k) d (omega arith) (omega arith)),
  pairs_of R xs
      (λ i j d lt le. h (suc i) (suc j) d (omega arith) (omega arith)),
)

pub all_pairs : {X : Type 0} (R : X → X → Type 0) (xs : List X) → Pairs R xs → AllPairs R xs
all_pairs R [] h = λ i j d lt le. absurd (omega arith)
all_pairs R (x ∷ xs) h = AllPairs-cons R x xs (each_at (R x) xs h.0) (all_pairs R xs h.1)

pub pairs_weaker : {X : Type 0} (R S : X → X → Type 0) → ((x y : X) → R x y → S x y) → (xs : List X) → Pairs R xs → Pairs S xs
pairs_weaker R S f [] h = tt
pairs_weaker R S f (x ∷ xs) h = (each_weaker (R x) (S x) (f x) xs h.0, pairs_weaker R S f xs h.1)

pub pairs_front : {X : Type 0} (R : X → X → Type 0) (xs ys : List X) → Pairs R (xs ++ ys) → Pairs R xs
pairs_front R [] ys h = tt
pairs_front R (x ∷ xs) ys h = (each_front (R x) xs ys h.0, pairs_front R xs ys h.1)

pub pairs_back : {X : Type 0} (R : X → X → Type 0) (xs ys : List X) → Pairs R (xs ++ ys) → Pairs R ys
pairs_back R [] ys h = h
pairs_back R (x ∷ xs) ys h = pairs_back R xs ys h.1

pub pairs_drop : {X : Type 0} (R : X → X → Type 0) (k : ℕ) (xs : List X) → Pairs R xs → Pairs R (drop k xs)
pairs_drop {X = X} R k xs h = pairs_back R (take k xs) (drop k xs) (subst (λ (l : List X). Pairs R l) (sym (take-append-drop k xs)) h)

pub pairs_before : {X : Type 0} (R : X → X → Type 0) (xs rest : List X) (y : X) → Pairs R (xs ++ y ∷ rest) → Each (λ x. R x y) xs
pairs_before R [] rest y h = tt
pairs_before R (x ∷ xs) rest y h = ((each_back (R x) xs (y ∷ rest) h.0).0, pairs_before R xs rest y h.1)

-- the elements on both sides of a place
pub parted_each : {X : Type 0} (P Q : X → Type 0) (xs : List X) (p : ℕ) → IsPartitionPoint P Q xs p → p ≤ length xs
    → Each P (take p xs) × Each Q (drop p xs)
parted_each P Q xs p h le = (
  each_of P (take p xs) (λ k d lt.
      let in_front : k < p = omega (arith, lt, length-take-le p xs le) in
      rw (get_or-take p xs k d in_front) (h.0 k d (omega arith) in_front)),
  each_of Q (drop p xs) (λ k d lt. rw (get_or-drop p xs k d) (h.1 (p + k) d (omega arith) (omega (arith, lt, length-drop p xs)))),
)

-- tests over lists
pub any_none : {X : Type 0} (p : X → Bool) (xs : List X) → Each (λ x. p x ≡ false) xs → list_any p xs ≡ false
any_none p [] h = refl
any_none p (x ∷ xs) h = ap (λ b. b || list_any p xs) h.0 ∙ any_none p xs h.1

pub any_same : {X : Type 0} (p q : X → Bool) (xs : List X) → Each (λ x. p x ≡ q x) xs → list_any p xs ≡ list_any q xs
any_same p q [] h = refl
any_same p q (x ∷ xs) h = ap (λ b. b || list_any p xs) h.0 ∙ ap (λ b. q x || b) (any_same p q xs h.1)

pub each_not : {X : Type 0} (p : X → Bool) (xs : List X) → list_any p xs ≡ false → Each (λ x. p x ≡ false) xs
each_not p [] e = tt
each_not p (x ∷ xs) e = let both = or_parts (p x) (list_any p xs) e in (both.0, each_not p xs both.1)

pub any_there : {X : Type 0} (p : X → Bool) (xs ys : List X) (y : X) → p y ≡ true → list_any p (xs ++ y ∷ ys) ≡ true
any_there p [] ys y e = ap (λ b. b || list_any p ys) e
any_there p (x ∷ xs) ys y e = ap (λ b. p x || b) (any_there p xs ys y e) ∙ or-true (p x)

-- tests that the first or the last element decides
pub any_by_first : {X : Type 0} (p : X → Bool) (x : X) (xs : List X) → Each (λ y. p y ≡ true → p x ≡ true) xs → list_any p (x ∷ xs) ≡ p x
any_by_first p x [] h = or-false (p x)
any_by_first p x (y ∷ ys) h = grind (arith, h.0, any_by_first p x ys h.1)

pub any_led : {X : Type 0} (p : X → Bool) (xs : List X) (x : X) (rest : List X) → Each (λ y. p y ≡ true → p x ≡ true) xs
    → list_any p (xs ++ x ∷ rest) ≡ list_any p (x ∷ rest)
any_led p xs x rest h = grind (arith, list_any-append p xs (x ∷ rest), any_by_first p x xs h)

-- the elements that pass a test
pub each_filter : {X : Type 0} (p : X → Bool) (xs : List X) → Each (λ x. p x ≡ true) (filter p xs)
each_filter p xs = recursion_from_All (λ x. p x ≡ true) (filter p xs) (filter_passes p xs)

pub filter_all : {X : Type 0} (p : X → Bool) (xs : List X) → Each (λ x. p x ≡ true) xs → filter p xs ≡ xs
filter_all p [] h = refl
filter_all p (x ∷ xs) h = λ i. if h.0 i then x ∷ filter_all p xs h.1 i else filter_all p xs h.1 i

pub filter_none : {X : Type 0} (p : X → Bool) (xs : List X) → Each (λ x. p x ≡ false) xs → filter p xs ≡ []
filter_none p [] h = refl
filter_none p (x ∷ xs) h = ap (λ b. if b then x ∷ filter p xs else filter p xs) h.0 ∙ filter_none p xs h.1

pub filter_parts : {X : Type 0} (p : X → Bool) (xs ys : List X) → Each (λ x. p x ≡ true) xs → Each (λ x. p x ≡ false) ys → filter p (xs ++ ys) ≡ xs
filter_parts p xs ys low high = filter-append p xs ys ∙ (λ i. filter_all p xs low i ++ filter_none p ys high i) ∙ append-nil xs

pub filter-of_map : {X Y : Type 0} (f : X → Y) (p : Y → Bool) (q : X → Bool) → ((x : X) → p (f x) ≡ q x) → (xs : List X)
    → filter p (map f xs) ≡ map f (filter q xs)
filter-of_map f p q same [] = refl
filter-of_map f p q same (x ∷ xs) =
    (λ i. if same x i then f x ∷ filter-of_map f p q same xs i else filter-of_map f p q same xs i)
    ∙ elim (q x) as (λ b. (if b then f x ∷ map f (filter q xs) else map f (filter q xs))
    ≡ map f (if b then x ∷ filter q xs else filter q xs)) [ true ↦ refl | false ↦ refl ]

pub each_from_all : {X : Type 0} (p : X → Bool) (xs : List X) → list_all p xs ≡ true → Each (λ x. p x ≡ true) xs
each_from_all p [] h = tt
each_from_all p (x ∷ xs) h = let parts = and_parts (p x) (list_all p xs) h in (parts.0, each_from_all p xs parts.1)

-- where those that pass a test stand before the others
pub split_by : {X : Type 0} (p : X → Bool) (xs : List X) → Pairs (λ x y. p y ≡ true → p x ≡ true) xs → xs ≡ filter p xs ++ filter (λ x. not (p x)) xs
split_by p [] h = refl
split_by p (x ∷ xs) h =
    let fail : p x ≡ false
    → Each (λ y. p y ≡ false) xs =
    λ f. each_weaker (λ y. p y ≡ true → p x ≡ true) (λ y. p y ≡ false)
    (λ y back. false_from_ne_true (p y) (λ t. absurd (cc (sym (back t) ∙ f)))) xs h.0 in
    let none : p x ≡ false → filter p xs ≡ [] = λ f. filter_none p xs (fail f) in
    let rest : p x ≡ false
    → filter (λ y. not (p y)) xs ≡ xs =
    λ f. filter_all (λ y. not (p y)) xs (each_weaker (λ y. p y ≡ false) (λ y. not (p y) ≡ true) (λ y e. ap not e) xs (fail f)) in
    grind (arith, split_by p xs h.1, none, rest)

pub filter_front : {X : Type 0} (p : X → Bool) (xs : List X) → Pairs (λ x y. p y ≡ true → p x ≡ true) xs
    → filter p xs ≡ take (length (filter p xs)) xs
filter_front p xs h = sym (ap (take (length (filter p xs))) (split_by p xs h) ∙ take-append_seam (filter p xs) (filter (λ x. not (p x)) xs))
