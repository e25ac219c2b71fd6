-- The rows of a number among rows whose numbers do not fall: where they begin and end, and those of several numbers.
use Rattle.std.{proofs.lemmas.{List.Elements.{filter_agree}, Bool.{le-ltb}}}
use Rattle.std.specs.{List.Sorted.{IsNonDecreasingBy, IsPartitionPoint, IsPartitionedBy, IsStrictlySortedBy}}
use Rattle.std.proofs.Common.{Bool, List, [], ap, arith, cond, drop, false, get_or, inl, inr, length, not, refl, subst, suc, sym, take, true, zero, ℕ, ◌++◌, ◌<◌, ◌∙◌, ◌∷◌, ◌≡◌, ◌≤◌, ◌⊎◌, nat_cmp, filter, nat_le, nat_lt, ◌||◌, ◌&&◌}
use Rattle.std.proofs.lemmas.{Bool.{cases_order, le-leb, lt-ltb, or_right, lt-leb, and_right}, List.Sorted.{IsPartitionedBy-leb, IsPartitionedBy-ltb}}
use Rattle.plant_books.{proofs.NumbersAmong.{among, among_more, none_among, or_none, smaller}}
use Rattle.plant_import.proofs.public.Placed.{AllBelow, other, other_above}
use Rattle.plant_model.specs.{Histories.{same_number}}
use Rattle.plant_model.proofs.public.RowsFound.{tied_numbers}

-- ---- what stands before the place where a test changes, and what stands from it on

module _ {X : Type 0} (q : X → Bool) where
  abbrev pub Parted : List X → ℕ → Type 0
  Parted xs p = IsPartitionPoint (λ x. q x ≡ true) (λ x. q x ≡ false) xs p

  later_all : (x : X) (xs : List X) → Parted (x ∷ xs) 0 → Parted xs 0
  later_all x xs h = ((λ k d low high. absurd (omega (arith, high))), (λ k d low high. h.1 (suc k) d (omega arith) (omega (arith, high))))

  later_one : (x : X) (xs : List X) (p : ℕ) → Parted (x ∷ xs) (suc p) → Parted xs p
  later_one x xs p h = (
    (λ k d low high. h.0 (suc k) d (omega arith) (omega (arith, high))),
    (λ k d low high. h.1 (suc k) d (omega (arith, low))
        (omega (arith, high))),
  )

  passes : (x : X) (xs : List X) (b : Bool) → q x ≡ b → cond b (x ∷ filter q xs) (filter q xs) ≡ filter q (x ∷ xs)
  passes x xs b is = ap (λ c. cond c (x ∷ filter q xs) (filter q xs)) (sym is)

  fails : (x : X) (xs : List X) (b : Bool) → q x ≡ b
      → cond (not b) (x ∷ filter (λ y. not (q y)) xs) (filter (λ y. not (q y)) xs) ≡ filter (λ y. not (q y)) (x ∷ xs)
  fails x xs b is = ap (λ c. cond (not c) (x ∷ filter (λ y. not (q y)) xs) (filter (λ y. not (q y)) xs)) (sym is)

  pub before_place : (xs : List X) (p : ℕ) → Parted xs p → take p xs ≡ filter q xs
  before_place [] zero h = refl
  before_place [] (suc p) h = refl
  before_place (x ∷ xs) zero h = before_place xs zero (later_all x xs h) ∙ passes x xs false (h.1 0 x (omega arith) (omega arith))
  before_place (x ∷ xs) (suc p) h = ap (λ l. x ∷ l) (before_place xs p (later_one x xs p h)) ∙ passes x xs true (h.0 0 x (omega arith) (omega arith))

  pub from_place : (xs : List X) (p : ℕ) → Parted xs p → drop p xs ≡ filter (λ y. not (q y)) xs
  from_place [] zero h = refl
  from_place [] (suc p) h = refl
  from_place (x ∷ xs) zero h = ap (λ l. x ∷ l) (from_place xs zero (later_all x xs h)) ∙ fails x xs false (h.1 0 x (omega arith) (omega arith))
  from_place (x ∷ xs) (suc p) h = from_place xs p (later_one x xs p h) ∙ fails x xs true (h.0 0 x (omega arith) (omega arith))

-- ---- numbers: below another, and not above it

exact : (m n : ℕ) → (not (nat_lt m n) && nat_le m n) ≡ same_number m n
exact m n = elim (cases_order m n) [
  | inl same ↦ (λ i. not (le-ltb m n (omega (arith, same)) i) && le-leb m n (omega (arith, same)) i) ∙ sym (tied_numbers m n same)
  | inr differ ↦ elim differ [
    | inl lt ↦ ap (λ b. not b && nat_le m n) (lt-ltb m n lt) ∙ sym (other_above m n lt)
    | inr gt ↦ ap (λ b. not (nat_lt m n) && b) (lt-leb m n gt) ∙ and_right (not (nat_lt m n)) false refl ∙ sym (other m n gt)
  ]
]

filter-filter : {X : Type 0} (p q : X → Bool) (xs : List X) → filter q (filter p xs) ≡ filter (λ x. p x && q x) xs
filter-filter p q [] = refl
filter-filter p q (x ∷ xs) =
    elim (p x) as (λ b. filter q (cond b (x ∷ filter p xs) (filter p xs))
    ≡ cond (b && q x) (x ∷ filter (λ x. p x && q x) xs) (filter (λ x. p x && q x) xs)) [
      | true ↦ ap (λ ys. cond (q x) (x ∷ ys) ys) (filter-filter p q xs)
      | false ↦ filter-filter p q xs
    ]

module _ {X : Type 0} (number : X → ℕ) where
  -- no number is smaller than this, and the numbers do not fall
  abbrev pub From : ℕ → List X → Type 0
  From n [] = Unit {0}
  From n (x ∷ xs) = (n ≤ number x) × From n xs

  abbrev pub Climb : List X → Type 0
  Climb [] = Unit {0}
  Climb (x ∷ xs) = From (number x) xs × Climb xs

  from_all : (n : ℕ) (xs : List X) → ((k : ℕ) (d : X) → k < length xs → n ≤ number (get_or xs k d)) → From n xs
  from_all n [] h = tt
  from_all n (x ∷ xs) h = (h 0 x (omega arith), from_all n xs (λ k d lt. h (suc k) d (omega (arith, lt))))

  pub climb : (xs : List X) → IsNonDecreasingBy number xs → Climb xs
  climb [] h = tt
  climb (x ∷ xs) h = (
    from_all (number x) xs (λ k d lt. h 0 (suc k) d (omega arith) (omega (arith, lt))),
    climb xs
        (λ i j d le lt. h (suc i) (suc j) d (omega (arith, le)) (omega (arith, lt))),
  )

  rest_rises : (k : ℕ) (xs : List X) → IsNonDecreasingBy number xs → IsNonDecreasingBy number (drop k xs)
  rest_rises zero xs h = h
  rest_rises (suc k) [] h = h
  rest_rises (suc k) (x ∷ xs) h = rest_rises k xs (λ i j d le lt. h (suc i) (suc j) d (omega (arith, le)) (omega (arith, lt)))

  pub parted_below : (n : ℕ) (xs : List X) → IsNonDecreasingBy number xs → IsPartitionedBy (λ x. nat_lt (number x) n) xs
  parted_below n xs h = IsPartitionedBy-ltb number xs n h

  pub parted_upto : (n k : ℕ) (xs : List X) → IsNonDecreasingBy number xs → IsPartitionedBy (λ x. nat_le (number x) n) (drop k xs)
  parted_upto n k xs h = IsPartitionedBy-leb number (drop k xs) n (rest_rises k xs h)

  -- the rows of one number
  abbrev pub those_of : ℕ → List X → List X
  those_of n xs = filter (λ x. same_number (number x) n) xs

  abbrev upto : ℕ → List X → List X
  upto n xs = filter (λ x. nat_le (number x) n) xs

  abbrev from_on : ℕ → List X → List X
  from_on n xs = filter (λ x. not (nat_lt (number x) n)) xs

  middle : (n : ℕ) (xs : List X) → upto n (from_on n xs) ≡ those_of n xs
  middle n xs = filter-filter (λ x. not (nat_lt (number x) n)) (λ x. nat_le (number x) n) xs ∙ filter_agree _ _ (λ x. exact (number x) n) xs

  pub cut_out : (n : ℕ) (xs : List X) (p e : ℕ) → Parted (λ x. nat_lt (number x) n) xs p → Parted (λ x. nat_le (number x) n) (drop p xs) e
      → take e (drop p xs) ≡ those_of n xs
  cut_out n xs p e low high = before_place (λ x. nat_le (number x) n) (drop p xs) e high
      ∙ ap (upto n) (from_place (λ x. nat_lt (number x) n) xs p low) ∙ middle n xs

  -- ---- the rows of several numbers, one number after another

  abbrev pub those_among : List ℕ → List X → List X
  those_among ks xs = filter (λ x. among ks (number x)) xs

  pub of_none : (xs : List X) → those_among [] xs ≡ []
  of_none [] = refl
  of_none (x ∷ xs) = of_none xs

  none_from : (ks : List ℕ) (n : ℕ) (xs : List X) → AllBelow (λ k. k) n ks → From n xs → those_among ks xs ≡ []
  none_from ks n [] low h = refl
  none_from ks n (x ∷ xs) low h = ap (λ b. cond b (x ∷ those_among ks xs) (those_among ks xs)) (none_among ks n (number x) low h.0)
      ∙ none_from ks n xs low h.1

  one_more : (ks : List ℕ) (n : ℕ) (xs : List X) → AllBelow (λ k. k) n ks → Climb xs
      → those_among (ks ++ n ∷ []) xs ≡ those_among ks xs ++ those_of n xs
  one_more ks n [] low h = refl
  one_more ks n (x ∷ xs) low h = by (cases_order (number x) n) (one_more ks n xs low h.1)
    where
      more : List X
      more = those_among (ks ++ n ∷ []) xs

      by : (number x ≡ n) ⊎ ((number x < n) ⊎ (n < number x)) → more ≡ those_among ks xs ++ those_of n xs
          → those_among (ks ++ n ∷ []) (x ∷ xs) ≡ those_among ks (x ∷ xs) ++ those_of n (x ∷ xs)
      by (inl same) rest =
          let none : those_among ks xs ≡ [] = none_from ks n xs low (subst (λ m. From m xs) same h.0) in
          ap (λ b. cond b (x ∷ more) more)
          (among_more ks n (number x) ∙ ap (λ b. among ks (number x) || (b || false)) (tied_numbers (number x) n same)
          ∙ or_right (among ks (number x)) true refl)
          ∙ ap (λ l. x ∷ l) (rest ∙ ap (λ l. l ++ those_of n xs) none)
          ∙ sym (ap (λ b. cond b (x ∷ those_among ks xs) (those_among ks xs)
          ++ those_of n (x ∷ xs)) (none_among ks n (number x) low (omega (arith, same)))
          ∙ (λ i. none i ++ cond (tied_numbers (number x) n same i) (x ∷ those_of n xs) (those_of n xs)))
      by (inr (inl lt)) rest =
          ap (λ b. cond b (x ∷ more) more)
          (among_more ks n (number x) ∙ ap (λ b. among ks (number x) || (b || false)) (other_above (number x) n lt)
          ∙ or_none (among ks (number x)))
          ∙ elim (among ks (number x)) as (λ b. cond b (x ∷ more) more ≡ cond b (x ∷ those_among ks xs) (those_among ks xs) ++ those_of n xs) [
            | true ↦ ap (λ l. x ∷ l) rest
            | false ↦ rest
          ]
          ∙ ap (λ b. those_among ks (x ∷ xs) ++ cond b (x ∷ those_of n xs) (those_of n xs)) (sym (other_above (number x) n lt))
      by (inr (inr gt)) rest =
          ap (λ b. cond b (x ∷ more) more)
          (among_more ks n (number x) ∙ ap (λ b. among ks (number x) || (b || false)) (other (number x) n gt) ∙ or_none (among ks (number x)))
          ∙ elim (among ks (number x)) as (λ b. cond b (x ∷ more) more ≡ cond b (x ∷ those_among ks xs) (those_among ks xs) ++ those_of n xs) [
            | true ↦ ap (λ l. x ∷ l) rest
            | false ↦ rest
          ]
          ∙ ap (λ b. those_among ks (x ∷ xs) ++ cond b (x ∷ those_of n xs) (those_of n xs)) (sym (other (number x) n gt))

  pub goes_on : (xs : List X) (keys before t : List ℕ) (n : ℕ) (these so_far : List X) → IsStrictlySortedBy nat_cmp keys → before ++ n ∷ t ≡ keys
      → IsNonDecreasingBy number xs → so_far ≡ those_among before xs → these ≡ those_of n xs
      → so_far ++ these ≡ those_among (before ++ n ∷ []) xs
  goes_on xs keys before t n these so_far rising cut rise is here =
      let low = smaller before n t (subst (IsStrictlySortedBy nat_cmp) (sym cut) rising) in
      (λ i. is i ++ here i) ∙ sym (one_more before n xs low (climb xs rise))
