-- Rows in the order of their numbers: the place of a number among them, and rows put among them.
use Rattle.std.proofs.lemmas.List.Elements.{All-filter, All-from_recursion, All-map, recursion_from_All}
use Rattle.std.specs.{FinMap.Entries.{below_all}}
use Rattle.std.specs.List.{AllAdjacentBelow, IsAllAdjacentAnswer, IsDistinct, Sorted.{IsNonDecreasingBy, IsPartitionPoint, IsPartitionedBy}}
use Rattle.std.{specs.Ordering.{eq_by_cmp}, proofs.lemmas.Bool.{ltb-false, ltb-true, Decides.{nat_tests}}}
use Rattle.std.proofs.lemmas.List.{drop_more, take-append-drop, Sorted.{IsNonDecreasingBy-from_all_adjacent, IsPartitionedBy-ltb}}
use Rattle.std.proofs.Common.{ap, append_assoc, arith, drop, get_or, nat_lt, refl, subst, sym, take, ◌∙◌, is_lt, nat_cmp, Bool, IsTrue, List, T, [], false, filter, fold, if◌then◌else◌, length, map, option_map, slice_get, true, unwrap_or, ℕ, ◌++◌, ◌+◌, ◌<◌, ◌∷◌, ◌≡◌, ◌≤◌, ◌↔◌}
use Rattle.plant_import.proofs.public.EachLaws.{Each, Pairs, all_pairs, each_append, each_weaker, pairs_drop, pairs_of, parted_each}
use Rattle.plant_types.{specs.KeyedRows.{IsInOrder, put_row}, proofs.public.Halves.{both, first, second}}

less_of : (m n : ℕ) → T (is_lt (nat_cmp m n)) → m < n
less_of m n h = grind (arith, nat_tests)

is_less : (m n : ℕ) → m < n → T (is_lt (nat_cmp m n))
is_less m n lt = grind (arith, nat_tests)

pub other : (m n : ℕ) → n < m → eq_by_cmp nat_cmp m n ≡ false
other m n lt = grind (arith, nat_tests)

pub other_above : (m n : ℕ) → m < n → eq_by_cmp nat_cmp m n ≡ false
other_above m n lt = grind (arith, nat_tests)

pub same_it : (m n : ℕ) → eq_by_cmp nat_cmp m n ≡ true → m ≡ n
same_it m n ties = grind (arith, nat_tests)

module _ {X : Type 0} (key : X → ℕ) where
  abbrev pub AllAbove : ℕ → List X → Type 0
  AllAbove n xs = Each (λ x. n < key x) xs

  abbrev pub AllFrom : ℕ → List X → Type 0
  AllFrom n xs = Each (λ x. n ≤ key x) xs

  abbrev pub AllBelow : ℕ → List X → Type 0
  AllBelow n xs = Each (λ x. key x < n) xs

  abbrev pub Rises : List X → Type 0
  Rises = Pairs (λ x y. key x < key y)

  above_of : (n : ℕ) (xs : List X) → T (below_all nat_cmp n (map (λ r. (key r, r)) xs)) → AllAbove n xs
  above_of n [] h = tt
  above_of n (x ∷ xs) h = (less_of n (key x) (first _ _ h), above_of n xs (second _ _ h))

  of_above : (n : ℕ) (xs : List X) → AllAbove n xs → T (below_all nat_cmp n (map (λ r. (key r, r)) xs))
  of_above n [] h = tt
  of_above n (x ∷ xs) h = both _ _ (is_less n (key x) h.0) (of_above n xs h.1)

  pub rises_of : (xs : List X) → IsInOrder nat_cmp key xs → Rises xs
  rises_of [] h = tt
  rises_of (x ∷ xs) h = (above_of (key x) xs (first _ _ h), rises_of xs (second _ _ h))

  pub in_order_of : (xs : List X) → Rises xs → IsInOrder nat_cmp key xs
  in_order_of [] h = tt
  in_order_of (x ∷ xs) h = both _ _ (of_above (key x) xs h.0) (in_order_of xs h.1)

  not_falling : (xs : List X) → AllAdjacentBelow (λ x y. key x < key y) xs (length xs) → IsNonDecreasingBy key xs
  not_falling xs h = IsNonDecreasingBy-from_all_adjacent key xs (λ k d lt. let less = h k d lt in omega (arith, less))

  -- the numbers before a place are smaller, and the others aren't
  pub parted : (xs : List X) (n : ℕ) → IsInOrder nat_cmp key xs → IsPartitionedBy (λ x. nat_lt (key x) n) xs
  parted xs n h =
      IsPartitionedBy-ltb key xs n (not_falling xs (λ k d lt. all_pairs (λ x y. key x < key y) xs (rises_of xs h) k (k + 1) d (omega arith) lt))

  abbrev pub Parts : ℕ → List X → ℕ → Type 0
  Parts n xs p = IsPartitionPoint (λ x. key x < n) (λ x. n ≤ key x) xs p

  abbrev pub put : X → List X → List X
  put = put_row nat_cmp key

  pub put_behind : (r x : X) (xs : List X) → key x < key r → put r (x ∷ xs) ≡ x ∷ put r xs
  put_behind r x xs lt = grind (arith, nat_tests)

  -- whether the row at a place, if there is one, has a number
  abbrev pub is_at : List X → ℕ → ℕ → Bool
  is_at xs p n = unwrap_or (option_map (λ x. eq_by_cmp nat_cmp n (key x)) (slice_get xs p)) false

  -- rows put behind others
  pub put_after : (r : X) (xs ys : List X) → AllBelow (key r) xs → put r (xs ++ ys) ≡ xs ++ put r ys
  put_after r [] ys h = refl
  put_after r (x ∷ xs) ys h = put_behind r x (xs ++ ys) h.0 ∙ ap (λ l. x ∷ l) (put_after r xs ys h.1)

  abbrev pub puts : List X → List X → List X
  puts xs rs = fold (λ es r. put r es) xs rs

  abbrev pub EachBehind : List X → List X → Type 0
  EachBehind xs [] = Unit {0}
  EachBehind xs (r ∷ rs) = AllBelow (key r) xs × EachBehind xs rs

  pub puts_after : (rs xs ys : List X) → EachBehind xs rs → puts (xs ++ ys) rs ≡ xs ++ puts ys rs
  puts_after [] xs ys h = refl
  puts_after (r ∷ rs) xs ys h = ap (λ l. puts l rs) (put_after r xs ys h.0) ∙ puts_after rs xs (put r ys) h.1

  pub behind_end : (r : X) (xs rs : List X) → AllBelow (key r) xs → AllAbove (key r) rs → EachBehind (xs ++ r ∷ []) rs
  behind_end r xs [] h k = tt
  behind_end r xs (s ∷ rs) h k = (
    each_append (λ y. key y < key s) xs (r
        ∷ []) (each_weaker (λ y. key y < key r) (λ y. key y < key s) (λ y lt. omega (arith, lt, k.0)) xs h) (k.0, tt),
    behind_end r xs rs h k.1,
  )

  -- rising rows that are put one by one are those rows
  pub puts_none : (rs : List X) → Rises rs → puts [] rs ≡ rs
  puts_none [] h = refl
  puts_none (r ∷ rs) h = puts_after rs (r ∷ []) [] (behind_end r [] rs tt h.0) ∙ ap (λ l. r ∷ l) (puts_none rs h.1)

  -- rows of which each is above the one before it rise, and no others
  neighbours_rise : (rows : List X) → AllAdjacentBelow (λ x y. key x < key y) rows (length rows) → Rises rows
  neighbours_rise rows h =
      pairs_of (λ x y. key x < key y) rows (λ i j d lt within.
      let next = h i d (omega arith) in
      let far = not_falling rows h (i + 1) j d (omega arith) within in
      omega (arith, next, far))

  -- the answer of is_sorted_by says whether the numbers rise
  pub rise_is_told : (rows : List X) (b : Bool) → IsAllAdjacentAnswer (λ x y b. b ≡ nat_lt (key x) (key y)) rows b → IsTrue b
      ↔ IsInOrder nat_cmp key rows
  rise_is_told rows true h = (λ _. in_order_of rows (neighbours_rise rows (λ k d within. ltb-true _ _ (sym (h k d within)))), λ _. refl)
  rise_is_told [] false h = absurd (omega (arith, h.1))
  rise_is_told (x ∷ xs) false h = (
    λ f. cc f,
    λ order.
        let up = all_pairs (λ x y. key x < key y) (x ∷ xs) (rises_of (x ∷ xs) order) h.0 (h.0 + 1) x (omega arith) h.1 in
        let le = ltb-false _ _ (sym (h.2 x)) in
        absurd (omega (arith, up, le)),
  )

  -- the rows without the first, where it has a number
  abbrev pub without_first : ℕ → List X → List X
  without_first n xs = if is_at xs 0 n then drop 1 xs else xs

  put_first : (r : X) (xs : List X) → AllFrom (key r) xs → put r xs ≡ r ∷ without_first (key r) xs
  put_first r [] h = refl
  put_first r (x ∷ xs) h = grind (arith, nat_tests, h.0)

  -- the first of rising rows is put between those below it and those from it on, and the rest behind it
  pub puts_first : (r : X) (below above rs : List X) → AllBelow (key r) below → AllFrom (key r) above → AllAbove (key r) rs
      → puts (below ++ above) (r ∷ rs) ≡ (below ++ r ∷ []) ++ puts (without_first (key r) above) rs
  puts_first r below above rs low high more =
      ap (λ l. puts l rs)
      (put_after r below above low ∙ ap (λ l. below ++ l) (put_first r above high)
      ∙ sym (append_assoc below (r ∷ []) (without_first (key r) above)))
      ∙ puts_after rs (below ++ r ∷ []) (without_first (key r) above) (behind_end r below rs low more)

  -- the two parts of rising rows at the place of a number
  pub record AreCut (n : ℕ) (xs below above : List X) : Type 0 where
    pub whole : xs ≡ below ++ above
    pub low : AllBelow n below
    pub high : AllFrom n above

  pub cut : (n : ℕ) (xs : List X) (p : ℕ) → Parts n xs p → p ≤ length xs → AreCut n xs (take p xs) (drop p xs)
  cut n xs p h le =
      let parts = parted_each (λ x. key x < n) (λ x. n ≤ key x) xs p h le in
      record { whole = sym (take-append-drop p xs); low = parts.0; high = parts.1 }

  -- parts of rising rows rise
  pub rises_drop : (k : ℕ) (xs : List X) → Rises xs → Rises (drop k xs)
  rises_drop = pairs_drop (λ x y. key x < key y)

  pub rises_without : (n : ℕ) (xs : List X) → Rises xs → Rises (without_first n xs)
  rises_without n xs h = elim (is_at xs 0 n) as (λ b. Rises (if b then drop 1 xs else xs)) [ true ↦ rises_drop 1 xs h | false ↦ h ]

  -- one more of two rising lists that are joined
  pub puts_next : (all rest more below above whole : List X) (p i : ℕ) (r : X) → all ++ puts rest (drop i more) ≡ whole → Rises rest → Rises more
      → i < length more → r ≡ get_or more i r
      → Parts (key r) rest p → p ≤ length rest → below ≡ take p rest → above ≡ drop p rest
      → ((all ++ below) ++ r ∷ []) ++ puts (without_first (key r) above) (drop (i + 1) more) ≡ whole
  puts_next all rest more below above whole p i r so rises goes lt is parts le eb ea =
      let here : drop i more ≡ r ∷ drop (i + 1) more = drop_more more i r lt ∙ ap (λ x. x ∷ drop (i + 1) more) (sym is) in
      let parted_so : AreCut (key r) rest (take p rest) (drop p rest) = cut (key r) rest p parts le in
      let tail : Rises (r ∷ drop (i + 1) more) = subst (λ (l : List X). Rises l) here (rises_drop i more goes) in
      let step : puts rest (drop i more) ≡ (take p rest ++ r ∷ []) ++ puts (without_first (key r) (drop p rest)) (drop (i + 1) more) =
      ap (puts rest) here ∙ ap (λ l. puts l (r ∷ drop (i + 1) more)) parted_so.whole
      ∙ puts_first r (take p rest) (drop p rest) (drop (i + 1) more) parted_so.low parted_so.high tail.0 in
      ap (λ l. l ++ puts (without_first (key r) above) (drop (i + 1) more)) (append_assoc all below (r ∷ []))
      ∙ append_assoc all (below ++ r ∷ []) (puts (without_first (key r) above) (drop (i + 1) more))
      ∙ (λ j. all ++ ((eb j ++ r ∷ []) ++ puts (without_first (key r) (ea j)) (drop (i + 1) more))) ∙ ap (λ l. all ++ l) (sym step) ∙ so

  pub rises_left : (n : ℕ) (rest above left : List X) (p : ℕ) → Rises rest → above ≡ drop p rest → left ≡ without_first n above → Rises left
  rises_left n rest above left p rises ea el =
      subst (λ (l : List X). Rises l) (sym el) (rises_without n above (subst (λ (l : List X). Rises l) (sym ea) (rises_drop p rest rises)))

-- no two of rising numbers are equal
pub rising_distinct : (ns : List ℕ) → Rises (λ m. m) ns → IsDistinct (eq_by_cmp nat_cmp) ns
unfolding IsDistinct
rising_distinct [] h = tt
rising_distinct (n ∷ ns) h = (each_weaker (λ m. n < m) (λ m. eq_by_cmp nat_cmp n m ≡ false) (other_above n) ns h.0, rising_distinct ns h.1)

-- the keys of some of rising rows rise
module _ {X : Type 0} (key : X → ℕ) (p : X → Bool) where
  keys_above : (n : ℕ) (xs : List X) → AllAbove key n xs → AllAbove (λ m. m) n (map key (filter p xs))
  keys_above n xs h =
      recursion_from_All _ _ (All-map (λ m. n < m) key (filter p xs) (All-filter p (λ x. n < key x) xs (All-from_recursion (λ x. n < key x) xs h)))

  pub keys_rise : (xs : List X) → Rises key xs → Rises (λ m. m) (map key (filter p xs))
  keys_rise [] h = tt
  keys_rise (x ∷ xs) h =
      elim (p x) as (λ b. Rises (λ m. m) (map key (if b then x ∷ filter p xs else filter p xs))) [
        | true ↦ (keys_above (key x) xs h.0, keys_rise xs h.1)
        | false ↦ keys_rise xs h.1
      ]
