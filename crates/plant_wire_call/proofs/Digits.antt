-- A number read digit by digit, up to a limit.
use Rattle.std.specs.{Char.{digit_value, is_ascii_digit}, List.{list_all}, Str.Parse.{digits_value_after, digits_value}}
use Rattle.std.proofs.Common.{◌≡◌, ℕ, Some, ◌+◌, ◌*◌, ◌^◌, ◌<◌, ◌≤◌, List, [], ◌∷◌, ◌++◌, ◌-◌, length, take, get_or, Bool, true, false, min, refl, arith}
use Rattle.std.proofs.{Math.Nat.{pow-suc, pow-le-pow_right, mul_assoc, mul_right_comm}, lemmas.Bool.{leb-true, and_parts, Decides.{nat_tests}}}
use Rattle.std.proofs.lemmas.List.{take_more, Folds.{list_all_at}}
use Rattle.plant_wire_call.specs.Path.{is_change_number, change_number_of}

digits_value_after-push : (n : ℕ) (xs : List ℕ) (d : ℕ) → digits_value_after 10 n (xs ++ d ∷ []) ≡ digits_value_after 10 n xs * 10 + digit_value d
digits_value_after-push n [] d = refl
digits_value_after-push n (x ∷ xs) d = digits_value_after-push (n * 10 + digit_value x) xs d

pub digits_value-push : (xs : List ℕ) (d : ℕ) → digits_value 10 (xs ++ d ∷ []) ≡ digits_value 10 xs * 10 + digit_value d
digits_value-push xs d = digits_value_after-push 0 xs d

pub capped_more : (limit value d : ℕ) → min (min value limit * 10 + d) limit ≡ min (value * 10 + d) limit
capped_more limit value d = omega arith

digit_is : (d : ℕ) → is_ascii_digit d ≡ true → digit_value d ≡ d - 48
digit_is d h = grind (arith, nat_tests)

digit_at : (xs : List ℕ) (i : ℕ) → list_all is_ascii_digit xs ≡ true → i < length xs → is_ascii_digit (get_or xs i 0) ≡ true
digit_at xs i digits lt = go (is_ascii_digit (get_or xs i 0)) refl
  where
    go : (b : Bool) → is_ascii_digit (get_or xs i 0) ≡ b → is_ascii_digit (get_or xs i 0) ≡ true
    go true e = e
    go false e = let no = list_all_at is_ascii_digit xs i 0 lt e in cc

-- one digit more
pub capped_push : (xs : List ℕ) (i value next : ℕ) → list_all is_ascii_digit xs ≡ true → i < length xs
    → value ≡ min (digits_value 10 (take i xs)) 1048577 → next ≡ min (value * 10 + (get_or xs i 0 - 48)) 1048577
    → next ≡ min (digits_value 10 (take (i + 1) xs)) 1048577
capped_push xs i value next digits lt was is =
    let d = digit_is (get_or xs i 0) (digit_at xs i digits lt) in
    let p = digits_value-push (take i xs) (get_or xs i 0) in
    let more = capped_more 1048577 (digits_value 10 (take i xs)) (get_or xs i 0 - 48) in
    rw (take_more xs i 0 lt, p, d, ← more, ← was) is

digit_below : (d : ℕ) → is_ascii_digit d ≡ true → digit_value d < 10
digit_below d h = grind (arith, nat_tests)

-- digits after a number below m
below_after : (xs : List ℕ) (n m : ℕ) → list_all is_ascii_digit xs ≡ true → n < m → digits_value_after 10 n xs < m * 10 ^ length xs
below_after [] n m digits lt = omega (arith, lt)
below_after (x ∷ xs) n m digits lt =
    let h = and_parts _ _ digits in
    let d = digit_below x h.0 in
    let step : n * 10 + digit_value x < m * 10 = omega (arith, lt, d) in
    let rest = below_after xs (n * 10 + digit_value x) (m * 10) h.1 step in
    rw (pow-suc 10 (length xs), ← mul_assoc m (10 ^ length xs) 10, ← mul_right_comm m 10 (10 ^ length xs)) rest

-- a number of 5 digits at most is the one that is read up to the limit
few_digits : (xs : List ℕ) → list_all is_ascii_digit xs ≡ true → length xs ≤ 5 → min (digits_value 10 xs) 1048577 ≡ digits_value 10 xs
few_digits xs digits few =
    let below = below_after xs 0 1 digits (omega arith) in
    let top : 10 ^ length xs ≤ 10 ^ 5 = pow-le-pow_right (omega arith) few in
    omega (arith, below, top)

pub number_told : (text : List ℕ) (n : ℕ) → is_change_number text ≡ true → n ≡ min (digits_value 10 text) 1048577 → Some n ≡ change_number_of text
number_told text n is e =
    let h = and_parts _ _ (and_parts _ _ is).0 in
    let value = few_digits text (and_parts _ _ h.0).1 (leb-true (length text) 5 h.1) in
    rw (is, e, value) refl
