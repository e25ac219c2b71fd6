-- Bytes that are written in several steps.
use Rattle.std.specs.Io.KnownBytes.{Appends}
use Rattle.std.proofs.Common.{◌≡◌, ℕ, zero, suc, ◌+◌, List, [], ◌∷◌, take, drop, Option, refl, sym, arith, suc-add}
use Rattle.std.proofs.{KnownBytes.{Appends-trans}, Math.{Nat.{zero-add}, Seq.{take-add}}, lemmas.List.{drop_all}}

-- some bytes more were taken
pub Appends-more : (a b c : Option (List ℕ)) (i n : ℕ) (xs rest : List ℕ) → Appends a b (take i xs) → rest ≡ drop i xs → Appends b c (take n rest)
    → Appends a c (take (i + n) xs)
Appends-more a b c i n xs rest g is h = rw (take-add, ← is) (Appends-trans a b c (take i xs) (take n rest) g h)

pub drop-add : (i n : ℕ) (xs : List ℕ) → drop (i + n) xs ≡ drop n (drop i xs)
drop-add zero n xs = rw zero-add refl
drop-add (suc i) n [] = rw suc-add (sym (drop_all n [] (omega arith)))
drop-add (suc i) n (x ∷ xs) = rw suc-add (drop-add i n xs)
