-- Two readings of one stream are one, save where httparse leaves a front open.
use Rattle.std.proofs.Common.{◌≡◌, ◌≢◌, ◌⊎◌, ℕ, List, [], ◌∷◌, length, drop, Result, refl, sym, ap, subst, ◌∙◌, inl, inr, arith}
use Rattle.httparse.specs.Grammar.{RequestHead}
use Rattle.plant_wire_call.specs.{Front.{Item, Front, waits, whole, broken, IsFront, Parses, IsUndecided, EndsAt}, declared.causes.Cause.{Cause}}
use Rattle.plant_wire_call.proofs.public.Cuts.{front_unique, whole_fits}

module _ (body_length : RequestHead → Result ℕ Cause) (item_of : RequestHead → List ℕ → Item) where
  -- the front is read in two ways somewhere in the stream
  abbrev pub OpensIn : List ℕ → Type 0
  OpensIn bytes = (items : List Item) × (rest : List ℕ) × Parses body_length item_of bytes items rest × IsUndecided rest

  opens_here : (bytes : List ℕ) → IsUndecided bytes → OpensIn bytes
  opens_here bytes o = ([], bytes, refl, o)

  other_front : (bytes : List ℕ) (f g : Front) → f ≢ g → IsFront body_length item_of bytes f → IsFront body_length item_of bytes g → OpensIn bytes
  other_front bytes f g apart v w = elim (front_unique body_length item_of bytes f g v w) [ inl e ↦ absurd (apart e) | inr o ↦ opens_here bytes o ]

  -- where a stream ends no whole request stands
  no_whole : (bytes : List ℕ) (x : Item) (n : ℕ) → EndsAt body_length item_of bytes → IsFront body_length item_of bytes (whole x n) → OpensIn bytes
  no_whole bytes x n (inl is) w = let fits = whole_fits body_length item_of bytes x n w in absurd (omega (arith, fits.0, fits.1, ap length is))
  no_whole bytes x n (inr (inl waiting)) w = other_front bytes waits (whole x n) (λ (e : waits ≡ whole x n). cc) waiting w
  no_whole bytes x n (inr (inr (cause, breaks))) w = other_front bytes (broken cause) (whole x n) (λ (e : broken cause ≡ whole x n). cc) breaks w

  first_unique : (bytes : List ℕ) (x y : Item) (xs ys : List Item) (r q : List ℕ) (n m : ℕ) → IsFront body_length item_of bytes (whole x n)
      → (whole x n ≡ whole y m) ⊎ IsUndecided bytes → Parses body_length item_of (drop m bytes) ys q
      → (Parses body_length item_of (drop n bytes) ys q → ((xs ≡ ys) × (r ≡ q)) ⊎ OpensIn (drop n bytes))
      → ((x ∷ xs ≡ y ∷ ys) × (r ≡ q)) ⊎ OpensIn bytes
  first_unique bytes x y xs ys r q n m v (inr o) later again = inr (opens_here bytes o)
  first_unique bytes x y xs ys r q n m v (inl e) later again =
      let same : x ≡ y = cc in
      let as_far : m ≡ n = cc in
      elim (again (subst (λ (k : ℕ). Parses body_length item_of (drop k bytes) ys q) as_far later)) [
        | inl both ↦ inl ((λ i. same i ∷ both.0 i), both.1)
        | inr opens ↦ inr (x ∷ opens.0, opens.1, (n, v, opens.2), opens.3)
      ]

  pub stream_unique : (bytes : List ℕ) (xs ys : List Item) (r q : List ℕ) → Parses body_length item_of bytes xs r → EndsAt body_length item_of r
      → Parses body_length item_of bytes ys q → EndsAt body_length item_of q → ((xs ≡ ys) × (r ≡ q)) ⊎ OpensIn bytes
  stream_unique bytes [] [] r q is end is' end' = inl (refl, sym is ∙ is')
  stream_unique bytes [] (y ∷ ys) r q is end (m, w, later) end' =
      inr (no_whole bytes y m (subst (λ (t : List ℕ). EndsAt body_length item_of t) (sym is) end) w)
  stream_unique bytes (x ∷ xs) [] r q (n, w, later) end is' end' =
      inr (no_whole bytes x n (subst (λ (t : List ℕ). EndsAt body_length item_of t) (sym is') end') w)
  stream_unique bytes (x ∷ xs) (y ∷ ys) r q (n, v, later) end (m, w, later') end' =
      first_unique bytes x y xs ys r q n m v (front_unique body_length item_of bytes (whole x n) (whole y m) v w) later'
      (λ (same : Parses body_length item_of (drop n bytes) ys q). stream_unique (drop n bytes) xs ys r q later end same end')
