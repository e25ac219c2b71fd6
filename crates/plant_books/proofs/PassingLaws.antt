-- A list that passes whole, or of which nothing does.
use Rattle.std.proofs.Common.{◌≡◌, ◌∙◌, Bool, List, [], ◌∷◌, ap, cond, false, filter, refl, sym, true, true≢false}

pub passing_every : {A : Type 0} (b : Bool) (xs : List A) → b ≡ true → filter (λ _. b) xs ≡ xs
passing_every true [] h = refl
passing_every true (x ∷ xs) h = ap (λ rest. x ∷ rest) (passing_every true xs h)
passing_every false xs h = absurd (true≢false (sym h))

-- the same passes by two tests that answer alike
pub passing_as : {A : Type 0} {f g : A → Bool} → ((x : A) → f x ≡ g x) → (xs : List A) → filter f xs ≡ filter g xs
passing_as same xs = λ i. filter (λ x. same x i) xs

-- of which none passes
pub none_passes : {A : Type 0} {f : A → Bool} → ((x : A) → f x ≡ false) → (xs : List A) → filter f xs ≡ []
none_passes none [] = refl
none_passes {f = f} none (x ∷ xs) = ap (λ b. cond b (x ∷ filter f xs) (filter f xs)) (none x) ∙ none_passes none xs
