-- A text without quotes and backslashes is written as it is.
use Rattle.std.{specs.List.{list_all}, proofs.Common.{◌≡◌, ◌==◌, ◌||◌, ◌&&◌, not, ℕ, List, [], ◌∷◌, Bool, true, false, refl, flat_map}}
use Rattle.plant_wire_answer.specs.Json.{escaped}

alone : (b : ℕ) (e : Bool) (t u : List ℕ) → (b == 34 || b == 92) ≡ e → (not e && list_all (λ x. not (x == 34 || x == 92)) t) ≡ true
    → (list_all (λ x. not (x == 34 || x == 92)) t ≡ true → flat_map escaped t ≡ t) → flat_map escaped (b ∷ t) ≡ b ∷ t
alone b true t u i e more = cc
alone b false t u i e more = rw (i, more e) refl

pub plain_text : (t : List ℕ) → list_all (λ b. not (b == 34 || b == 92)) t ≡ true → flat_map escaped t ≡ t
plain_text [] e = refl
plain_text (b ∷ t) e = alone b (b == 34 || b == 92) t t refl e (plain_text t)
