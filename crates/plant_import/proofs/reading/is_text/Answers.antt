use Rattle.std.{specs.Str.{is_utf8}, proofs.Common.{◌≡◌, List, ℕ, true, false, Bool, refl, Result, Ok, Err, sym, ◌∙◌, IsUtf8, MatchResult, is_ok}}
use Rattle.std.proofs.lemmas.Str.{is_utf8-from_IsUtf8, IsUtf8-from_is_utf8}
use Rattle.plant_import.proofs.reading.is_text.Goals as goal

no_text : (bs : List ℕ) (b : Bool) → (IsUtf8 bs → ⊥) → is_utf8 bs ≡ b → b ≡ false
no_text bs true h e = absurd (h (IsUtf8-from_is_utf8 bs e))
no_text bs false h e = refl

tells : {A E : Type 0} (bs : List ℕ) (r : Result A E) (P : A → Type 0) (Q : E → Type 0)
    → MatchResult r (λ s. P s × IsUtf8 bs) (λ e. (IsUtf8 bs → ⊥) × Q e) → is_ok r ≡ is_utf8 bs
tells bs (Ok s) P Q h = sym (is_utf8-from_IsUtf8 bs h.1)
tells bs (Err e) P Q h = sym (no_text bs (is_utf8 bs) h.0 refl)

pub returns : goal.returns
returns c = c.is_ok.ensures.value ∙ tells c.args.bytes.now c.from_utf8.result _ _ c.from_utf8.ensures.cases
