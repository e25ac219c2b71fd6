-- The events that none before them equals, by an equality that a test computes: what they are, and that no two of them are equal.
use Rattle.std.specs.{Cmp.{IsEquivalence}, List.{IsDistinct, list_any}}
use Rattle.std.proofs.Common.{arith, sym, Bool, List, [], false, if◌then◌else◌, not, true, ◌&&◌, ◌++◌, ◌∷◌, ◌≡◌}
use Rattle.std.proofs.{Math.Bool.{and-false}, lemmas.List.Folds.{list_any-append}}
use Rattle.plant_alarm.specs.{States.{passing}, declared.event.Event.{Event}}
use Rattle.plant_import.proofs.public.EachLaws.{each_not}

module _ {eq : Event → Event → Bool} (laws : IsEquivalence eq) where
  abbrev pub firsts : List Event → List Event → List Event
  firsts = passing (λ others e. not (list_any (eq e) others))

  -- a test that equal events pass alike
  pub any_first : (p : Event → Bool) → ((x : Event) → p x ≡ true → (y : Event) → eq x y ≡ p y) → (before es : List Event)
      → list_any p (firsts before es) ≡ (not (list_any p before) && list_any p es)
  any_first p alike before [] = sym (and-false _)
  any_first p alike before (e ∷ es) =
      let same : p e ≡ true → list_any (eq e) before ≡ list_any p before = λ t i. list_any (λ y. alike e t y i) before in
      grind (arith, same, any_first p alike (before ++ e ∷ []) es, list_any-append p before (e ∷ []), list_any-append p)

  pub member_first : (q : Event) (before es : List Event) → list_any (eq q) (firsts before es) ≡ (not (list_any (eq q) before) && list_any (eq q) es)
  member_first q = any_first (eq q) (λ x t y. sym (laws.congr q x y t))

  pub distinct_firsts : (before es : List Event) → IsDistinct eq (firsts before es)
  unfolding IsDistinct
  distinct_firsts before [] = tt
  distinct_firsts before (e ∷ es) =
      let rest = distinct_firsts (before ++ e ∷ []) es in
      let away : list_any (eq e) (firsts (before ++ e ∷ []) es) ≡ false =
      grind (arith, member_first e (before ++ e ∷ []) es, list_any-append (eq e) before (e ∷ []), laws.refl e) in
      elim (list_any (eq e) before) as (λ b. IsDistinct eq ((if not b then e ∷ [] else [])
      ++ firsts (before ++ e ∷ []) es)) [ true ↦ rest | false ↦ (each_not (eq e) _ away, rest) ]
