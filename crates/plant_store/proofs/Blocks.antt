-- Values in the order of their groups, group by group.
use Rattle.std.specs.{Cmp.{IsTotalOrder}, List.{AllByRecursion, list_any}, Ordering.{ordering_reverse}}
use Rattle.std.proofs.Common.{◌≡◌, ◌||◌, Bool, true, false, cond, List, [], ◌∷◌, ◌++◌, filter, flat_map, refl, sym, ap, ap₂, ◌∙◌, true≢false, Ordering, Less, Equal, Greater, is_eq, is_gt}
use Rattle.std.proofs.lemmas.Cmp.{alike_right}
use Rattle.sqlite_keyed.proofs.ListLemmas.{all_of, all_weaker, ascending_weaker, filter_none}
use Rattle.sqlite_trees.specs.Tree.{IsAscending}

-- where none that passes the first test stands behind one that passes the second
module _ {X : Type 0} (p q : X → Bool) where
  split : (xs : List X) → IsAscending (λ a b. q a ≡ true → p b ≡ false) xs → AllByRecursion (λ x. q x ≡ true → p x ≡ false) xs
      → filter p xs ++ filter q xs ≡ filter (λ x. p x || q x) xs
  split [] up apart = refl
  split (x ∷ xs) up apart = by (p x) (q x) refl refl (split xs up.1 apart.1)
    where
      by : (a b : Bool) → p x ≡ a → q x ≡ b → filter p xs ++ filter q xs ≡ filter (λ x. p x || q x) xs
          → cond a (x ∷ filter p xs) (filter p xs) ++ cond b (x ∷ filter q xs) (filter q xs) ≡ cond (a || b) (x ∷ filter (λ x. p x || q x) xs)
          (filter (λ x. p x || q x) xs)
      by true true e f more = absurd (true≢false (sym e ∙ apart.0 f))
      by true false e f more = ap (λ l. x ∷ l) more
      by false false e f more = more
      by false true e f more =
          let none : filter p xs ≡ [] = filter_none p xs (all_weaker _ (λ y. p y ≡ false) (λ y h. h f) xs up.0) in
          ap (λ l. l ++ (x ∷ filter q xs)) none ∙ ap (λ l. x ∷ l) (sym (ap (λ l. l ++ filter q xs) none) ∙ more)

module _ {U X : Type 0} (cmp : U → U → Ordering) (total : IsTotalOrder cmp) (of : X → U) where
  abbrev pub is_under : U → X → Bool
  is_under u x = is_eq (cmp (of x) u)

  abbrev pub is_known : List U → X → Bool
  is_known us x = list_any (λ u. is_under u x) us

  above : (u : U) (vs : List U) → AllByRecursion (λ v. cmp u v ≡ Less) vs → (x : X) → is_known vs x ≡ true → cmp u (of x) ≡ Less
  above u [] all x h = absurd (true≢false (sym h))
  above u (v ∷ vs) all x h = by (cmp (of x) v) refl h (above u vs all.1 x)
    where
      by : (o : Ordering) → cmp (of x) v ≡ o → (is_eq o || is_known vs x) ≡ true → (is_known vs x ≡ true → cmp u (of x) ≡ Less) → cmp u (of x) ≡ Less
      by Equal e h more = alike_right total (of x) v u e ∙ all.0
      by Less e h more = more h
      by Greater e h more = more h

  not_under : (u : U) (x : X) → cmp u (of x) ≡ Less → is_under u x ≡ false
  not_under u x less = ap is_eq (total.antisymm (of x) u ∙ ap ordering_reverse less)

  further : (u : U) (a b : X) → is_gt (cmp (of a) (of b)) ≡ false → cmp u (of a) ≡ Less → cmp u (of b) ≡ Less
  further u a b h less = by (cmp (of a) (of b)) refl h
    where
      by : (o : Ordering) → cmp (of a) (of b) ≡ o → is_gt o ≡ false → cmp u (of b) ≡ Less
      by Less e h = total.trans u (of a) (of b) less e
      by Equal e h = sym (alike_right total (of a) (of b) u e) ∙ less
      by Greater e h = absurd (true≢false h)

  pub blocks : (us : List U) → IsAscending (λ u v. cmp u v ≡ Less) us → (xs : List X) → IsAscending (λ a b. is_gt (cmp (of a) (of b)) ≡ false) xs
      → flat_map (λ u. filter (is_under u) xs) us ≡ filter (is_known us) xs
  blocks [] up xs rise = sym (filter_none (λ x. false) xs (all_of (λ x. false ≡ false) (λ x. refl) xs))
  blocks (u ∷ us) up xs rise =
      ap (λ l. filter (is_under u) xs ++ l) (blocks us up.1 xs rise)
      ∙ split (is_under u) (is_known us) xs (ascending_weaker _ _ (λ a b h k. not_under u b (further u a b h (above u us up.0 a k))) xs rise)
      (all_of (λ x. is_known us x ≡ true → is_under u x ≡ false) (λ x k. not_under u x (above u us up.0 x k)) xs)
