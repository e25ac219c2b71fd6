-- Numbers among several, and those of the matrices and changes that a scope takes in.
use Rattle.std.specs.{BTreeSet.{UpdatesBy, contains}, Cmp.{ranked}, List.{AllByRecursion, list_any, Sorted.{IsStrictlySortedBy}}}
use Rattle.std.proofs.Common.{List, [], ap, arith, false, refl, sym, true, ◌++◌, ◌∙◌, ◌∷◌, nat_cmp, Less, Bool, None, Option, Some, cond, filter, ℕ, ◌≡◌, ◌≤◌, ◌&&◌, ◌||◌, BTreeSet}
use Rattle.std.proofs.lemmas.{Bool.{or_right}, List.Folds.{list_any-append}}
use Rattle.plant_import.proofs.public.Placed.{AllBelow, other}
use Rattle.plant_books.specs.Asking.{AreSources, is_asked_number}
use Rattle.plant_model.specs.{Histories.{same_number}, declared.rows.{RecordEntry.{RecordEntry}, UnitRows.{UnitRows}}}
use Rattle.plant_model.specs.steps.Parts.{is_source}
use Rattle.plant_types.specs.Names.{Name}

-- a number is one of several
abbrev pub among : List ℕ → ℕ → Bool
among ks n = list_any (λ k. same_number n k) ks

pub or_none : (a : Bool) → (a || false) ≡ a
or_none true = refl
or_none false = refl

pub none_among : (ks : List ℕ) (n m : ℕ) → AllBelow (λ k. k) n ks → n ≤ m → among ks m ≡ false
none_among [] n m low le = refl
none_among (k ∷ ks) n m low le = ap (λ b. b || among ks m) (other m k (omega (arith, le, low.0))) ∙ none_among ks n m low.1 le

pub among_more : (ks : List ℕ) (n m : ℕ) → among (ks ++ n ∷ []) m ≡ (among ks m || (same_number m n || false))
among_more ks n m = list_any-append (λ k. same_number m k) ks (n ∷ [])

-- numbers in strictly rising order: those before one are smaller
all_less : (k : ℕ) (ks : List ℕ) (n : ℕ) (t : List ℕ) → AllByRecursion (λ y. nat_cmp k y ≡ Less) (ks ++ n ∷ t) → nat_cmp k n ≡ Less
all_less k [] n t h = h.0
all_less k (j ∷ ks) n t h = all_less k ks n t h.1

pub smaller : (ks : List ℕ) (n : ℕ) (t : List ℕ) → IsStrictlySortedBy nat_cmp (ks ++ n ∷ t) → AllBelow (λ k. k) n ks
unfolding IsStrictlySortedBy
smaller [] n t h = tt
smaller (k ∷ ks) n t h = (ranked k n Less (sym (all_less k ks n t h.0)), smaller ks n t h.1)

-- ---- the numbers of the changes that a scope takes in

-- one of those that pass a test passes another
any_passing : {X : Type 0} (p q : X → Bool) (xs : List X) → list_any q (filter p xs) ≡ list_any (λ x. p x && q x) xs
any_passing p q [] = refl
any_passing p q (x ∷ xs) = elim (p x) as (λ b. list_any q (cond b (x ∷ filter p xs) (filter p xs)) ≡ ((b && q x) || list_any (λ x. p x && q x) xs)) [
  | true ↦ ap (λ b. q x || b) (any_passing p q xs)
  | false ↦ any_passing p q xs
]

-- those of the records that it takes in, or none
pub taken : (rows : UnitRows) (records : List RecordEntry) (tags looked : Name → Bool) (numbers : BTreeSet ℕ) (b : Bool) (n : ℕ)
    → filter (λ r. looked r.tag) rows.records ≡ filter (λ r. looked r.tag) records → AreSources numbers tags records → tags ≡ looked → b ≡ true
    → contains nat_cmp numbers n ≡ (b && is_source rows looked n)
taken rows records tags looked numbers b n same are is wants =
    are n ∙ (λ i. list_any (λ r. is i r.tag && same_number n r.change_no) records)
    ∙ sym (any_passing (λ r. looked r.tag) (λ r. same_number n r.change_no) records)
    ∙ ap (list_any (λ r. same_number n r.change_no)) (sym same)
    ∙ any_passing (λ r. looked r.tag) (λ r. same_number n r.change_no) rows.records
    ∙ ap (λ c. c && is_source rows looked n) (sym wants)

pub left_out : (rows : UnitRows) (looked : Name → Bool) (numbers : BTreeSet ℕ) (b : Bool) (n : ℕ) → numbers.keys ≡ [] → b ≡ false
    → contains nat_cmp numbers n ≡ (b && is_source rows looked n)
left_out rows looked numbers b n none leaves = ap (list_any (λ k. same_number n k)) none ∙ ap (λ c. c && is_source rows looked n) (sym leaves)

or_swap : (a b : Bool) → cond a true b ≡ (b || a)
or_swap true b = sym (or_right b true refl)
or_swap false b = sym (or_none b)

-- the first of a set, or none
pub with_first : (old new : BTreeSet ℕ) (m n : ℕ) (b one : Bool) → UpdatesBy nat_cmp (nat_cmp m) old new true → old.keys ≡ [] → same_number m n ≡ one
    → b ≡ true → contains nat_cmp new n ≡ (b && one)
with_first old new m n b one put none is wants =
    put.0 n ∙ ap (λ ks. cond (same_number m n) true (list_any (λ k. same_number n k) ks)) none ∙ or_swap (same_number m n) false ∙ is
    ∙ ap (λ c. c && one) (sym wants)

pub without_first : (old : BTreeSet ℕ) (n : ℕ) (b one : Bool) → old.keys ≡ [] → b ≡ false → contains nat_cmp old n ≡ (b && one)
without_first old n b one none leaves = ap (list_any (λ k. same_number n k)) none ∙ ap (λ c. c && one) (sym leaves)

-- and the one that it names, if any
pub with_named : (old new : BTreeSet ℕ) (m n : ℕ) (b : Bool) (named : Option ℕ) → UpdatesBy nat_cmp (nat_cmp m) old new true → named ≡ Some m
    → contains nat_cmp old n ≡ b → contains nat_cmp new n ≡ (b || is_asked_number named n)
with_named old new m n b named put is was =
    put.0 n ∙ ap (cond (same_number m n) true) was ∙ or_swap (same_number m n) b ∙ ap (λ o. b || is_asked_number o n) (sym is)

pub without_named : (old : BTreeSet ℕ) (n : ℕ) (b : Bool) (named : Option ℕ) → named ≡ None → contains nat_cmp old n ≡ b
    → contains nat_cmp old n ≡ (b || is_asked_number named n)
without_named old n b named is was = was ∙ sym (or_none b) ∙ ap (λ o. b || is_asked_number o n) (sym is)
