-- The first new number of each alarm of a file, row after row, and whether a kept event has a greater one.
use Rattle.std.specs.{BTreeMap.{BTreeMap, Updates, get}, List.{list_any}}
use Rattle.std.proofs.lemmas.Bool.{false≢true, Decides.{nat_tests}}
use Rattle.std.proofs.{lemmas.List.Folds.{list_any-append}, Math.Bool.{or-false}}
use Rattle.std.proofs.Common.{ap, arith, refl, sym, ◌∙◌, Bool, List, None, Option, Some, [], cond, false, nat_le, nat_lt, option_map, true, unwrap_or, ℕ, ◌&&◌, ◌++◌, ◌<◌, ◌∷◌, ◌≡◌, ◌||◌}
use Rattle.plant_alarm.specs.declared.event.Event.{Event}
use Rattle.plant_import.specs.{Needed.{is_overtaken}, Numbers.{has_number, is_other}, Reached.{AreFirst, is_passed}}
use Rattle.plant_import.proofs.public.EachLaws.{any_none, each_of}
use Rattle.plant_types.{specs.Names.{Name, name_cmp, same_name}, proofs.public.{KeyedRowLaws.{tied}, Orders.{same_names}}}

-- tests over two lists
any_either : (p q : Event → Bool) (xs : List Event) → list_any (λ x. p x || q x) xs ≡ (list_any p xs || list_any q xs)
any_either p q [] = refl
any_either p q (x ∷ xs) = grind (arith, any_either p q xs)

any_turned : (f : Event → Event → Bool) (xs ys : List Event) → list_any (λ y. list_any (λ x. f x y) xs) ys ≡ list_any (λ x. list_any (f x) ys) xs
any_turned f xs [] = sym (any_none (λ x. false) xs (each_of (λ x. false ≡ false) xs (λ k d lt. refl)))
any_turned f xs (y ∷ ys) =
    ap (λ b. list_any (λ x. f x y) xs || b) (any_turned f xs ys) ∙ sym (any_either (λ x. f x y) (λ x. list_any (f x) ys) xs)

any_both : (p q : Event → Bool) (b : Bool) (xs : List Event) → list_any (λ x. p x && (q x && b)) xs ≡ (list_any (λ x. p x && q x) xs && b)
any_both p q b [] = refl
any_both p q b (x ∷ xs) = grind (arith, any_both p q b xs)

-- the near events that overtake a new row tell whether a row is late
pub passed_near : (kept rows near : List Event)
    → list_any (λ k. is_passed kept rows k.tag k.seq) near ≡ list_any (λ e. is_overtaken near e && is_other kept e) rows
passed_near kept rows near =
    any_turned (λ e k. same_name e.tag k.tag && (nat_lt e.seq k.seq && is_other kept e)) rows near
    ∙ (λ i. list_any (λ e. any_both (λ k. same_name e.tag k.tag) (λ k. nat_lt e.seq k.seq) (is_other kept e) near i) rows)

passed_more : (kept rows : List Event) (row : Event) (a : Name) (n : ℕ)
    → is_passed kept (rows ++ row ∷ []) a n ≡ (is_passed kept rows a n || (same_name row.tag a && (nat_lt row.seq n && is_other kept row)))
passed_more kept rows row a n =
    list_any-append (λ e. same_name e.tag a && (nat_lt e.seq n && is_other kept e)) rows (row ∷ [])
    ∙ ap (λ b. is_passed kept rows a n || b) (or-false (same_name row.tag a && (nat_lt row.seq n && is_other kept row)))

pub first_known : (firsts : BTreeMap Name ℕ) (kept rows : List Event) (row : Event) → list_any (has_number row.seq) kept ≡ true
    → AreFirst firsts kept rows → AreFirst firsts kept (rows ++ row ∷ [])
first_known firsts kept rows row known are a n = grind (arith, are a n, passed_more kept rows row a n, known)

abbrev pub reaches : Option ℕ → ℕ → Bool
reaches o m = unwrap_or (option_map (λ x. nat_le x m) o) false

reached_passes : (o : Option ℕ) (m n : ℕ) → reaches o m ≡ true → nat_lt m n ≡ true → unwrap_or (option_map (λ x. nat_lt x n) o) false ≡ true
reached_passes None m n h lt = h
reached_passes (Some x) m n h lt = grind (arith, nat_tests, h, lt)

passes_reached : (o : Option ℕ) (m n : ℕ) → reaches o m ≡ false → unwrap_or (option_map (λ x. nat_lt x n) o) false ≡ true → nat_lt m n ≡ true
passes_reached None m n h lt = absurd (false≢true lt)
passes_reached (Some x) m n h lt = grind (arith, nat_tests, h, lt)

pub first_reached : (firsts : BTreeMap Name ℕ) (kept rows : List Event) (row : Event) → reaches (get name_cmp firsts row.tag) row.seq ≡ true
    → AreFirst firsts kept rows → AreFirst firsts kept (rows ++ row ∷ [])
first_reached firsts kept rows row reached are a n =
    let passes : same_name row.tag a ≡ true → nat_lt row.seq n ≡ true → is_passed kept rows a n ≡ true =
    λ t lt. ap (λ x. is_passed kept rows x n) (sym (same_names row.tag a (tied (name_cmp row.tag a) true t refl))) ∙ sym (are row.tag n)
    ∙ reached_passes (get name_cmp firsts row.tag) row.seq n reached lt in
    grind (arith, are a n, passed_more kept rows row a n, passes)

pub first_put : (old new : BTreeMap Name ℕ) (kept rows : List Event) (row : Event) (t : Name) → t ≡ row.tag
    → list_any (has_number row.seq) kept ≡ false → reaches (get name_cmp old row.tag) row.seq ≡ false → Updates name_cmp old new t (Some row.seq)
    → AreFirst old kept rows → AreFirst new kept (rows ++ row ∷ [])
first_put old new kept rows row t own fresh_number unreached put are a n =
    ap (λ o. unwrap_or (option_map (λ m. nat_lt m n) o) false) (put.0 a)
    ∙ ap (λ x. unwrap_or (option_map (λ m. nat_lt m n) (cond (same_name x a) (Some row.seq) (get name_cmp old a))) false) own
    ∙ by (same_name row.tag a) refl
    ∙ sym (passed_more kept rows row a n)
  where
    by : (b : Bool) → same_name row.tag a ≡ b
        → unwrap_or (option_map (λ m. nat_lt m n) (cond b (Some row.seq) (get name_cmp old a))) false
        ≡ (is_passed kept rows a n || (b && (nat_lt row.seq n && is_other kept row)))
    by true e =
        let less : is_passed kept rows a n ≡ true → nat_lt row.seq n ≡ true =
        λ p. passes_reached (get name_cmp old row.tag) row.seq n unreached
        (are row.tag n ∙ ap (λ x. is_passed kept rows x n) (same_names row.tag a (tied (name_cmp row.tag a) true e refl)) ∙ p) in
        grind (arith, fresh_number, less)
    by false e = are a n ∙ sym (or-false (is_passed kept rows a n))
