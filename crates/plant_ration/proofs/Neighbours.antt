-- Tests of neighbours, place by place.
use Rattle.std.{specs.List.{list_all}, proofs.lemmas.{Bool.{and_right}, List.{length-map, get_or_default, Folds.{list_all-map}}}}
use Rattle.std.proofs.Common.{◌≡◌, ℕ, zero, suc, ◌+◌, ◌<◌, ◌≤◌, refl, sym, ap, ◌∙◌, List, [], ◌∷◌, length, get_or, map, Bool, true, false, ◌&&◌, arith, ◌-◌, subst, Vec, Global, eqb, nat_le}
use Rattle.plant_types.specs.Numbers.{is_seconds}
use Rattle.plant_ration.specs.{declared.cell.Cell.{Cell}, Matrix.{neighbours, no_lower, is_no_lower_row, is_ordered, has_shape}}

all_by : {A : Type 0} (ok : A → A → Bool) (xs : List A) → ((k : ℕ) (d : A) → suc k < length xs → ok (get_or xs k d) (get_or xs (suc k) d) ≡ true)
    → neighbours ok xs ≡ true
all_by ok [] h = refl
all_by ok (x ∷ []) h = refl
all_by ok (x ∷ y ∷ rest) h = grind (arith, h 0 x, all_by ok (y ∷ rest) (λ k d lt. h (suc k) d (omega arith)))

not_by : {A : Type 0} (ok : A → A → Bool) (xs : List A) (k : ℕ) → suc k < length xs → ((d : A) → ok (get_or xs k d) (get_or xs (suc k) d) ≡ false)
    → neighbours ok xs ≡ false
not_by ok [] k lt h = absurd (omega arith)
not_by ok (x ∷ []) k lt h = absurd (omega arith)
not_by ok (x ∷ y ∷ rest) zero lt h = ap (λ b. b && neighbours ok (y ∷ rest)) (h x)
not_by ok (x ∷ y ∷ rest) (suc k) lt h = and_right _ _ (not_by ok (y ∷ rest) k (omega arith) h)

-- each element and the next pass, where those before i do and i is past the last
pub neighbours_all : {A : Type 0} (ok : A → A → Bool) (xs : List A) (i : ℕ) → length xs ≤ i
    → ((k : ℕ) (d : A) → k + 1 < i → k + 1 < length xs → ok (get_or xs k d) (get_or xs (k + 1) d) ≡ true) → neighbours ok xs ≡ true
neighbours_all ok xs i le h =
    all_by ok xs (λ k d lt. let e : k + 1 ≡ suc k = omega arith in
    subst (λ (n : ℕ). ok (get_or xs k d) (get_or xs n d) ≡ true) e (h k d (omega arith) (omega arith)))

pub neighbours_not : {A : Type 0} (ok : A → A → Bool) (xs : List A) (i : ℕ) → 1 ≤ i → i < length xs
    → ((d : A) → ok (get_or xs (i - 1) d) (get_or xs i d) ≡ false) → neighbours ok xs ≡ false
neighbours_not ok xs zero one lt h = absurd (omega arith)
neighbours_not ok xs (suc k) one lt h = let e : suc k - 1 ≡ k = omega arith in
    not_by ok xs k lt (λ d. subst (λ (n : ℕ). ok (get_or xs n d) (get_or xs (suc k) d) ≡ false) e (h d))

pub neighbours_not_at : {A : Type 0} (ok : A → A → Bool) (xs : List A) (i : ℕ) (d e : A) → 1 ≤ i → i < length xs
    → ok (get_or xs (i - 1) d) (get_or xs i e) ≡ false → neighbours ok xs ≡ false
neighbours_not_at ok xs i d e one lt h =
    neighbours_not ok xs i one lt (λ x. rw (get_or_default xs (i - 1) x d (omega arith), get_or_default xs i x e lt) h)

pub neighbours-map : {A B : Type 0} (ok : B → B → Bool) (f : A → B) (xs : List A) → neighbours ok (map f xs) ≡ neighbours (λ x y. ok (f x) (f y)) xs
neighbours-map ok f [] = refl
neighbours-map ok f (x ∷ []) = refl
neighbours-map ok f (x ∷ y ∷ rest) = ap (λ b. ok (f x) (f y) && b) (neighbours-map ok f (y ∷ rest))

abbrev rows : List (Vec Cell Global) → List (List Cell)
rows cells = map (λ row. row.items) cells

both : {a b c d : Bool} → a ≡ b → c ≡ d → (a && c) ≡ (b && d)
both p q = cc

pub ordered_is : (cells : List (Vec Cell Global)) (a b : Bool) → a ≡ list_all (λ row. neighbours no_lower row.items) cells
    → b ≡ neighbours (λ less more. is_no_lower_row less.items more.items) cells → (a && b) ≡ is_ordered (rows cells)
ordered_is cells a b p q =
    both (p ∙ sym (list_all-map (neighbours no_lower) (λ row. row.items) cells)) (q ∙ sym (neighbours-map is_no_lower_row (λ row. row.items) cells))

length-rows : (cells : List (Vec Cell Global)) → length (rows cells) ≡ length cells
length-rows cells = length-map cells (λ row. row.items)

pub shape_is : (limits : List ℕ) (cells : List (Vec Cell Global)) (a b c : Bool)
    → a ≡ (nat_le 1 (length cells) && nat_le (length cells) 5 && nat_le (length limits) 4)
    → b ≡ list_all (λ row. eqb (length row.items) (length limits + 1)) cells → c ≡ list_all is_seconds limits
    → ((a && b) && c) ≡ has_shape limits (rows cells)
shape_is limits cells a b c p q r =
    both (both (p ∙ ap (λ n. nat_le 1 n && nat_le n 5 && nat_le (length limits) 4) (sym (length-rows cells))) (q
    ∙ sym (list_all-map (λ row. eqb (length row) (length limits + 1)) (λ row. row.items) cells))) r

pub not_above : (a b x y : Vec Cell Global) (xs ys : List Cell) → a ≡ x → b ≡ y → xs ≡ a.items → ys ≡ b.items → false ≡ is_no_lower_row xs ys
    → is_no_lower_row x.items y.items ≡ false
not_above a b x y xs ys p q r s t =
    subst (λ (v : Vec Cell Global). is_no_lower_row x.items v.items
    ≡ false) q (subst (λ (v : Vec Cell Global). is_no_lower_row v.items b.items ≡ false) p
    (subst (λ (l : List Cell). is_no_lower_row a.items l ≡ false) s (subst (λ (l : List Cell). is_no_lower_row l ys ≡ false) r (sym t))))
