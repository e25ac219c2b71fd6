-- The tags of rows and the numbers of events, with a mark for the slot of each.
use Rattle.std.specs.{BTreeSet.{BTreeSet, Updates, contains}, List.{list_any}}
use Rattle.std.proofs.{lemmas.List.Folds.{list_any-append}, Math.Bool.{or-false}}
use Rattle.std.proofs.Common.{ap, append-nil, append_assoc, refl, sym, ◌∙◌, nat_cmp, Bool, List, [], cond, false, flat_map, get_or, set, suc, true, zero, ℕ, ◌%◌, ◌++◌, ◌∷◌, ◌≡◌, ◌||◌}
use Rattle.plant_alarm.specs.declared.event.Event.{Event}
use Rattle.plant_import.specs.{Needed.{around, is_around, names}, Numbers.{has_number}, Reached.{AreNamed, HaveNumbers, tag_slot}}
use Rattle.plant_import.specs.declared.beside.{Neighbours.{Neighbours}, Tags.{Tags}}
use Rattle.plant_import.proofs.public.{Counted.{turned}, Placed.{same_it}}
use Rattle.plant_types.{specs.Names.{Name, name_cmp, same_name}, proofs.public.{KeyedRowLaws.{tied}, Orders.{same_names}}}

-- marks stay, and one more is set
marked_more : (marks : List Bool) (p q : ℕ) → get_or marks q true ≡ true → get_or (set marks p true) q true ≡ true
marked_more [] p q h = h
marked_more (x ∷ xs) zero zero h = refl
marked_more (x ∷ xs) zero (suc q) h = h
marked_more (x ∷ xs) (suc p) zero h = h
marked_more (x ∷ xs) (suc p) (suc q) h = marked_more xs p q h

marked_it : (marks : List Bool) (p : ℕ) → get_or (set marks p true) p true ≡ true
marked_it [] p = refl
marked_it (x ∷ xs) zero = refl
marked_it (x ∷ xs) (suc p) = marked_it xs p

-- one of two tests passes
either : (a b : Bool) → (a || b) ≡ true → (a ≡ false → b ≡ true)
either true b h f = absurd (cc f)
either false b h f = h

pub tags_put : (old new : BTreeSet Name) (marks : List Bool) (rows : List Event) (row : Event) (t : Name) → t ≡ row.tag
    → Updates name_cmp old new t true → AreNamed (record { marks = marks; tags = old }) rows
    → AreNamed (record { marks = set marks (tag_slot row.tag) true; tags = new }) (rows ++ row ∷ [])
tags_put old new marks rows row t own put are = (
  λ a. put.0 a ∙ ap (λ x. cond (same_name x a) true (contains name_cmp old a)) own ∙ ap (cond (same_name row.tag a) true) (are.0 a)
      ∙ one (same_name row.tag a) (names rows a) ∙ sym (more a),
  λ a h. by a (names rows a) refl (sym (more a) ∙ h),
)
  where
    more : (a : Name) → names (rows ++ row ∷ []) a ≡ (names rows a || same_name row.tag a)
    more a = list_any-append (λ e. same_name e.tag a) rows (row ∷ []) ∙ ap (λ b. names rows a || b) (or-false (same_name row.tag a))

    one : (b c : Bool) → cond b true c ≡ (c || b)
    one true true = refl
    one true false = refl
    one false true = refl
    one false false = refl

    by : (a : Name) (b : Bool) → names rows a ≡ b → (names rows a || same_name row.tag a) ≡ true → get_or (set marks (tag_slot row.tag) true) (tag_slot a) true ≡ true
    by a true e h = marked_more marks (tag_slot row.tag) (tag_slot a) (are.1 a e)
    by a false e h =
        let same : row.tag ≡ a = same_names row.tag a (tied (name_cmp row.tag a) true (either (names rows a) (same_name row.tag a) h e) refl) in
        ap (λ x. get_or (set marks (tag_slot row.tag) true) (tag_slot x) true) (sym same) ∙ marked_it marks (tag_slot row.tag)

pub numbers_put : (old new : BTreeSet ℕ) (marks : List Bool) (es : List Event) (e : Event) → Updates nat_cmp old new e.seq true
    → HaveNumbers (record { marks = marks; numbers = old }) es
    → HaveNumbers (record { marks = set marks (e.seq % 1024) true; numbers = new }) (es ++ e ∷ [])
numbers_put old new marks es e put are = (
  λ n. put.0 n ∙ (λ i. cond (turned e.seq n i) true (are.0 n i)) ∙ one (has_number n e) (list_any (has_number n) es) ∙ sym (more n),
  λ n h. by n (list_any (has_number n) es) refl (sym (more n) ∙ h),
)
  where
    more : (n : ℕ) → list_any (has_number n) (es ++ e ∷ []) ≡ (list_any (has_number n) es || has_number n e)
    more n = list_any-append (has_number n) es (e ∷ []) ∙ ap (λ b. list_any (has_number n) es || b) (or-false (has_number n e))

    one : (b c : Bool) → cond b true c ≡ (c || b)
    one true true = refl
    one true false = refl
    one false true = refl
    one false false = refl

    by : (n : ℕ) (b : Bool) → list_any (has_number n) es ≡ b → (list_any (has_number n) es || has_number n e) ≡ true
        → get_or (set marks (e.seq % 1024) true) (n % 1024) true ≡ true
    by n true t h = marked_more marks (e.seq % 1024) (n % 1024) (are.1 n t)
    by n false t h =
        let same : n ≡ e.seq = same_it n e.seq (either (list_any (has_number n) es) (has_number n e) h t) in
        ap (λ x. get_or (set marks (e.seq % 1024) true) (x % 1024) true) same ∙ marked_it marks (e.seq % 1024)

-- the numbers around the rows, row after row
pub any_flat : {X : Type 0} (p : Event → Bool) (f : X → List Event) (xs : List X) → list_any p (flat_map f xs) ≡ list_any (λ x. list_any p (f x)) xs
any_flat p f [] = refl
any_flat p f (x ∷ xs) = list_any-append p (f x) (flat_map f xs) ∙ ap (λ b. list_any p (f x) || b) (any_flat p f xs)

pub flat_more : {X : Type 0} (f : X → List Event) (xs : List X) (x : X) → flat_map f (xs ++ x ∷ []) ≡ flat_map f xs ++ f x
flat_more f [] x = append-nil (f x)
flat_more f (y ∷ ys) x = ap (λ l. f y ++ l) (flat_more f ys x) ∙ sym (append_assoc (f y) (flat_map f ys) (f x))
