-- Lists that a loop makes, one element after another.
use Rattle.std.{specs.List.{enumerate_from, take-map}, proofs.lemmas.List.{take_more, map-append, length-take-le, length-map}}
use Rattle.std.proofs.Common.{subst, ◌≡◌, ℕ, ◌+◌, ◌<◌, ◌≤◌, List, [], ◌∷◌, ◌++◌, Some, None, refl, ap, sym, ◌∙◌, length, get_or, take, arith, append_assoc, Bool, Option, false, filter, filter_map, if◌then◌else◌, option_to_list, map, flat_map, true, append-nil}
use Rattle.std.proofs.{Math.ListN.{get_or-map}, lemmas.{Grind.{flat_map-append}, List.Elements.{filter_map-append}}}

one : {X Y : Type 0} (f : X → Option Y) (x : X) (o : Option Y) → f x ≡ o → filter_map f (x ∷ []) ≡ option_to_list o
one f x None e = rw e refl
one f x (Some y) e = rw e refl

-- one more element of a list that is filtered and mapped
pub filter_map_more : {X Y : Type 0} (f : X → Option Y) (xs : List X) (i : ℕ) (d : X) (o : Option Y) → i < length xs → f (get_or xs i d) ≡ o
    → filter_map f (take (i + 1) xs) ≡ filter_map f (take i xs) ++ option_to_list o
filter_map_more f xs i d o lt e = ap (filter_map f) (take_more xs i d lt) ∙ filter_map-append f (take i xs) _
    ∙ ap (λ ys. filter_map f (take i xs) ++ ys) (one f (get_or xs i d) o e)

-- and of one whose elements are taken out of another
pub filter_map_some : {X Y : Type 0} (f : X → Option Y) (xs : List X) (x : X) (y : Y) (made : List Y) → f x ≡ Some y → made ≡ filter_map f xs
    → made ++ y ∷ [] ≡ filter_map f (xs ++ x ∷ [])
filter_map_some f xs x y made e is =
    ap (λ ys. ys ++ y ∷ []) is ∙ sym (filter_map-append f xs (x ∷ []) ∙ ap (λ ys. filter_map f xs ++ ys) (one f x (Some y) e))

pub filter_map_none : {X Y : Type 0} (f : X → Option Y) (xs : List X) (x : X) (made : List Y) → f x ≡ None → made ≡ filter_map f xs
    → made ≡ filter_map f (xs ++ x ∷ [])
filter_map_none f xs x made e is =
    is ∙ sym (filter_map-append f xs (x ∷ []) ∙ ap (λ ys. filter_map f xs ++ ys) (one f x None e) ∙ append-nil (filter_map f xs))

-- what a push adds to what a loop has made
pub grown : {A : Type 0} (first old new made more : List A) (xs : List A) → new ≡ old ++ xs → old ≡ first ++ made → more ≡ made ++ xs
    → new ≡ first ++ more
grown first old new made more xs pushed so_far next =
    pushed ∙ ap (λ ys. ys ++ xs) so_far ∙ append_assoc first made xs ∙ ap (λ ys. first ++ ys) (sym next)

enumerated-push : {A : Type 0} (s : ℕ) (xs : List A) (x : A) → enumerate_from s (xs ++ x ∷ []) ≡ enumerate_from s xs ++ (s + length xs, x) ∷ []
enumerated-push {A = A} s [] x = ap (λ n. let e : ℕ × A = (n, x) in e ∷ []) (let same : s ≡ s + 0 = omega arith in same)
enumerated-push {A = A} s (y ∷ xs) x =
    ap (λ es. (s, y) ∷ es) (enumerated-push (s + 1) xs x)
    ∙ ap (λ n. let e : ℕ × A = (n, x) in (s, y) ∷ (enumerate_from (s + 1) xs ++ e ∷ []))
    (let same : s + 1 + length xs ≡ s + length (y ∷ xs) = omega arith in same)

numbered_next : {A : Type 0} (xs : List A) (i : ℕ) (d : A) → i < length xs
    → enumerate_from 1 (take (i + 1) xs) ≡ enumerate_from 1 (take i xs) ++ (i + 1, get_or xs i d) ∷ []
numbered_next {A = A} xs i d lt =
    let le : i ≤ length xs = omega arith in
    let long : length (take i xs) ≡ i = length-take-le i xs le in
    ap (enumerate_from 1) (take_more xs i d lt) ∙ enumerated-push 1 (take i xs) (get_or xs i d)
    ∙ ap (λ n. let e : ℕ × A = (n, get_or xs i d) in enumerate_from 1 (take i xs) ++ e ∷ [])
    (let same : 1 + length (take i xs) ≡ i + 1 = omega (arith, long) in same)

-- one more element of a list with its numbers from 1
pub next_mapped : {A B C : Type 0} (put : B → C) (make : ℕ × A → B) (xs : List A) (i : ℕ) (d : A) → i < length xs
    → map put (map make (enumerate_from 1 (take (i + 1) xs))) ≡ map put (map make (enumerate_from 1 (take i xs))) ++ put (make (i + 1, get_or xs i d))
    ∷ []
next_mapped put make xs i d lt =
    ap (λ es. map put (map make es)) (numbered_next xs i d lt)
    ∙ ap (map put) (map-append make (enumerate_from 1 (take i xs)) _) ∙ map-append put (map make (enumerate_from 1 (take i xs))) _

pub next_flat_mapped : {A B C : Type 0} (put : B → C) (make : ℕ × A → List B) (xs : List A) (i : ℕ) (d : A) → i < length xs
    → map put (flat_map make (enumerate_from 1 (take (i + 1) xs))) ≡ map put (flat_map make (enumerate_from 1 (take i xs)))
    ++ map put (make (i + 1, get_or xs i d))
next_flat_mapped put make xs i d lt =
    ap (λ es. map put (flat_map make es)) (numbered_next xs i d lt)
    ∙ ap (map put)
    (flat_map-append make (enumerate_from 1 (take i xs)) _
    ∙ ap (λ ys. flat_map make (enumerate_from 1 (take i xs)) ++ ys) (append-nil (make (i + 1, get_or xs i d))))
    ∙ map-append put (flat_map make (enumerate_from 1 (take i xs))) _

-- the same where the list is seen through a view of its elements
pub next_cells : {V A B C : Type 0} (put : B → C) (make : ℕ × A → List B) (view : V → A) (xs : List V) (i : ℕ) (x : V) (seen : A) → i < length xs
    → x ≡ get_or xs i x → seen ≡ view x
    → map put (flat_map make (enumerate_from 1 (map view (take (i + 1) xs)))) ≡ map put (flat_map make (enumerate_from 1 (map view (take i xs))))
    ++ map put (make (i + 1, seen))
next_cells {A = A} put make view xs i x seen lt is sees =
    let long : i < length (map view xs) = subst (λ n. i < n) (sym (length-map xs view)) lt in
    let at : get_or (map view xs) i (view x) ≡ seen = get_or-map view xs i x ∙ ap view (sym is) ∙ sym sees in
    ap (λ ys. map put (flat_map make (enumerate_from 1 ys))) (sym (take-map view (i + 1) xs))
    ∙ next_flat_mapped put make (map view xs) i (view x) long
    ∙ ap (λ ys. map put (flat_map make (enumerate_from 1 ys)) ++ map put (make (i + 1, get_or (map view xs) i (view x)))) (take-map view i xs)
    ∙ ap (λ y. let e : ℕ × A = (i + 1, y) in map put (flat_map make (enumerate_from 1 (map view (take i xs)))) ++ map put (make e)) at

-- one more element of a list of those that pass a test, mapped
pub passing_next : {A B : Type 0} (p : A → Bool) (f : A → B) (xs : List A) (i : ℕ) (d : A) → i < length xs
    → map f (filter p (take (i + 1) xs)) ≡ map f (filter p (take i xs)) ++ (if p (get_or xs i d) then f (get_or xs i d) ∷ [] else [])
passing_next {A = A} p f xs i d lt = ap (λ l. map f (filter p l)) (take_more xs i d lt) ∙ one_more (take i xs) (get_or xs i d)
  where
    one_more : (ys : List A) (x : A) → map f (filter p (ys ++ x ∷ [])) ≡ map f (filter p ys) ++ (if p x then f x ∷ [] else [])
    one_more [] x = elim (p x) as (λ b. map f (if b then x ∷ [] else []) ≡ (if b then f x ∷ [] else [])) [ true ↦ refl | false ↦ refl ]
    one_more (y ∷ ys) x =
        let rest = one_more ys x in
        elim (p y) as (λ b. map f (if b then y ∷ filter p (ys ++ x ∷ []) else filter p (ys ++ x ∷ []))
        ≡ map f (if b then y ∷ filter p ys else filter p ys) ++ (if p x then f x ∷ [] else [])) [ true ↦ ap (λ l. f y ∷ l) rest | false ↦ rest ]
