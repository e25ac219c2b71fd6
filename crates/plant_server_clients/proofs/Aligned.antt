-- Clients in the order of their connections: the numbers of both are the same.
use Rattle.std.proofs.Common.{◌≡◌, ◌++◌, ◌∷◌, [], ◌∙◌, ℕ, List, zero, suc, ap, length, map, refl, slice_get, slice_index_or, slice_set, sym, Some}
use Rattle.std.specs.List.{remove}
use Rattle.plant_server_clients.specs.Paces.{numbers}
use Rattle.plant_server_clients.specs.declared.connections.Connection.{Connection}

pub aligned_length : {A : Type 0} (f : A → ℕ) (xs : List A) (ls : List Connection) → map f xs ≡ numbers ls → length xs ≡ length ls
aligned_length f [] [] same = refl
aligned_length f [] (l ∷ ls) same = cc
aligned_length f (x ∷ xs) [] same = cc
aligned_length f (x ∷ xs) (l ∷ ls) same = let rest : map f xs ≡ numbers ls = cc in ap suc (aligned_length f xs ls rest)

-- the client at a place is that of the connection there
pub own : {A : Type 0} (f : A → ℕ) (xs : List A) (ls : List Connection) (at : ℕ) (x : A) (l : Connection) → map f xs ≡ numbers ls
    → slice_get ls at ≡ Some l → x ≡ slice_index_or xs at x → f x ≡ l.number
own f xs [] at x l same is at_it = cc
own f [] (m ∷ ls) at x l same is at_it = cc
own f (y ∷ xs) (m ∷ ls) zero x l same is at_it =
    let first : f y ≡ m.number = cc in
    let it : m ≡ l = cc in
    ap f at_it ∙ first ∙ ap (λ (t : Connection). t.number) it
own f (y ∷ xs) (m ∷ ls) (suc at) x l same is at_it = let rest : map f xs ≡ numbers ls = cc in own f xs ls at x l rest is at_it

-- both change at one place, and keep their numbers
pub aligned_set : {A : Type 0} (f : A → ℕ) (xs : List A) (ls : List Connection) (at : ℕ) (x x' : A) (l l' : Connection)
    → map f xs ≡ numbers ls → slice_get ls at ≡ Some l → x ≡ slice_index_or xs at x → f x' ≡ f x → l'.number ≡ l.number
    → map f (slice_set xs at x') ≡ numbers (slice_set ls at l')
aligned_set f xs [] at x x' l l' same is at_it same_x same_l = cc
aligned_set f [] (m ∷ ls) at x x' l l' same is at_it same_x same_l = cc
aligned_set f (y ∷ xs) (m ∷ ls) zero x x' l l' same is at_it same_x same_l =
    let first : f y ≡ m.number = cc in
    let it : m ≡ l = cc in
    let rest : map f xs ≡ numbers ls = cc in
    let now : f x' ≡ l'.number = same_x ∙ ap f at_it ∙ first ∙ ap (λ (t : Connection). t.number) it ∙ sym same_l in
    rw (now, rest) refl
aligned_set f (y ∷ xs) (m ∷ ls) (suc at) x x' l l' same is at_it same_x same_l =
    let first : f y ≡ m.number = cc in
    let rest : map f xs ≡ numbers ls = cc in
    rw (first, aligned_set f xs ls at x x' l l' rest is at_it same_x same_l) refl

pub aligned_removed : {A : Type 0} (f : A → ℕ) (xs : List A) (ls : List Connection) (at : ℕ) → map f xs ≡ numbers ls
    → map f (remove xs at) ≡ numbers (remove ls at)
aligned_removed f [] [] zero same = refl
aligned_removed f [] [] (suc at) same = refl
aligned_removed f [] (m ∷ ls) at same = cc
aligned_removed f (y ∷ xs) [] at same = cc
aligned_removed f (y ∷ xs) (m ∷ ls) zero same = cc
aligned_removed f (y ∷ xs) (m ∷ ls) (suc at) same =
    let first : f y ≡ m.number = cc in
    let rest : map f xs ≡ numbers ls = cc in
    rw (first, aligned_removed f xs ls at rest) refl

pub aligned_pushed : {A : Type 0} (f : A → ℕ) (xs : List A) (ls : List Connection) (x : A) (l : Connection) → map f xs ≡ numbers ls
    → f x ≡ l.number → map f (xs ++ x ∷ []) ≡ numbers (ls ++ l ∷ [])
aligned_pushed f [] [] x l same is = rw is refl
aligned_pushed f [] (m ∷ ls) x l same is = cc
aligned_pushed f (y ∷ xs) [] x l same is = cc
aligned_pushed f (y ∷ xs) (m ∷ ls) x l same is =
    let first : f y ≡ m.number = cc in
    let rest : map f xs ≡ numbers ls = cc in
    rw (first, aligned_pushed f xs ls x l rest is) refl
