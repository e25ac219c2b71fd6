-- Items that are read one after another.
use Rattle.std.proofs.Common.{◌≡◌, ℕ, ◌+◌, ◌<◌, ◌≤◌, List, [], ◌∷◌, ◌++◌, length, drop, get_or, Option, Some, None, Ok, Err, refl, sym, ap, ◌∙◌, append_assoc, append-nil, drop-cons, add-one, option_map}
use Rattle.std.proofs.lemmas.List.{drop_all}
use Rattle.serde_json.specs.{Data.{Data}, View.{view, items_view}, declared.value.Value.{Value}}
use Rattle.plant_wire_body.specs.{Lists.{before, all_of}, Members.{or_body, Fails}, declared.members.BodyError.{BodyError, TheVariants.{Memory, Because}}}
use Rattle.plant_wire_body.specs.declared.members.Unfit.{Unfit, TheVariants.{Body}}

-- the items before i were read as out, and the others are left
pub record IsReadTo {A : Type 0} (reads : Data → Option A) (items : List Value) (i : ℕ) (out : List A) : Type 0 where
  pub is : all_of reads (items_view items) ≡ option_map (λ rest. out ++ rest) (all_of reads (items_view (drop i items)))

same : {A : Type 0} (o : Option (List A)) → o ≡ option_map (λ rest. [] ++ rest) o
same None = refl
same (Some xs) = refl

pub read_none : {A : Type 0} (reads : Data → Option A) (items : List Value) → IsReadTo reads items 0 []
read_none reads items = record { is = same (all_of reads (items_view items)) }

one_more : {A : Type 0} (out : List A) (x : A) (o : Option (List A))
    → option_map (λ rest. out ++ rest) (option_map (λ xs. x ∷ xs) o) ≡ option_map (λ rest. (out ++ x ∷ []) ++ rest) o
one_more {A = A} out x None = refl
one_more {A = A} out x (Some rest) = ap (λ (t : List A). Some t) (sym (append_assoc out (x ∷ []) rest))

-- the items from i on
next : {A : Type 0} (reads : Data → Option A) (items : List Value) (i : ℕ) (d : Value) → i < length items
    → all_of reads (items_view (drop i items)) ≡ before (reads (view (get_or items i d))) (all_of reads (items_view (drop (i + 1) items)))
next reads items i d lt = rw (drop-cons items i d, add-one) refl

pub read_one : {A : Type 0} (reads : Data → Option A) (items : List Value) (i : ℕ) (d : Value) (out out' : List A) (x : A)
    → IsReadTo reads items i out
    → i < length items → reads (view (get_or items i d)) ≡ Some x → out' ≡ out ++ x ∷ [] → IsReadTo reads items (i + 1) out'
read_one reads items i d out out' x so_far lt e grown =
    record { is = so_far.is ∙ rw (next reads items i d lt, e, grown) (one_more out x (all_of reads (items_view (drop (i + 1) items)))) }

pub read_bad : {A : Type 0} (reads : Data → Option A) (items : List Value) (i : ℕ) (d : Value) (out : List A) → IsReadTo reads items i out
    → i < length items → reads (view (get_or items i d)) ≡ None → all_of reads (items_view items) ≡ None
read_bad reads items i d out so_far lt e = so_far.is ∙ rw (next reads items i d lt, e) refl

pub read_all : {A : Type 0} (reads : Data → Option A) (items : List Value) (i : ℕ) (out : List A) → IsReadTo reads items i out
    → length items ≤ i → all_of reads (items_view items) ≡ Some out
read_all {A = A} reads items i out so_far end = so_far.is ∙ rw (drop_all i items end) (ap (λ (t : List A). Some t) (append-nil out))

-- what is given is there
pub told_some : {A : Type 0} (o : Option A) (x : A) → or_body o ≡ Ok x → o ≡ Some x
told_some None x e = cc
told_some (Some y) x e = cc

told_none : {A : Type 0} (o : Option A) (u : Unfit) → or_body o ≡ Err u → (o ≡ None) × (u ≡ Body)
told_none None u e = (refl, cc)
told_none (Some y) u e = cc

-- an item that can't be read is not a list either
pub fails_with : {A : Type 0} (reads : Data → Option A) (items : List Value) (i : ℕ) (d : Value) (out : List A) (e : BodyError)
    → IsReadTo reads items i out
    → i < length items → Fails e (or_body (reads (view (get_or items i d)))) → Fails e (or_body (all_of reads (items_view items)))
fails_with reads items i d out Memory so_far lt h = tt
fails_with reads items i d out (Because u) so_far lt h =
    let n = told_none (reads (view (get_or items i d))) u h in
    rw (read_bad reads items i d out so_far lt n.0, n.1) refl
