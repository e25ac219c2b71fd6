-- A record's fields by their places.
use Rattle.std.{specs.{List.{list_all}, Str.{IsAscii, is_utf8}}, proofs.lemmas.{List.Folds.{list_all_more, list_all_at}, Option.{unwrap_or-slice_get}, Str.{IsUtf8-from_ascii, is_utf8-from_IsUtf8}}}
use Rattle.std.proofs.Common.{arith, ◌≡◌, ℕ, zero, suc, List, [], ◌∷◌, refl, sym, ap, ◌∙◌, Bool, true, false, ◌&&◌, ◌+◌, ◌<◌, ◌-◌, drop, length, take, get_or, slice_get, slice_index}
use Rattle.csv.specs.Records.{cut_from, field_at}
use Rattle.plant_import.specs.Fields.{field}

pub field_at_is : (fields : List (List ℕ)) (i : ℕ) → field_at fields i ≡ slice_get fields i
unfolding field_at
field_at_is [] i = refl
field_at_is (f ∷ fs) zero = refl
field_at_is (f ∷ fs) (suc i) = field_at_is fs i

field-get_or : (fields : List (List ℕ)) (i : ℕ) → field fields i ≡ get_or fields i []
field-get_or fields i = unwrap_or-slice_get fields i []

-- the fields before a place are text, and so is the one there
pub text_more : (fields : List (List ℕ)) (i : ℕ) (b : Bool) (f : List ℕ) → i < length fields → list_all is_utf8 (take i fields) ≡ true
    → f ≡ field fields i → b ≡ is_utf8 f → b ≡ true
    → list_all is_utf8 (take (i + 1) fields) ≡ true
text_more fields i b f lt h ef eb t =
    let here : is_utf8 (get_or fields i []) ≡ true = ap is_utf8 (sym (ef ∙ field-get_or fields i)) ∙ sym eb ∙ t in
    list_all_more is_utf8 fields i [] lt ∙ ap (λ x. x && is_utf8 (get_or fields i [])) h ∙ here

-- the field at a place isn't text
pub text_at : (fields : List (List ℕ)) (i : ℕ) (b : Bool) (f : List ℕ) → i < length fields → f ≡ field fields i → b ≡ is_utf8 f → b ≡ false
    → list_all is_utf8 fields ≡ false
text_at fields i b f lt ef eb t = list_all_at is_utf8 fields i [] lt (ap is_utf8 (sym (ef ∙ field-get_or fields i)) ∙ sym eb ∙ t)

-- fields cut from ASCII bytes are text
ascii_drop : (n : ℕ) (bs : List ℕ) → IsAscii bs → IsAscii (drop n bs)
ascii_drop zero bs h = h
ascii_drop (suc n) [] h = h
ascii_drop (suc n) (b ∷ bs) h = ascii_drop n bs (λ i. h (suc i))

ascii_take : (n : ℕ) (bs : List ℕ) → IsAscii bs → IsAscii (take n bs)
ascii_take zero bs h = λ i. omega arith
ascii_take (suc n) [] h = h
ascii_take (suc n) (b ∷ bs) h = λ i. elim i as (λ k. slice_index (take (suc n) (b ∷ bs)) k < 128) [
  | zero ↦ h 0
  | suc k ↦ ascii_take n bs (λ j. h (suc j)) k
]

pub ascii_fields : (start : ℕ) (ends bytes : List ℕ) → IsAscii bytes → list_all is_utf8 (cut_from start ends bytes) ≡ true
unfolding cut_from
ascii_fields start [] bytes h = refl
ascii_fields start (end ∷ ends) bytes h =
    let cut = take (end - start) (drop start bytes) in
    let text : is_utf8 cut ≡ true = is_utf8-from_IsUtf8 cut (IsUtf8-from_ascii cut (ascii_take (end - start) (drop start bytes) (ascii_drop start bytes h))) in
    ap (λ b. b && list_all is_utf8 (cut_from end ends bytes)) text ∙ ascii_fields end ends bytes h
