-- The records that a reader reaches, one after another, are those of the text.
use Rattle.std.proofs.Common.{◌≡◌, ℕ, zero, suc, ◌+◌, ◌<◌, sym, ap, ◌∙◌, arith, List, [], ◌∷◌, ◌++◌, length, Bool, cond, Some, None, append-nil, refl, ◌⊎◌, inl, inr}
use Rattle.csv.specs.Machine.{Read, next_record, step, ends_at_end, fields_after, field_after}
use Rattle.csv.specs.{Reading.{records, records_from, records_next, Reached}, declared.parser.{Config.{Config}, State.{State}}}
use Rattle.csv.specs.declared.parser.State.TheVariants as st

-- the state and the text after the last record, which the end of the text ends
abbrev IsOver : State → List ℕ → Type 0
IsOver s xs = (s ≡ st.StartRecord) × (xs ≡ [])

at_end : (b : Bool) (fields : List (List ℕ)) (p : Read) → cond b (Some (fields, st.StartRecord, [])) None ≡ Some p → IsOver p.1 p.2
at_end b fields p e = (grind arith, grind arith)

-- a record takes a byte, or it is the last
takes : (cfg : Config) (s : State) (fields : List (List ℕ)) (field xs : List ℕ) (p : Read) → next_record cfg s fields field xs ≡ Some p
    → (length p.2 < length xs) ⊎ IsOver p.1 p.2
unfolding next_record
takes cfg s fields field [] p e = inr (at_end (ends_at_end s) (fields ++ (field ∷ [])) p e)
takes cfg s fields field (c ∷ rest) p e =
    grind (arith, takes cfg (step cfg s c).0 (fields_after (step cfg s c).1 fields field) (field_after (step cfg s c).1 c field) rest p)

-- the records reached, and then those that are left
record Continues (cfg : Config) (n : ℕ) (s : State) (xs : List ℕ) (rows : List (List (List ℕ))) (s2 : State) (ys : List ℕ) : Type 0 where
  pub fuel : ℕ
  pub are : records_from cfg n s xs ≡ rows ++ records_from cfg fuel s2 ys

here : (cfg : Config) (n : ℕ) (s : State) (xs : List ℕ) (s2 : State) (ys : List ℕ) → Reached cfg s xs [] s2 ys → Continues cfg n s xs [] s2 ys
unfolding Reached
here cfg n s xs s2 ys h = record { fuel = n; are = λ i. records_from cfg n (h.0 i) (h.1 i) }

continue : (cfg : Config) (n : ℕ) (s : State) (xs : List ℕ) (r : List (List ℕ)) (rows : List (List (List ℕ))) (s2 : State) (ys : List ℕ) (p : Read)
    → next_record cfg s [] [] xs ≡ Some p → r ≡ p.0 → Continues cfg n p.1 p.2 rows s2 ys → Continues cfg (suc n) s xs (r ∷ rows) s2 ys
unfolding records_from
continue cfg n s xs r rows s2 ys p e er h =
    record {
      fuel = h.fuel;
      are = ap (records_next (records_from cfg n)) e ∙ ap (λ l. p.0 ∷ l) h.are ∙ ap (λ f. f ∷ (rows ++ records_from cfg h.fuel s2 ys)) (sym er);
    }

over : (cfg : Config) (n : ℕ) (s : State) (xs : List ℕ) (rows : List (List (List ℕ))) (s2 : State) (ys : List ℕ) → IsOver s xs
    → Reached cfg s xs rows s2 ys → Continues cfg n s xs rows s2 ys
unfolding Reached next_record
over cfg n s xs [] s2 ys is h = here cfg n s xs s2 ys h
over cfg n s xs (r ∷ rows) s2 ys is h = absurd (let none : None ≡ Some h.0 = sym (λ i. next_record cfg (is.0 i) [] [] (is.1 i)) ∙ h.1 in cc)

reached : (cfg : Config) (n : ℕ) (s : State) (xs : List ℕ) (rows : List (List (List ℕ))) (s2 : State) (ys : List ℕ) → Reached cfg s xs rows s2 ys
    → length xs < n → Continues cfg n s xs rows s2 ys
unfolding Reached
reached cfg n s xs [] s2 ys h lt = here cfg n s xs s2 ys h
reached cfg zero s xs (r ∷ rows) s2 ys h lt = absurd (omega (arith, lt))
reached cfg (suc n) s xs (r ∷ rows) s2 ys h lt =
    let p = h.0 in
    continue cfg n s xs r rows s2 ys p h.1 h.2 (elim (takes cfg s [] [] xs p h.1) [
      | inl less ↦ reached cfg n p.1 p.2 rows s2 ys h.3 (omega (arith, lt, less))
      | inr is ↦ over cfg n p.1 p.2 rows s2 ys is h.3
    ])

none_left : (cfg : Config) (n : ℕ) (s : State) (ys : List ℕ) → next_record cfg s [] [] ys ≡ None → records_from cfg n s ys ≡ []
unfolding records_from
none_left cfg zero s ys e = refl
none_left cfg (suc n) s ys e = ap (records_next (records_from cfg n)) e

-- the records of a text begin with those that were reached
pub begins_with : (cfg : Config) (xs : List ℕ) (rows : List (List (List ℕ))) (s2 : State) (ys : List ℕ) → Reached cfg st.StartRecord xs rows s2 ys
    → (rest : List (List (List ℕ))) × (records cfg xs ≡ rows ++ rest)
begins_with cfg xs rows s2 ys h =
    let c = reached cfg (length xs + 1) st.StartRecord xs rows s2 ys h (omega arith) in
    (records_from cfg c.fuel s2 ys, c.are)

-- where none is left these are all
pub all_reached : (cfg : Config) (xs : List ℕ) (rows : List (List (List ℕ))) (s2 : State) (ys : List ℕ)
    → Reached cfg st.StartRecord xs rows s2 ys → next_record cfg s2 [] [] ys ≡ None → rows ≡ records cfg xs
all_reached cfg xs rows s2 ys h e =
    let c = reached cfg (length xs + 1) st.StartRecord xs rows s2 ys h (omega arith) in
    sym (c.are ∙ ap (λ l. rows ++ l) (none_left cfg c.fuel s2 ys e) ∙ append-nil rows)
