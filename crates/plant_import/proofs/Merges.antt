-- What a file's rows add, one row more at a time.
use Rattle.std.{specs.List.{list_any}, proofs.lemmas.Bool.{not-true, not-false, le-ltb, or_parts}}
use Rattle.std.proofs.lemmas.List.{append-nil, take_more, take_all, length-take-le, take-append-drop, Folds.{list_any-append}}
use Rattle.std.proofs.Common.{◌≡◌, ℕ, ◌+◌, ◌-◌, ◌<◌, ◌≤◌, refl, sym, ap, ◌∙◌, subst, arith, List, [], ◌∷◌, ◌++◌, length, take, drop, get_or, Bool, true, false, cond, ◌||◌, not, if◌then◌else◌, Some, None, Ok, Err, append_assoc, length-append, option_map}
use Rattle.plant_types.specs.{Names.{Name, same_name}, Options.{or_else}}
use Rattle.plant_alarm.{specs.declared.event.Event.{Event}, proofs.public.Push.{passing-push}}
use Rattle.plant_import.specs.declared.bad_file.Cause.{Cause, TheVariants.{SequenceClash, MomentOutOfOrder}}
use Rattle.plant_import.specs.{declared.relation.Relation.{Relation, TheVariants.{Clash, OutOfOrder}}, Numbers.{has_number}}
use Rattle.plant_import.{specs.{Reading.{bad}, Relation.{IsRelated, JudgesRow, joined}}, proofs.ByNumber.{any_put, put_in, rises_put}}
use Rattle.plant_import.proofs.public.{Counted.{no_first, row_fits, same_by_number, same_fault}, Nearest.{same_any}}
use Rattle.plant_import.specs.Merging.{IsRising, same_event, clashes, out_of_order, merge_fault, first_fault, is_new, fresh, merged_or, merge}

-- where the first rows have no fault, the first fault is that of the others
no_fault_then : (tags : List Name) (now line : ℕ) (others xs ys : List Event) → first_fault tags now line others xs ≡ None
    → first_fault tags now line others (xs ++ ys) ≡ first_fault tags now (line + length xs) (others ++ xs) ys
no_fault_then tags now line others [] ys none = let e : line ≡ line + 0 = omega arith in
    λ i. first_fault tags now (e i) (sym (append-nil others) i) ys
no_fault_then tags now line others (x ∷ xs) ys none =
    let parts = no_first line (merge_fault tags now others x) _ none in
    let e : line + 1 + length xs ≡ line + length (x ∷ xs) = omega arith in
    (λ i. or_else (option_map (bad line) (parts.0 i)) (no_fault_then tags now (line + 1) (others ++ x ∷ []) xs ys parts.1 i))
    ∙ (λ i. first_fault tags now (e i) (append_assoc others (x ∷ []) xs i) ys)

no_fault_more : (tags : List Name) (now : ℕ) (kept rows : List Event) (e : Event) → first_fault tags now 2 kept rows ≡ None
    → merge_fault tags now (kept ++ rows) e ≡ None → first_fault tags now 2 kept (rows ++ e ∷ []) ≡ None
no_fault_more tags now kept rows e none here = no_fault_then tags now 2 kept rows (e ∷ []) none
    ∙ (λ i. or_else (option_map (bad (2 + length rows)) (here i)) None)

new_more : (kept rows : List Event) (e : Event) (b : Bool) → is_new (kept ++ rows) e ≡ b
    → fresh kept (rows ++ e ∷ []) ≡ fresh kept rows ++ cond b (e ∷ []) []
new_more kept rows e b is = passing-push is_new kept rows e ∙ ap (λ b. fresh kept rows ++ cond b (e ∷ []) []) is

module _ (tags : List Name) (now : ℕ) (kept fresh : List Event) (e : Event) (tag : list_any (same_name e.tag) tags ≡ true) (le : e.moment ≤ now) where
  abbrev others : List Event
  others = kept ++ fresh

  told : merge_fault tags now others e
      ≡ (if list_any (clashes e) kept || list_any (clashes e) fresh then
      Some SequenceClash else (if list_any (out_of_order e) kept || list_any (out_of_order e) fresh then Some MomentOutOfOrder else None))
  unfolding merge_fault
  told = rw (tag, le-ltb now e.moment le, list_any-append (clashes e) kept fresh, list_any-append (out_of_order e) kept fresh) refl

  newness : is_new others e ≡ not (list_any (same_event e) kept || list_any (same_event e) fresh)
  newness = ap not (list_any-append (same_event e) kept fresh)

  pub judged_so : (k f : Relation) → IsRelated kept e k → IsRelated fresh e f → JudgesRow tags now kept fresh e (joined k f)
  judged_so Clash f h g = grind (arith, told, h)
  judged_so k Clash h g = grind (arith, told, g)
  judged_so OutOfOrder f h g = grind (arith, told, h.clash_is, g.clash_is, h.order_is)
  judged_so k OutOfOrder h g = grind (arith, told, h.clash_is, g.clash_is, g.order_is)
  judged_so k f h g = (grind (arith, told, h.clash_is, g.clash_is, h.order_is, g.order_is), grind (arith, newness, h.same_is, g.same_is))

-- the new rows stand for all rows so far: a test finds the same among both, beside the kept events
abbrev pub Alike : List Event → List Event → List Event → Type 0
Alike kept fresh rows = (p : Event → Bool) → list_any p (kept ++ fresh) ≡ list_any p (kept ++ rows)

-- the rows so far have no fault, and add these, which stand in rising number too
pub record MergedSo (tags : List Name) (now : ℕ) (kept rows new rising : List Event) (repeated : ℕ) : Type 0 where
  pub none : first_fault tags now 2 kept rows ≡ None
  pub new_are : new ≡ fresh kept rows
  pub count : repeated + length new ≡ length rows
  pub rises : IsRising rising
  pub alike : Alike kept rising rows

pub so_none : (tags : List Name) (now : ℕ) (kept : List Event) → MergedSo tags now kept [] [] [] 0
so_none tags now kept = record { none = refl; new_are = refl; count = refl; rises = λ i j d lt le. absurd (omega arith); alike = λ p. refl }

fault_alike : (tags : List Name) (now : ℕ) (kept rising rows : List Event) (e : Event) → Alike kept rising rows
    → merge_fault tags now (kept ++ rising) e ≡ merge_fault tags now (kept ++ rows) e
fault_alike tags now kept rising rows e alike = same_fault tags now (kept ++ rising) (kept ++ rows) e (alike (clashes e)) (alike (out_of_order e))

one_more : (p : Event → Bool) (kept rows : List Event) (e : Event) → list_any p (kept ++ (rows ++ e ∷ [])) ≡ (list_any p (kept ++ rows) || p e)
one_more p kept rows e = grind (arith, list_any-append p kept (rows ++ e ∷ []), list_any-append p rows (e ∷ []), list_any-append p kept rows)

alike_new : (kept rising rows : List Event) (e : Event) → list_any (has_number e.seq) rising ≡ false → Alike kept rising rows
    → Alike kept (put_in e rising) (rows ++ e ∷ [])
alike_new kept rising rows e other alike p =
    grind (arith, one_more p kept rows e, list_any-append p kept (put_in e rising), any_put p e rising other, list_any-append p kept rising, alike p)

alike_known : (kept rising rows : List Event) (e : Event) → list_any (same_event e) (kept ++ rising) ≡ true → Alike kept rising rows
    → Alike kept rising (rows ++ e ∷ [])
alike_known kept rising rows e known alike p = grind (arith, one_more p kept rows e, same_any p e (kept ++ rising) known, alike p)

-- one more row
among : (p : Event → Bool) (kept rising : List Event) → list_any p (kept ++ rising) ≡ false → list_any p rising ≡ false
among p kept rising h = (or_parts (list_any p kept) (list_any p rising) (sym (list_any-append p kept rising) ∙ h)).1

-- the same at a place of the file
at_place : (file : List Event) (i : ℕ) (e d : Event) → i < length file → e ≡ get_or file i d → take (i + 1) file ≡ take i file ++ e ∷ []
at_place file i e d lt is = take_more file i d lt ∙ ap (λ x. take i file ++ x ∷ []) (sym is)

pub so_new_at : (tags : List Name) (now : ℕ) (kept file new rising : List Event) (repeated i : ℕ) (e : Event) → i < length file → e ≡ get_or file i e
    → MergedSo tags now kept (take i file) new rising repeated
    → JudgesRow tags now kept rising e (Ok true) → MergedSo tags now kept (take (i + 1) file) (new ++ e ∷ []) (put_in e rising) repeated
so_new_at tags now kept file new rising repeated i e lt is h j =
    let rows = take i file in
    let fits = row_fits tags now (kept ++ rising) e j.0 in
    let other =
    among (has_number e.seq) kept rising (sym (same_by_number e (kept ++ rising) fits.0)
    ∙ not-true (list_any (same_event e) (kept ++ rising)) j.1) in
    subst (λ (l : List Event). MergedSo tags now kept l (new ++ e ∷ []) (put_in e rising) repeated) (sym (at_place file i e e lt is)) (record {
      none = no_fault_more tags now kept rows e h.none (sym (fault_alike tags now kept rising rows e h.alike) ∙ j.0);
      new_are = ap (λ l. l ++ e ∷ []) h.new_are ∙ sym (new_more kept rows e true (sym (ap not (h.alike (same_event e))) ∙ j.1));
      count = omega (arith, h.count, length-append new (e ∷ []), length-append rows (e ∷ []));
      rises = rises_put e rising other (among (out_of_order e) kept rising fits.1) h.rises;
      alike = alike_new kept rising rows e other h.alike;
    })

pub so_known_at : (tags : List Name) (now : ℕ) (kept file new rising : List Event) (repeated i : ℕ) (e : Event) → i < length file
    → e ≡ get_or file i e → MergedSo tags now kept (take i file) new rising repeated
    → JudgesRow tags now kept rising e (Ok false) → MergedSo tags now kept (take (i + 1) file) new rising (repeated + 1)
so_known_at tags now kept file new rising repeated i e lt is h j =
    let rows = take i file in
    subst (λ (l : List Event). MergedSo tags now kept l new rising (repeated + 1)) (sym (at_place file i e e lt is)) (record {
      none = no_fault_more tags now kept rows e h.none (sym (fault_alike tags now kept rising rows e h.alike) ∙ j.0);
      new_are = h.new_are ∙ sym (new_more kept rows e false (sym (ap not (h.alike (same_event e))) ∙ j.1) ∙ append-nil (fresh kept rows));
      count = omega (arith, h.count, length-append rows (e ∷ []));
      rises = h.rises;
      alike = alike_known kept rising rows e (not-false (list_any (same_event e) (kept ++ rising)) j.1) h.alike;
    })

pub so_fault_at : (tags : List Name) (now : ℕ) (kept file new rising : List Event) (repeated i : ℕ) (e : Event) (cause : Cause) → i < length file
    → e ≡ get_or file i e → MergedSo tags now kept (take i file) new rising repeated
    → JudgesRow tags now kept rising e (Err cause) → merge kept file tags now ≡ Err (bad (i + 2) cause)
unfolding merge
so_fault_at tags now kept file new rising repeated i e cause lt is h j =
    let rows = take i file in
    let rest = drop (i + 1) file in
    let fault : merge_fault tags now (kept ++ rows) e ≡ Some cause = sym (fault_alike tags now kept rising rows e h.alike) ∙ j in
    let cut : file ≡ rows ++ e ∷ rest = sym (take-append-drop (i + 1) file) ∙ ap (λ l. l ++ rest) (at_place file i e e lt is)
    ∙ append_assoc rows (e ∷ []) rest in
    let line : 2 + length rows ≡ i + 2 = omega (arith, length-take-le i file (omega arith)) in
    let first : first_fault tags now 2 kept file ≡ Some (bad (i + 2) cause) = ap (first_fault tags now 2 kept) cut
    ∙ no_fault_then tags now 2 kept rows (e ∷ rest) h.none
    ∙ (λ k. or_else (option_map (bad (line k)) (fault k)) (first_fault tags now (line k + 1) ((kept ++ rows) ++ e ∷ []) rest)) in
    ap (λ o. merged_or o kept file) first

pub so_all : (tags : List Name) (now : ℕ) (kept file new rising : List Event) (repeated i : ℕ) → length file ≤ i
    → MergedSo tags now kept (take i file) new rising repeated → merge kept file tags now ≡ Ok (record { fresh = new; repeated = repeated })
unfolding merge
so_all tags now kept file new rising repeated i le h =
    let all = take_all i file le in
    let none : first_fault tags now 2 kept file ≡ None = sym (ap (first_fault tags now 2 kept) all) ∙ h.none in
    let count : length file - length (fresh kept file) ≡ repeated =
    omega (arith, h.count, ap length h.new_are, ap length all, ap (λ l. length (fresh kept l)) all) in
    ap (λ o. merged_or o kept file) none ∙ (λ j. Ok (record { fresh = (sym (h.new_are ∙ ap (fresh kept) all)) j; repeated = count j }))
