-- Events by their numbers: what a list of events has at each number, and what a file without a fault adds to those that are kept.
use Rattle.std.specs.{Cmp.{ranked}, FinMap.Entries.{below_all}, List.{AllByRecursion, IsDistinct, cons_option, list_any}}
use Rattle.std.proofs.Common.{Less, T, ap, arith, cond, refl, subst, sym, true, ◌++◌, ◌+◌, ◌<◌, ◌∙◌, ◌≡◌, find, nat_cmp, Bool, List, None, Option, Some, [], false, filter_map, map, nat_lt, not, option_and_then, ℕ, ◌&&◌, ◌==◌, ◌||◌, ◌∷◌}
use Rattle.std.proofs.lemmas.{Bool.{eq-eqb, ltb-false, or_parts, false_from_ne_true, or_right}, List.Folds.{list_any-append}}
use Rattle.plant_alarm.specs.declared.event.Event.{Event}
use Rattle.plant_floods.specs.Activations.{of_alarm}
use Rattle.plant_import.{specs.{Fields.{first_cause}, Files.{SameMembers, are_known, is_fit}}, proofs.public.Counted.{no_first}}
use Rattle.plant_import.specs.{Merging.{IsRising, clashes, first_fault, fresh, merge_fault, out_of_order, same_event}, Numbers.{has_number}}
use Rattle.plant_import.specs.declared.bad_file.Cause.TheVariants.{MomentAhead, MomentOutOfOrder, SequenceClash, TagUnknown}
use Rattle.plant_import.proofs.public.FileLaws.{clash_of, file_fits, first_member, fit_member, fit_of, fit_within, in_back, in_front, kept_fresh, member, none_within}
use Rattle.plant_import.proofs.public.{Nearest.{order_above, same_any, same_is}, EachLaws.{Each}, Risings.{Before, Rising, is_rising}}
use Rattle.plant_model.proofs.public.{FactLaws.{same_number_of}, PutLaws.{said}, RowsFound.{less}}
use Rattle.plant_model.specs.steps.RowFacts.{event_number}
use Rattle.plant_types.{specs.{KeyedRows.{IsInOrder}, Names.{Name, same_name}, Options.{or_else, when}}, proofs.public.Halves.{first, second}}

-- what a list has at a number: one of its events, or none
abbrev pub IsOf : List Event → ℕ → Option Event → Type 0
IsOf es n None = list_any (has_number n) es ≡ false
IsOf es n (Some x) = (member x es ≡ true) × (has_number n x ≡ true)

pub of_find : (n : ℕ) (es : List Event) → IsOf es n (find (has_number n) es)
of_find n [] = refl
of_find n (y ∷ es) =
    elim (has_number n y) as (λ b. has_number n y ≡ b → IsOf (y ∷ es) n (cond b (Some y) (find (has_number n) es))) [
      | true ↦ λ is. (first_member y es, is)
      | false ↦ λ no. elim (find (has_number n) es) as (λ o. IsOf es n o → IsOf (y ∷ es) n o) [
        | None ↦ λ rest. ap (λ b. b || list_any (has_number n) es) no ∙ rest
        | Some x ↦ λ rest. (or_right (same_event x y) (member x es) rest.0, rest.1)
      ] (of_find n es)
    ] refl

of_when : (n : ℕ) (r : Event) (rs : List Event) (b : Bool) → has_number n r ≡ b → list_any (has_number n) rs ≡ false → IsOf (r ∷ rs) n (when b r)
of_when n r rs true is none = (first_member r rs, is)
of_when n r rs false other none = λ i. other i || none i

pub of_said : (n : ℕ) (rs : List Event) → IsOf rs n (said nat_cmp event_number rs n)
of_said n [] = refl
of_said n (r ∷ rs) =
    elim (said nat_cmp event_number rs n) as (λ o. IsOf rs n o → IsOf (r ∷ rs) n (or_else o (when (has_number n r) r))) [
      | None ↦ λ rest. of_when n r rs (has_number n r) refl rest
      | Some x ↦ λ rest. (or_right (same_event x r) (member x rs) rest.0, rest.1)
    ] (of_said n rs)

pub of_both : (n : ℕ) (xs ys : List Event) (o p : Option Event) → IsOf ys n o → IsOf xs n p → IsOf (xs ++ ys) n (or_else o p)
of_both n xs ys (Some x) p h k = (in_back xs ys x h.0, h.1)
of_both n xs ys None (Some x) h k = (in_front xs ys x k.0, k.1)
of_both n xs ys None None h k = list_any-append (has_number n) xs ys ∙ (λ i. k i || h i)

pub of_same : (n : ℕ) (xs ys : List Event) (o : Option Event) → SameMembers xs ys → IsOf xs n o → IsOf ys n o
of_same n xs ys None same h = none_within (has_number n) ys xs (λ e there. same e ∙ there) h
of_same n xs ys (Some x) same h = (sym (same x) ∙ h.0, h.1)

-- events that fit have one content at a number
not_both : (a b : Bool) → (a && not b) ≡ false → a ≡ true → b ≡ true
not_both true true e t = refl
not_both _ _ e t = cc

pub one_content : (es : List Event) (x y : Event) → is_fit es ≡ true → member x es ≡ true → member y es ≡ true → x.seq ≡ y.seq → x ≡ y
one_content es x y fit hx hy same = same_is x y (not_both (x.seq == y.seq) (same_event x y) (fit_of es fit x y hx hy).0 (eq-eqb x.seq y.seq same))

pub one_said : (es : List Event) (n : ℕ) → is_fit es ≡ true → (o p : Option Event) → IsOf es n o → IsOf es n p → o ≡ p
one_said es n fit None None h k = refl
one_said es n fit None (Some y) h k = absurd (clash_of (list_any (has_number n) es) (same_any (has_number n) y es k.0 k.1) h)
one_said es n fit (Some x) None h k = absurd (clash_of (list_any (has_number n) es) (same_any (has_number n) x es h.0 h.1) k)
one_said es n fit (Some x) (Some y) h k =
    ap (λ z. Some z) (one_content es x y fit h.0 k.0 (sym (same_number_of n x.seq h.1) ∙ same_number_of n y.seq k.1))

-- a file without a fault
module _ (tags : List Name) (now : ℕ) (kept rows : List Event) (fit : is_fit kept ≡ true) (clean : first_fault tags now 2 kept rows ≡ None) where
  pub whole_fits : is_fit (kept ++ rows) ≡ true
  whole_fits = file_fits tags now 2 kept rows fit clean

  -- its new rows say what all its rows say
  pub new_rows_say : (n : ℕ)
      → or_else (find (has_number n) rows) (find (has_number n) kept) ≡ or_else (said nat_cmp event_number (fresh kept rows) n)
      (find (has_number n) kept)
  new_rows_say n =
      one_said (kept ++ rows) n whole_fits _ _
      (of_both n kept rows _ _ (of_find n rows) (of_find n kept))
      (of_same n (kept ++ fresh kept rows) (kept
      ++ rows) (or_else (said nat_cmp event_number (fresh kept rows) n)
      (find (has_number n) kept)) (kept_fresh kept rows) (of_both n kept (fresh kept rows) _ _ (of_said n (fresh kept rows)) (of_find n kept)))

  -- where a new row has a number, no other event is kept under it
  pub new_alone : (n : ℕ) (y : Event) → said nat_cmp event_number (fresh kept rows) n ≡ Some y → (x : Event) → find (has_number n) kept ≡ Some x
      → x ≡ y
  new_alone n y is x found =
      let new = subst (IsOf (fresh kept rows) n) is (of_said n (fresh kept rows)) in
      let old = subst (IsOf kept n) found (of_find n kept) in
      one_content (kept ++ rows) x y whole_fits
      (in_front kept rows x old.0) (sym (kept_fresh kept rows y) ∙ in_back kept (fresh kept rows) y new.0)
      (sym (same_number_of n x.seq old.1) ∙ same_number_of n y.seq new.1)

-- what is made of numbers
pub member_told : (f : ℕ → Option Event) (ns : List ℕ) (e : Event) → member e (filter_map f ns) ≡ true → (n : ℕ) × (f n ≡ Some e)
member_told f [] e there = cc
member_told f (n ∷ ns) e there =
    elim (f n) as (λ o. f n ≡ o → member e (cons_option o (filter_map f ns)) ≡ true → (n : ℕ) × (f n ≡ Some e)) [
      | None ↦ λ _ rest. member_told f ns e rest
      | Some x ↦ λ is here. elim (same_event e x) as (λ b. same_event e x ≡ b → (b || member e (filter_map f ns)) ≡ true → (n : ℕ) × (f n ≡ Some e)) [
        | true ↦ λ same _. (n, is ∙ ap (λ y. Some y) (sym (same_is e x same)))
        | false ↦ λ _ rest. member_told f ns e rest
      ] refl here
    ] refl there

-- the events of one alarm among those of the numbers
abbrev pub only : Name → Option Event → Option Event
only a o = option_and_then (λ e. when (same_name a e.tag) e) o

only_cons : (a : Name) (o : Option Event) (es : List Event) → of_alarm a (cons_option o es) ≡ cons_option (only a o) (of_alarm a es)
only_cons a None es = refl
only_cons a (Some e) es =
    elim (same_name a e.tag) as (λ b. cond b (e ∷ of_alarm a es) (of_alarm a es)
    ≡ cons_option (when b e) (of_alarm a es)) [ true ↦ refl | false ↦ refl ]

pub only_told : (a : Name) (f : ℕ → Option Event) (ns : List ℕ) → of_alarm a (filter_map f ns) ≡ filter_map (λ n. only a (f n)) ns
only_told a f [] = refl
only_told a f (n ∷ ns) = only_cons a (f n) (filter_map f ns) ∙ ap (cons_option (only a (f n))) (only_told a f ns)

-- a row of the file is of an alarm that is there
tag_known : (a b c d : Bool) → first_cause ((not a, TagUnknown) ∷ (b, MomentAhead) ∷ (c, SequenceClash) ∷ (d, MomentOutOfOrder) ∷ []) ≡ None
    → a ≡ true
tag_known true b c d e = refl
tag_known false b c d e = cc

row_known : (tags : List Name) (now : ℕ) (others : List Event) (e : Event) → merge_fault tags now others e ≡ None
    → list_any (same_name e.tag) tags ≡ true
unfolding merge_fault
row_known tags now others e h =
    tag_known (list_any (same_name e.tag) tags) (nat_lt now e.moment) (list_any (clashes e) others) (list_any (out_of_order e) others) h

pub rows_known : (tags : List Name) (now line : ℕ) (others rows : List Event) → first_fault tags now line others rows ≡ None
    → are_known tags rows ≡ true
rows_known tags now line others [] h = refl
rows_known tags now line others (e ∷ rows) h =
    let parts = no_first line (merge_fault tags now others e) (first_fault tags now (line + 1) (others ++ e ∷ []) rows) h in
    let here = row_known tags now others e parts.0 in
    let rest = rows_known tags now (line + 1) (others ++ e ∷ []) rows parts.1 in
    λ i. here i && rest i

-- fit events in the order of their numbers rise: no moment falls
below_each : (e : Event) (es : List Event) → T (below_all nat_cmp e.seq (map (λ x. (event_number x, x)) es)) → list_any (out_of_order e) es ≡ false
    → Each (Before e) es
below_each e [] below order = tt
below_each e (x ∷ es) below order =
    let o = or_parts (out_of_order e x) (list_any (out_of_order e) es) order in
    let less : e.seq < x.seq = ranked e.seq x.seq Less (sym (less _ (first _ _ below))) in
    ((less, ltb-false x.moment e.moment (sym (order_above e x less) ∙ o.0)), below_each e es (second _ _ below) o.1)

pub rises : (es : List Event) → is_fit es ≡ true → IsInOrder nat_cmp event_number es → Rising es
rises [] fit order = tt
rises (e ∷ es) fit order =
    let here = fit_member (e ∷ es) e fit (first_member e es) in (
      below_each e es (first _ _ order) (or_parts (out_of_order e e) (list_any (out_of_order e) es) here.1).1,
      rises es (fit_within (e ∷ es) es fit (λ q there. or_right (same_event q e) (member q es) there)) (second _ _ order),
    )

pub rising : (es : List Event) → is_fit es ≡ true → IsInOrder nat_cmp event_number es → IsRising es
rising es fit order = is_rising es (rises es fit order)

-- so none comes twice
pub distinct_rising : (es : List Event) → Rising es → IsDistinct same_event es
unfolding IsDistinct
distinct_rising [] h = tt
distinct_rising (e ∷ es) h = (others es h.0, distinct_rising es h.1) where
  others : (es : List Event) → Each (Before e) es → AllByRecursion (λ x. same_event e x ≡ false) es
  others [] h = tt
  others (x ∷ es) h = (
    false_from_ne_true (same_event e x) (λ is. let same : e.seq ≡ x.seq = ap event_number (same_is e x is) in let less = h.0.0 in
        omega (arith, same, less)),
    others es h.1,
  )
