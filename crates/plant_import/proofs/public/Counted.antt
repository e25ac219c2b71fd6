-- New numbers, each counted once, and events put twice.
use Rattle.std.specs.{Cmp.{IsEquivalence, eq_by_cmp_equiv, nat_cmp_total, on_total, unsigned_tied}, List.{IsDistinct, list_any}, Ordering.{eq_by_cmp}}
use Rattle.std.proofs.{lemmas.{Bool.{or_parts}, List.{length-map}, Map.{Made.{length-from_keys}, Views.{any-filter_same}}}, Math.Bool.{or-false}}
use Rattle.std.proofs.Common.{arith, length, ap, cond, refl, subst, sym, ◌∙◌, nat_cmp, Bool, List, None, Option, Some, [], false, filter, if◌then◌else◌, not, option_map, true, ℕ, ◌&&◌, ◌++◌, ◌+◌, ◌∷◌, ◌≡◌, ◌||◌, ◌==◌}
use Rattle.plant_alarm.specs.declared.event.Event.{Event}
use Rattle.plant_import.specs.declared.bad_file.BadFile.{BadFile}
use Rattle.plant_import.specs.{declared.bad_file.Cause.{Cause}, Merging.{clashes, first_fault, fresh, merge_fault, out_of_order, same_event}}
use Rattle.plant_import.specs.Numbers.{event_number, has_number, is_other, new_numbers, numbers_of, with_events}
use Rattle.plant_import.{specs.Reading.{bad}, proofs.public.{EachLaws.{Each, any_none, each_both, each_not, each_of}, FreshLaws.{any_first, distinct_firsts, firsts}}}
use Rattle.plant_import.proofs.public.Placed.{AllAbove, Rises, keys_rise, other_above, rises_of, rising_distinct, same_it}
use Rattle.plant_types.specs.{KeyedRows.{IsInOrder, put_row, row_at}, Names.{Name}, Options.{or_else, when}}
use Rattle.plant_types.proofs.public.{KeyedRowLaws.{IsInOrder-put_row, row_at-put_row, same_rows}, Orders.{same_numbers}}

abbrev ties : ℕ → ℕ → Bool
ties m n = eq_by_cmp nat_cmp m n

numbers_tie : IsEquivalence ties
numbers_tie = eq_by_cmp_equiv nat_cmp_total

pub turned : (m n : ℕ) → ties m n ≡ ties n m
turned m n = numbers_tie.symm m n

-- a row without clash is one of the others where one of them has its number
whole_or_none : (a m t k : Bool) → (a && not (((a && m) && t) && k)) ≡ false → (((a && m) && t) && k) ≡ a
whole_or_none a m t k h = grind arith

pub same_by_number : (e : Event) (others : List Event) → list_any (clashes e) others ≡ false
    → list_any (same_event e) others ≡ list_any (has_number e.seq) others
same_by_number e [] h = refl
same_by_number e (x ∷ xs) h =
    let parts = or_parts (clashes e x) (list_any (clashes e) xs) h in
    λ i. (whole_or_none (e.seq == x.seq) _ _ _ parts.0 ∙ sym (unsigned_tied e.seq x.seq)) i || same_by_number e xs parts.1 i

-- a row without fault clashes with none and is in order with all
pub row_fits : (tags : List Name) (now : ℕ) (others : List Event) (e : Event) → merge_fault tags now others e ≡ None
    → (list_any (clashes e) others ≡ false) × (list_any (out_of_order e) others ≡ false)
unfolding merge_fault
row_fits tags now others e h = grind arith

-- it has the same fault beside other events of which two tests say the same
pub same_fault : (tags : List Name) (now : ℕ) (others more : List Event) (e : Event) → list_any (clashes e) others ≡ list_any (clashes e) more
    → list_any (out_of_order e) others ≡ list_any (out_of_order e) more → merge_fault tags now others e ≡ merge_fault tags now more e
unfolding merge_fault
same_fault tags now others more e clash order = rw (clash, order) refl

pub no_first : (line : ℕ) (o : Option Cause) (rest : Option BadFile) → or_else (option_map (bad line) o) rest ≡ None → (o ≡ None) × (rest ≡ None)
no_first line None rest e = (refl, e)
no_first line (Some c) rest e = cc

-- the new rows of a file without fault are those whose number comes first
abbrev same_number : Event → Event → Bool
same_number a b = has_number a.seq b

same_numbers_tie : IsEquivalence same_number
same_numbers_tie = eq_by_cmp_equiv (on_total event_number nat_cmp_total)

fresh_firsts : (tags : List Name) (now line : ℕ) (kept rows : List Event) → first_fault tags now line kept rows ≡ None
    → fresh kept rows ≡ firsts same_numbers_tie kept rows
fresh_firsts tags now line kept [] none = refl
fresh_firsts tags now line kept (e ∷ rows) none =
    let parts = no_first line (merge_fault tags now kept e) _ none in
    λ i. (if not (same_by_number e kept (row_fits tags now kept e parts.0).0 i) then e ∷ [] else []) ++ fresh_firsts tags now (line + 1)
    (kept ++ e ∷ []) rows parts.1 i

pub any_fresh : (tags : List Name) (now line : ℕ) (kept rows : List Event) → first_fault tags now line kept rows ≡ None → (n : ℕ)
    → list_any (has_number n) (fresh kept rows) ≡ (not (list_any (has_number n) kept) && list_any (has_number n) rows)
any_fresh tags now line kept rows none n =
    ap (list_any (has_number n)) (fresh_firsts tags now line kept rows none)
    ∙ any_first same_numbers_tie (has_number n) (λ x t y. ap (λ m. has_number m y) (sym (same_it n x.seq t))) kept rows

-- the numbers of events
any_numbers : (n : ℕ) (es : List Event) → list_any (ties n) (numbers_of es) ≡ list_any (has_number n) es
any_numbers n [] = refl
any_numbers n (e ∷ es) = ap (λ b. has_number n e || b) (any_numbers n es)

any_left : (n : ℕ) (kept rows : List Event)
    → list_any (ties n) (numbers_of (filter (is_other kept) rows)) ≡ (not (list_any (has_number n) kept) && list_any (has_number n) rows)
any_left n kept rows = any_numbers n _
    ∙ any-filter_same (has_number n) (is_other kept) _ (λ e t. ap (λ m. not (list_any (has_number m) kept)) (sym (same_it n e.seq t))) rows

-- numbers that are not repeated, and are those of the rows that no kept event has, are as many as the new numbers
counted : (kept rows es : List Event) → IsDistinct ties (numbers_of es)
    → ((n : ℕ) → list_any (has_number n) es ≡ (not (list_any (has_number n) kept) && list_any (has_number n) rows))
    → length es ≡ length (new_numbers kept rows)
counted kept rows es distinct are =
    sym (length-map es event_number)
    ∙ length-from_keys numbers_tie (numbers_of es)
    (numbers_of (filter (is_other kept) rows)) distinct (λ n. any_numbers n es ∙ are n ∙ sym (any_left n kept rows))

distinct_numbers : (es : List Event) → IsDistinct same_number es → IsDistinct ties (numbers_of es)
unfolding IsDistinct
distinct_numbers [] h = tt
distinct_numbers (e ∷ es) h =
    (each_not (ties e.seq) (numbers_of es) (any_numbers e.seq es ∙ any_none (same_number e) es h.0), distinct_numbers es h.1)

-- a file without fault has as many new rows as new numbers
pub fresh_count : (tags : List Name) (now line : ℕ) (kept rows : List Event) → first_fault tags now line kept rows ≡ None
    → length (fresh kept rows) ≡ length (new_numbers kept rows)
fresh_count tags now line kept rows none =
    let distinct : IsDistinct same_number (fresh kept rows) =
    subst (IsDistinct same_number) (sym (fresh_firsts tags now line kept rows none)) (distinct_firsts same_numbers_tie kept rows) in
    counted kept rows (fresh kept rows) (distinct_numbers (fresh kept rows) distinct) (any_fresh tags now line kept rows none)

-- rows in rising number that no kept event has are as many, also where the rows came in another order
pub counted_rising : (kept rows : List Event) → IsInOrder nat_cmp event_number rows
    → length (filter (is_other kept) rows) ≡ length (new_numbers kept rows)
counted_rising kept rows order =
    counted kept rows (filter (is_other kept) rows)
    (rising_distinct _ (keys_rise event_number (is_other kept) rows (rises_of event_number rows order)))
    (λ n. sym (any_numbers n _) ∙ any_left n kept rows)

-- events put twice
abbrev said : List Event → ℕ → Option Event
said [] q = None
said (r ∷ rs) q = or_else (said rs q) (when (ties q r.seq) r)

at_puts : (q : ℕ) (rs es : List Event) → row_at nat_cmp event_number q (with_events es rs) ≡ or_else (said rs q) (row_at nat_cmp event_number q es)
at_puts q [] es = refl
at_puts q (r ∷ rs) es =
    grind (arith, at_puts q rs (put_row nat_cmp event_number r es), row_at-put_row nat_cmp event_number nat_cmp_total same_numbers q r es)

any_put : (n : ℕ) (r : Event) (es : List Event)
    → list_any (has_number n) (put_row nat_cmp event_number r es) ≡ (has_number n r || list_any (has_number n) es)
any_put n r [] = refl
any_put n r (e ∷ es) = grind (arith, any_put n r es)

pub order_puts : (rs es : List Event) → IsInOrder nat_cmp event_number es → IsInOrder nat_cmp event_number (with_events es rs)
order_puts [] es h = h
order_puts (r ∷ rs) es h =
    order_puts rs (put_row nat_cmp event_number r es) (IsInOrder-put_row nat_cmp event_number nat_cmp_total same_numbers r es h)

none_at : (q : ℕ) (es : List Event) → AllAbove event_number q es → row_at nat_cmp event_number q es ≡ None
none_at q [] h = refl
none_at q (e ∷ es) h = ap (λ b. cond b (Some e) (row_at nat_cmp event_number q es)) (other_above q e.seq h.0) ∙ none_at q es h.1

said_in_order : (q : ℕ) (rs : List Event) → Rises event_number rs → said rs q ≡ row_at nat_cmp event_number q rs
said_in_order q [] h = refl
said_in_order q (r ∷ rs) h =
    let none : ties q r.seq ≡ true
    → row_at nat_cmp event_number q rs ≡ None = λ t. none_at q rs (subst (λ n. AllAbove event_number n rs) (sym (same_it q r.seq t)) h.0) in
    grind (arith, said_in_order q rs h.1, none)

-- first put among one another, and then among the kept events
pub put_twice : (kept more : List Event) → IsInOrder nat_cmp event_number kept → with_events kept (with_events [] more) ≡ with_events kept more
put_twice kept more order =
    let rising : IsInOrder nat_cmp event_number (with_events [] more) = order_puts more [] tt in
    same_rows nat_cmp event_number nat_cmp_total same_numbers _ _ (order_puts (with_events [] more) kept order) (order_puts more kept order)
    (λ q. grind (
      arith,
      at_puts q (with_events [] more) kept,
      said_in_order q (with_events [] more) (rises_of event_number _ rising),
      at_puts q more [],
      at_puts q
          more kept,
    ))

-- the numbers of rows in rising number are those of the rows
pub any_puts : (n : ℕ) (rs es : List Event) → list_any (has_number n) (with_events es rs) ≡ (list_any (has_number n) es || list_any (has_number n) rs)
any_puts n [] es = sym (or-false _)
any_puts n (r ∷ rs) es = grind (arith, any_puts n rs (put_row nat_cmp event_number r es), any_put n r es)

-- what is so of one of a file's new rows is so of one of them in rising number
any_put_new : (p : Event → Bool) (r : Event) (es : List Event) → list_any (has_number r.seq) es ≡ false
    → list_any p (put_row nat_cmp event_number r es) ≡ (p r || list_any p es)
any_put_new p r [] none = refl
any_put_new p r (e ∷ es) none = grind (arith, any_put_new p r es)

any_put_all : (p : Event → Bool) (rs es : List Event) → IsDistinct same_number rs → Each (λ r. list_any (has_number r.seq) es ≡ false) rs
    → list_any p (with_events es rs) ≡ (list_any p es || list_any p rs)
unfolding IsDistinct
any_put_all p [] es distinct apart = sym (or-false _)
any_put_all p (r ∷ rs) es distinct apart =
    let still : Each (λ x. list_any (has_number x.seq) (put_row nat_cmp event_number r es) ≡ false) rs =
    each_both (λ x. same_number r x ≡ false) (λ x. list_any (has_number x.seq) es ≡ false) _
    (λ x differs other. any_put x.seq r es ∙ ap (λ b. b || list_any (has_number x.seq) es) (turned x.seq r.seq ∙ differs) ∙ other) rs distinct.0 apart.1 in
    let rest = any_put_all p rs (put_row nat_cmp event_number r es) distinct.1 still in
    let first = any_put_new p r es apart.0 in
    grind (arith, rest, first)

pub any_rising : (p : Event → Bool) (tags : List Name) (now line : ℕ) (kept rows : List Event) → first_fault tags now line kept rows ≡ None
    → list_any p (with_events [] (fresh kept rows)) ≡ list_any p (fresh kept rows)
any_rising p tags now line kept rows none =
    any_put_all p (fresh kept rows) []
    (subst (IsDistinct same_number) (sym (fresh_firsts tags now line kept rows none)) (distinct_firsts same_numbers_tie kept rows))
    (each_of _ (fresh kept rows) (λ k d within. refl))

pub same_count : (kept rows : List Event) → length (new_numbers kept (with_events [] rows)) ≡ length (new_numbers kept rows)
same_count kept rows =
    let put = with_events [] rows in
    let rising : IsInOrder nat_cmp event_number put = order_puts rows [] tt in
    sym (counted_rising kept put rising)
    ∙ counted kept rows (filter (is_other kept) put)
    (rising_distinct _ (keys_rise event_number (is_other kept) put (rises_of event_number put rising)))
    (λ n. sym (any_numbers n _) ∙ any_left n kept put ∙ ap (λ b. not (list_any (has_number n) kept) && b) (any_puts n rows []))
