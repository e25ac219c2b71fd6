-- The events that a file needs give the same result as all events.
use Rattle.std.specs.{Cmp.{unsigned_tied}, List.{list_any, Sorted.{IsPartitionPoint}}}
use Rattle.std.{specs.{Ordering.{eq_by_cmp}, Set.{unique_keys}}, proofs.lemmas.Bool.{eq-eqb, le-ltb, lt-ltb, ltb-true}}
use Rattle.std.proofs.lemmas.{Bool.Decides.{nat_tests}, List.{length-drop, length-take-le, append-nil, drop_more, take-append-drop, take_more}}
use Rattle.std.proofs.{lemmas.{List.{Filters.{length-filter_both}, Folds.{list_any-append}}, Map.Views.{any-filter_same}}, Math.Bool.{and-false, or-true}}
use Rattle.std.proofs.Common.{add-one, ap, arith, drop, get_or, refl, subst, suc, sym, take, zero, ◌∙◌, ◌⊎◌, inl, inr, Bool, List, None, Option, [], false, filter, if◌then◌else◌, length, nat_lt, not, option_map, true, ℕ, ◌&&◌, ◌++◌, ◌+◌, ◌-◌, ◌<◌, ◌∷◌, ◌≡◌, ◌≤◌, ◌||◌, Ok, Result, Some, nat_cmp}
use Rattle.plant_alarm.specs.declared.event.Event.{Event}
use Rattle.plant_import.specs.declared.{bad_file.BadFile.{BadFile}, merging.Merged.{Merged}}
use Rattle.plant_import.specs.Merging.{IsRising, clashes, first_fault, fresh, merge, merged_or, out_of_order, same_event}
use Rattle.plant_import.specs.Needed.{around, beside, from_last_before, has_late, is_around, is_before_all, is_beside, is_late, is_overtaken, names, needed}
use Rattle.plant_import.specs.Numbers.{event_number, has_number, is_other, new_numbers, numbers_of, with_events}
use Rattle.plant_import.{specs.{Reached.{is_passed}, Reading.{bad}}, proofs.public.{Counted.{same_fault}, FirstLaws.{passed_near}}}
use Rattle.plant_import.proofs.public.AroundLaws.{Surrounds, pairs_kept, same_around, same_numbered, surrounds}
use Rattle.plant_import.proofs.public.{Nearest.{order_below, other_number}, Placed.{EachBehind, Rises, other, other_above, puts_after, puts_none, rises_of}}
use Rattle.plant_import.proofs.public.Risings.{Before, Rising, in_number_order, is_rising, rising_of}
use Rattle.plant_import.proofs.public.EachLaws.{Each, any_led, any_none, any_same, each_back, each_both, each_filter, each_from_all, each_front}
use Rattle.plant_import.proofs.public.EachLaws.{each_of, each_weaker, filter_front, filter_parts, pairs_before, pairs_drop, pairs_weaker, parted_each}
use Rattle.plant_types.{specs.{KeyedRows.{IsInOrder}, Names.{Name, same_name}, Options.{or_else}}, proofs.public.Halves.{left}}

-- as many pass as stand before the place where they end
pub parted_count : {X : Type 0} (q : X → Bool) (xs : List X) (p : ℕ) → IsPartitionPoint (λ x. q x ≡ true) (λ x. q x ≡ false) xs p → p ≤ length xs
    → p ≡ length (filter q xs)
parted_count q xs p h le =
    let sides = parted_each (λ x. q x ≡ true) (λ x. q x ≡ false) xs p h le in
    sym (ap length (ap (filter q) (sym (take-append-drop p xs)) ∙ filter_parts q (take p xs) (drop p xs) sides.0 sides.1) ∙ length-take-le p xs le)

-- what comes before one that is before all is before all too
before_more : (rows : List Event) (a b : Event) → a.seq < b.seq → is_before_all rows b ≡ true → is_before_all rows a ≡ true
before_more [] a b le h = refl
before_more (e ∷ rows) a b le h = grind (arith, nat_tests, before_more rows a b le)

above_all : (rows : List Event) (k : Event) → is_before_all rows k ≡ true → Each (λ e. k.seq < e.seq) rows
above_all rows k h =
    each_weaker (λ e. nat_lt k.seq e.seq ≡ true) (λ e. k.seq < e.seq)
    (λ e. ltb-true k.seq e.seq) rows (each_from_all (λ e. nat_lt k.seq e.seq) rows h)

all_lower : (rows pre : List Event) → Each (λ k. is_before_all rows k ≡ true) pre → Each (λ e. Each (λ k. k.seq < e.seq) pre) rows
all_lower rows [] h = each_of (λ (e : Event). Each (λ (k : Event). k.seq < e.seq) []) rows (λ k d lt. tt)
all_lower rows (k ∷ ks) h =
    each_both (λ e. k.seq < e.seq) (λ e. Each (λ x. x.seq < e.seq) ks) (λ e. Each (λ x. x.seq < e.seq) (k ∷ ks))
    (λ e one others. (one, others)) rows (above_all rows k h.0) (all_lower rows ks h.1)

-- no row is late beside events that all come before it
all_pass : {X : Type 0} (p : X → Bool) (xs : List X) → length (filter p xs) ≡ length xs → Each (λ x. p x ≡ true) xs
all_pass p [] h = tt
all_pass {X} p (x ∷ xs) h = by (p x) refl h (all_pass p xs)
  where
    by : (b : Bool) → p x ≡ b → length (if b then x ∷ filter p xs else filter p xs) ≡ suc (length xs)
        → (length (filter p xs) ≡ length xs → Each (λ y. p y ≡ true) xs) → Each (λ y. p y ≡ true) (x ∷ xs)
    by true e h rest = (e, rest (omega (arith, h)))
    by false e h rest = absurd (omega (arith, h, length-filter_both p (λ y. not (p y)) (λ y. refl) xs))

pub none_late : (kept rows : List Event) → length (filter (is_before_all rows) kept) ≡ length kept → has_late kept rows ≡ false
none_late kept rows h =
    any_none (is_late kept) rows (each_weaker (λ e. Each (λ k. k.seq < e.seq) kept) (λ e. is_late kept e ≡ false) one rows
    (all_lower rows kept (all_pass (is_before_all rows) kept h)))
  where
    later : (e k : Event) → k.seq < e.seq → (same_name e.tag k.tag && nat_lt e.seq k.seq) ≡ false
    later e k lt = ap (λ b. same_name e.tag k.tag && b) (le-ltb e.seq k.seq (omega (arith, lt))) ∙ and-false (same_name e.tag k.tag)

    one : (e : Event) → Each (λ k. k.seq < e.seq) kept → is_late kept e ≡ false
    one e low =
        ap (λ b. b && not (list_any (has_number e.seq) kept)) (any_none (λ k. same_name e.tag k.tag && nat_lt e.seq k.seq) kept
        (each_weaker (λ k. k.seq < e.seq) (λ k. (same_name e.tag k.tag && nat_lt e.seq k.seq) ≡ false) (later e) kept low))

-- rows in order are put at the end where the others all come before them
pub put_at_end : (kept rows : List Event) → length (filter (is_before_all rows) kept) ≡ length kept → Rises event_number rows
    → with_events kept rows ≡ kept ++ rows
put_at_end kept rows h rises =
    ap (λ l. with_events l rows) (sym (append-nil kept))
    ∙ puts_after event_number rows kept [] (behind rows (all_lower rows kept (all_pass (is_before_all rows) kept h)))
    ∙ ap (λ l. kept ++ l) (puts_none event_number rows rises)
  where
    behind : (es : List Event) → Each (λ e. Each (λ k. k.seq < e.seq) kept) es → EachBehind event_number kept es
    behind [] f = tt
    behind (e ∷ es) f = (f.0, behind es f.1)

-- the kept events are some that come before every row, and then the near ones, the first of which comes before every row too
pub record AreLed (rows kept near : List Event) : Type 0 where
  pub pre : List Event
  pub first : Event
  pub rest : List Event
  pub is : near ≡ first ∷ rest
  pub whole : kept ≡ pre ++ first ∷ rest
  pub low : Each (λ k. is_before_all rows k ≡ true) (pre ++ first ∷ [])

-- or the near ones are all
abbrev AreCut : List Event → List Event → List Event → Type 0
AreCut rows kept near = (near ≡ kept) ⊎ AreLed rows kept near

cut : (rows kept : List Event) → IsInOrder nat_cmp event_number kept → AreCut rows kept (from_last_before kept rows)
cut rows [] h = inl refl
cut rows (k ∷ ks) h = by (length (filter (is_before_all rows) (k ∷ ks))) refl where
  passes : Each (λ x. is_before_all rows x ≡ true) (take (length (filter (is_before_all rows) (k ∷ ks))) (k ∷ ks))
  passes =
      let closed =
      pairs_weaker (λ x y. x.seq < y.seq) (λ x y. is_before_all rows y ≡ true → is_before_all rows x ≡ true) (before_more rows) (k ∷ ks)
      (rises_of event_number (k ∷ ks) h) in
      subst (λ (l : List Event). Each (λ x. is_before_all rows x ≡ true) l) (filter_front (is_before_all rows) (k ∷ ks) closed)
      (each_filter (is_before_all rows) (k ∷ ks))

  by : (n : ℕ) → n ≡ length (filter (is_before_all rows) (k ∷ ks)) → AreCut rows (k ∷ ks) (drop (n - 1) (k ∷ ks))
  by zero e = inl refl
  by (suc n) e =
      let lt : n < length (k ∷ ks) =
      omega (arith, e, length-filter_both (is_before_all rows) (λ x. not (is_before_all rows x)) (λ x. refl) (k ∷ ks)) in
      let is = drop_more (k ∷ ks) n k lt in
      let front : take (length (filter (is_before_all rows) (k ∷ ks))) (k ∷ ks) ≡ take n (k ∷ ks) ++ get_or (k ∷ ks) n k ∷ [] =
      ap (λ m. take m (k ∷ ks)) (sym e ∙ sym (add-one n)) ∙ take_more (k ∷ ks) n k lt in
      let one : n ≡ suc n - 1 = omega arith in
      subst (λ m. AreCut rows (k ∷ ks) (drop m (k ∷ ks))) one (inr (record {
        pre = take n (k ∷ ks);
        first = get_or (k ∷ ks) n k;
        rest = drop (n + 1) (k ∷ ks);
        is = is;
        whole = sym (take-append-drop n (k ∷ ks)) ∙ ap (λ l. take n (k ∷ ks) ++ l) is;
        low = subst (λ (l : List Event). Each (λ x. is_before_all rows x ≡ true) l) front passes;
      }))

-- a test that no event of a smaller number passes gives the same on the kept events and on the near ones
lower_none : (p : Event → Bool) (e : Event) (pre near : List Event) → ((k : Event) → k.seq < e.seq → p k ≡ false) → Each (λ k. k.seq < e.seq) pre
    → list_any p (pre ++ near) ≡ list_any p near
lower_none p e pre near none low = list_any-append p pre near
    ∙ ap (λ b. b || list_any p near) (any_none p pre (each_weaker (λ k. k.seq < e.seq) (λ k. p k ≡ false) none pre low))

-- what each test of a row says beside the kept events it says beside the near ones
pub record SeenSame (kept near : List Event) (e : Event) : Type 0 where
  pub same : list_any (same_event e) kept ≡ list_any (same_event e) near
  pub clash : list_any (clashes e) kept ≡ list_any (clashes e) near
  pub order : list_any (out_of_order e) kept ≡ list_any (out_of_order e) near

seen : (e : Event) (pre : List Event) (first : Event) (rest : List Event) → Rising (pre ++ first ∷ rest)
    → Each (λ k. k.seq < e.seq) (pre ++ first ∷ []) → SeenSame (pre ++ first ∷ rest) (first ∷ rest) e
seen e pre first rest rising low =
    let pre_low = each_front (λ k. k.seq < e.seq) pre (first ∷ []) low in
    let lt : first.seq < e.seq = (each_back (λ k. k.seq < e.seq) pre (first ∷ []) low).0 in
    record {
      same = lower_none (same_event e) e pre (first ∷ rest) (λ k less. (other_number e k (λ q. absurd (omega (arith, q, less)))).0) pre_low;
      clash = lower_none (clashes e) e pre (first ∷ rest) (λ k less. (other_number e k (λ q. absurd (omega (arith, q, less)))).1) pre_low;
      order =
          any_led (out_of_order e) pre first rest (each_weaker (λ k. Before k first) (λ k. out_of_order e k ≡ true → out_of_order e first ≡ true)
          (λ k b t. order_below e first lt
          ∙ lt-ltb e.moment first.moment (omega (arith, b.1, ltb-true e.moment k.moment (sym (order_below e k (omega (arith, b.0, lt))) ∙ t)))) pre
          (pairs_before Before pre rest first rising));
    }

all_seen : (rows kept near : List Event) → Rising kept → AreCut rows kept near → Each (SeenSame kept near) rows
all_seen rows kept near rising (inl is) = each_of (SeenSame kept near) rows (λ k d lt. rw is (record { same = refl; clash = refl; order = refl }))
all_seen rows kept near rising (inr led) =
    rw (led.whole, led.is)
    (each_weaker (λ e. Each (λ k. k.seq < e.seq) (led.pre ++ led.first ∷ [])) (SeenSame (led.pre ++ led.first ∷ led.rest) (led.first ∷ led.rest))
    (λ e. seen e led.pre led.first led.rest (subst (λ (l : List Event). Rising l) led.whole rising)) rows (all_lower rows (led.pre ++ led.first
    ∷ []) led.low))

-- rows on which these tests agree have the same first fault and new rows
seen_more : (kept near : List Event) (e r : Event) → SeenSame kept near r → SeenSame (kept ++ e ∷ []) (near ++ e ∷ []) r
seen_more kept near e r h =
    record { same = with_one (same_event r) h.same; clash = with_one (clashes r) h.clash; order = with_one (out_of_order r) h.order } where
      with_one : (p : Event → Bool) → list_any p kept ≡ list_any p near → list_any p (kept ++ e ∷ []) ≡ list_any p (near ++ e ∷ [])
      with_one p same = list_any-append p kept (e ∷ []) ∙ ap (λ b. b || list_any p (e ∷ [])) same ∙ sym (list_any-append p near (e ∷ []))

each_seen_more : (kept near : List Event) (e : Event) (rows : List Event) → Each (SeenSame kept near) rows
    → Each (SeenSame (kept ++ e ∷ []) (near ++ e ∷ [])) rows
each_seen_more kept near e rows = each_weaker (SeenSame kept near) (SeenSame (kept ++ e ∷ []) (near ++ e ∷ [])) (seen_more kept near e) rows

faults_same : (tags : List Name) (now line : ℕ) (kept near rows : List Event) → Each (SeenSame kept near) rows
    → first_fault tags now line near rows ≡ first_fault tags now line kept rows
faults_same tags now line kept near [] h = refl
faults_same tags now line kept near (e ∷ rows) h =
    λ i. or_else (option_map (bad line) (same_fault tags now near kept e (sym h.0.clash) (sym h.0.order) i))
    (faults_same tags now (line + 1) (kept ++ e ∷ []) (near ++ e ∷ []) rows (each_seen_more kept near e rows h.1) i)

fresh_same : (kept near rows : List Event) → Each (SeenSame kept near) rows → fresh near rows ≡ fresh kept rows
fresh_same kept near [] h = refl
fresh_same kept near (e ∷ rows) h =
    λ i. (if not (sym h.0.same i) then e ∷ [] else []) ++ fresh_same (kept ++ e ∷ []) (near ++ e ∷ []) rows (each_seen_more kept near e rows h.1) i

-- a row that finds around it events that are among others
seen_around : (q : Event → Bool) (kept : List Event) (e : Event) (mid : List Event) → Surrounds kept e mid → Each (λ k. q k ≡ true) mid
    → SeenSame kept (filter q kept) e
seen_around q kept e mid s all =
    record {
      same =
          same_numbered q (same_event e) kept e mid s all (λ k lt. (other_number e k (λ t. absurd (omega (arith, t, lt)))).0)
          (λ k lt. (other_number e k (λ t. absurd (omega (arith, t, lt)))).0);
      clash =
          same_numbered q (clashes e) kept e mid s all (λ k lt. (other_number e k (λ t. absurd (omega (arith, t, lt)))).1)
          (λ k lt. (other_number e k (λ t. absurd (omega (arith, t, lt)))).1);
      order = same_around q (out_of_order e) kept e mid s all s.away.before s.away.behind;
    }

number_around : (q : Event → Bool) (kept : List Event) (e : Event) (mid : List Event) → Surrounds kept e mid → Each (λ k. q k ≡ true) mid
    → list_any (has_number e.seq) kept ≡ list_any (has_number e.seq) (filter q kept)
number_around q kept e mid s all =
    same_numbered q (has_number e.seq) kept e mid s all (λ k. other e.seq k.seq) (λ k. other_above e.seq k.seq)

-- the events around a row, and those of its alarm, are beside the rows
all_there : (xs : List Event) → Each (λ k. list_any (has_number k.seq) xs ≡ true) xs
all_there [] = tt
all_there (x ∷ xs) = (
  ap (λ b. b || list_any (has_number x.seq) xs) (unsigned_tied x.seq x.seq ∙ eq-eqb x.seq x.seq refl),
  each_weaker (λ k. list_any (has_number k.seq) xs ≡ true) (λ k. list_any (has_number k.seq) (x ∷ xs) ≡ true)
      (λ k t. ap (λ b. has_number k.seq x || b) t ∙ or-true (has_number k.seq x)) xs (all_there xs),
)

each_some : (f : Event → Event → Bool) (rows : List Event) → Each (λ e. (k : Event) → f e k ≡ true → list_any (λ r. f r k) rows ≡ true) rows
each_some f [] = tt
each_some f (e ∷ rows) = (
  λ k t. ap (λ b. b || list_any (λ r. f r k) rows) t,
  each_weaker (λ r. (k : Event) → f r k ≡ true → list_any (λ x. f x k) rows ≡ true)
      (λ r. (k : Event) → f r k ≡ true → list_any (λ x. f x k) (e ∷ rows) ≡ true)
      (λ r h k t. ap (λ b. f e k || b) (h k t) ∙ or-true (f e k)) rows (each_some f rows),
)

-- what a row of the file says of the events beside all its rows
record IsOfFile (kept rows : List Event) (e : Event) : Type 0 where
  pub named : (k : Event) → same_name e.tag k.tag ≡ true → is_beside kept rows k ≡ true
  pub close : Each (λ k. is_beside kept rows k ≡ true) (around kept e.seq)

of_file : (kept rows : List Event) → Each (IsOfFile kept rows) rows
of_file kept rows =
    each_both (λ e. (k : Event) → same_name e.tag k.tag ≡ true → names rows k.tag ≡ true)
    (λ e. (k : Event) → list_any (has_number k.seq) (around kept e.seq) ≡ true → is_around kept rows k.seq ≡ true) (IsOfFile kept rows)
    (λ e tags places. record {
      named = λ k t. ap (λ b. b || is_around kept rows k.seq) (tags k t);
      close =
          each_weaker (λ k. list_any (has_number k.seq) (around kept e.seq) ≡ true) (λ k. is_beside kept rows k ≡ true)
          (λ k t. ap (λ b. names rows k.tag || b) (places k t) ∙ or-true (names rows k.tag)) (around kept e.seq) (all_there (around kept e.seq));
    })
    rows (each_some (λ e k. same_name e.tag k.tag) rows) (each_some (λ e k. list_any (has_number k.seq) (around kept e.seq)) rows)

beside_seen : (kept rows : List Event) → IsRising kept → Each (SeenSame kept (beside kept rows)) rows
beside_seen kept rows h =
    each_weaker (IsOfFile kept rows) (SeenSame kept (beside kept rows))
    (λ e of. seen_around (is_beside kept rows) kept e (around kept e.seq) (surrounds kept e h) of.close) rows (of_file kept rows)

-- the events that a file needs
needed_seen : (kept rows : List Event) → IsRising kept → Each (SeenSame kept (needed kept rows)) rows
needed_seen kept rows h =
    elim (has_late kept rows) as (λ b. Each (SeenSame kept (if b then beside kept rows else from_last_before kept rows)) rows) [
      | true ↦ beside_seen kept rows h
      | false ↦ all_seen rows kept (from_last_before kept rows) (rising_of kept h) (cut rows kept (in_number_order kept h))
    ]

-- with them a file has the same first fault, new rows, new numbers and late rows as with all kept events
pub needed_merge : (kept rows : List Event) (tags : List Name) (now : ℕ) → IsRising kept
    → merge (needed kept rows) rows tags now ≡ merge kept rows tags now
unfolding merge
needed_merge kept rows tags now h =
    ap (λ o. merged_or o (needed kept rows) rows) (faults_same tags now 2 kept (needed kept rows) rows (needed_seen kept rows h))
    ∙ by (first_fault tags now 2 kept rows) where
      adds : List Event → Result Merged BadFile
      adds added = Ok (record { fresh = added; repeated = length rows - length added })

      by : (o : Option BadFile) → merged_or o (needed kept rows) rows ≡ merged_or o kept rows
      by None = ap adds (fresh_same kept (needed kept rows) rows (needed_seen kept rows h))
      by (Some fault) = refl

-- what events in the order of their numbers say of a row's number and of late rows, whatever their moments are
pub record SameNumbers (kept near : List Event) (e : Event) : Type 0 where
  pub number : list_any (has_number e.seq) near ≡ list_any (has_number e.seq) kept
  pub overtaken : is_overtaken near e ≡ is_overtaken kept e

lower_same : (e : Event) (pre near : List Event) → Each (λ k. k.seq < e.seq) pre → SameNumbers (pre ++ near) near e
lower_same e pre near low =
    record {
      number = sym (lower_none (has_number e.seq) e pre near (λ k. other e.seq k.seq) low);
      overtaken =
          sym (lower_none (λ k. same_name e.tag k.tag
          && nat_lt e.seq k.seq) e pre near (λ k lt. ap (λ b. same_name e.tag k.tag && b) (le-ltb e.seq k.seq (omega (arith, lt)))
          ∙ and-false _) low);
    }

same_numbers : (rows kept near : List Event) → AreCut rows kept near → Each (SameNumbers kept near) rows
same_numbers rows kept near (inl is) = each_of (SameNumbers kept near) rows (λ k d lt. rw is (record { number = refl; overtaken = refl }))
same_numbers rows kept near (inr led) =
    rw (led.whole, led.is)
    (each_weaker (λ e. Each (λ k. k.seq < e.seq) led.pre) (SameNumbers (led.pre ++ led.first ∷ led.rest) (led.first ∷ led.rest))
    (λ e. lower_same e led.pre (led.first
    ∷ led.rest)) rows (all_lower rows led.pre (each_front (λ k. is_before_all rows k ≡ true) led.pre (led.first ∷ []) led.low)))

others_same : (kept near rows : List Event) → Each (SameNumbers kept near) rows → filter (is_other near) rows ≡ filter (is_other kept) rows
others_same kept near [] h = refl
others_same kept near (e ∷ rows) h = λ i. if not (h.0.number i) then e ∷ others_same kept near rows h.1 i else others_same kept near rows h.1 i

beside_numbers : (kept rows : List Event) → IsRising kept → Each (SameNumbers kept (beside kept rows)) rows
beside_numbers kept rows h =
    each_weaker (IsOfFile kept rows) (SameNumbers kept (beside kept rows))
    (λ e of. record {
      number = sym (number_around (is_beside kept rows) kept e (around kept e.seq) (surrounds kept e h) of.close);
      overtaken =
          any-filter_same (λ k. same_name e.tag k.tag && nat_lt e.seq k.seq) (is_beside kept rows) true
          (λ k t. of.named k (left (same_name e.tag k.tag) (nat_lt e.seq k.seq) t)) kept;
    })
    rows (of_file kept rows)

needed_same : (kept rows : List Event) → IsRising kept → Each (SameNumbers kept (needed kept rows)) rows
needed_same kept rows h =
    elim (has_late kept rows) as (λ b. Each (SameNumbers kept (if b then beside kept rows else from_last_before kept rows)) rows) [
      | true ↦ beside_numbers kept rows h
      | false ↦ same_numbers rows kept (from_last_before kept rows) (cut rows kept (in_number_order kept h))
    ]

pub needed_numbers : (kept rows : List Event) → IsRising kept → new_numbers (needed kept rows) rows ≡ new_numbers kept rows
needed_numbers kept rows h =
    ap (λ l. unique_keys (eq_by_cmp nat_cmp) (numbers_of l)) (others_same kept (needed kept rows) rows (needed_same kept rows h))

pub needed_late : (kept rows : List Event) → IsRising kept → has_late (needed kept rows) rows ≡ has_late kept rows
needed_late kept rows h =
    any_same (is_late (needed kept rows))
    (is_late kept) rows (each_weaker (SameNumbers kept (needed kept rows)) (λ e. is_late (needed kept rows) e ≡ is_late kept e) (λ e s i. s.overtaken i
    && not (s.number i)) rows (needed_same kept rows h))

-- a row is late if it is overtaken among the near events, and new among all
abbrev pub late_near : List Event → List Event → Event → Bool
late_near kept rows e = is_overtaken (from_last_before kept rows) e && is_other kept e

pub near_late : (kept rows : List Event) → IsInOrder nat_cmp event_number kept → list_any (late_near kept rows) rows ≡ has_late kept rows
near_late kept rows h =
    any_same (late_near kept rows)
    (is_late kept) rows (each_weaker (SameNumbers kept (from_last_before kept rows)) (λ e. late_near kept rows e ≡ is_late kept e) (λ e s i. s.overtaken i
    && is_other kept e) rows (same_numbers rows kept (from_last_before kept rows) (cut rows kept h)))

pub late_told : (kept rows near : List Event) → IsInOrder nat_cmp event_number kept → near ≡ from_last_before kept rows
    → list_any (λ k. is_passed kept rows k.tag k.seq) near ≡ has_late kept rows
late_told kept rows near h is =
    ap (list_any (λ k. is_passed kept rows k.tag k.seq)) is ∙ passed_near kept rows (from_last_before kept rows) ∙ near_late kept rows h

-- they rise as the kept ones do, and are no more
pub needed_rises : (kept rows : List Event) → IsRising kept → IsRising (needed kept rows)
needed_rises kept rows h =
    elim (has_late kept rows) as (λ b. IsRising (if b then beside kept rows else from_last_before kept rows)) [
      | true ↦ is_rising (beside kept rows) (pairs_kept Before (is_beside kept rows) kept (rising_of kept h))
      | false ↦ is_rising (from_last_before kept rows) (pairs_drop Before (length (filter (is_before_all rows) kept) - 1) kept (rising_of kept h))
    ]

pub needed_few : (kept rows : List Event) → IsRising kept → length (needed kept rows) ≤ length kept
needed_few kept rows h =
    elim (has_late kept rows) as (λ b. length (if b then beside kept rows else from_last_before kept rows) ≤ length kept) [
      | true ↦ omega (arith, length-filter_both (is_beside kept rows) (λ x. not (is_beside kept rows x)) (λ x. refl) kept)
      | false ↦ omega (arith, length-drop (length (filter (is_before_all rows) kept) - 1) kept)
    ]
