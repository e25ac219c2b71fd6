-- The parts of an office answer as the whole.
use Rattle.std.specs.FinMap.{get, insert, retain_keys, get-insert, get-retain_keys, same_map, Entries.{is_sorted, below_all, where_key, is_sorted-where_key}}
use Rattle.std.specs.{List.{AllByRecursion, flat_map}, Ordering.{match_ordering, ordering_reverse}}
use Rattle.std.proofs.{Common.{arith, ap, cond, fold, filter, if◌then◌else◌, is_lt, is_some, lt-ltb, le-leb, le-ltb, ltb-false, ltb-true, map, max, nat_eq, nat_le, nat_lt, not, refl, subst, sym, unwrap_or}, lemmas.{Bool.Decides.{nat_tests}, List.Elements.{filter-append}}}
use Rattle.std.proofs.Common.{Bool, Err, Greater, Less, List, None, Ok, Option, Ordering, Some, T, [], false, suc, true, zero, ℕ, ◌&&◌, ◌++◌, ◌∙◌, ◌∷◌, ◌≡◌}
use Rattle.plant_model.specs.Splits.{ListsAreMerged, ListsAreMergedOfMany, OnlyAPartKnowsItsCodes, OtherCallsChangeNoPart, OtherUnitsMakeNoDifference, PartsAnswerTheirCalls, PartsRunAsTheWhole, answers_on, both_lists, by_unit, calls_on, merged, merged_to, only, world_after}
use Rattle.plant_model.specs.{Facts.{facts}, Grants.{roles_held}, Histories.{last_moment}, Kinds.{OneUnit, OwnShelves, OwnUnits, Subject, subject_of}}
use Rattle.plant_model.specs.{Replies.{shelf_lines}, Verdicts.{changes_history, verdict}, Views.{names_in}}
use Rattle.plant_model.specs.Worlds.{World, answer, answer_at, answer_of_units, answers, by_admin, greatest_last, history, mine_line, mine_lines, next, next_at, opening, reply_about, unit_answer, unit_lines, unit_named, unit_seen, units_held, with_call}
use Rattle.plant_model.specs.declared.{call.Call.{Call}, reply.{MineLine.{MineLine}, Refused.{TheVariants.{MomentBehind}}, ShelfLine.{ShelfLine}, UnitLine.{UnitLine}}}
use Rattle.plant_model.specs.declared.reply.Reply.{Reply, TheVariants.{Mine, Units}}
use Rattle.plant_model.proofs.public.WorldLaws.{clash, same_of, seen, seen_at, seen_rise}
use Rattle.plant_types.specs.{KeyedRows.{IsInOrder, row_at}, Names.{Name, name_cmp, same_name}}
use Rattle.plant_types.proofs.public.{Halves.{first, second}, KeyedRowLaws.{same_rows}, Orders.{name_total, same_names}}

-- A unit of a part
get-only : (units : Name → Bool) (w : World) (u : Name) → get (only units w).units u ≡ cond (units u) (get w.units u) None
get-only units w u = get-retain_keys w.units units u (λ x e. ap units (sym (same_names u x e)))

module _ (units : Name → Bool) (w : World) (u : Name) where
  inside : units u ≡ true → get (only units w).units u ≡ get w.units u
  inside e = get-only units w u ∙ ap (λ b. cond b (get w.units u) None) e

  outside : units u ≡ false → get (only units w).units u ≡ None
  outside e = get-only units w u ∙ ap (λ b. cond b (get w.units u) None) e

either_way : {A : Type 0} (b : Bool) (x : A) → x ≡ cond b x x
either_way true x = refl
either_way false x = refl

-- put, and then kept or left out
put_in : {A : Type 0} (s k : Bool) (x y : Option A) → (s ≡ true → k ≡ true) → cond s x (cond k y None) ≡ cond k (cond s x y) None
put_in true true x y h = refl
put_in true false x y h = clash false (h refl) refl
put_in false k x y h = refl

put_out : {A : Type 0} (s k : Bool) (x y : Option A) → (s ≡ true → k ≡ false) → cond k (cond s x y) None ≡ cond k y None
put_out true true x y h = clash true refl (h refl)
put_out true false x y h = refl
put_out false k x y h = refl

module _ (units : Name → Bool) (w : World) (c : Call) (u : Name) where
  called_in : units u ≡ true → with_call (only units w) c u ≡ only units (with_call w c u)
  called_in e =
      let same : history (only units w) u ≡ history w u = ap (λ o. unwrap_or o []) (inside units w u e) in
      let maps : insert (only units w).units u (c ∷ history (only units w) u) ≡ retain_keys (insert w.units u (c ∷ history w u)) units =
      same_map name_total same_names _ _ (λ q.
      get-insert name_total (only units w).units u (c ∷ history (only units w) u) q
      ∙ ap (λ h. cond (same_name q u) (Some (c ∷ h)) (get (only units w).units q)) same
      ∙ ap (cond (same_name q u) (Some (c ∷ history w u))) (get-only units w q)
      ∙ put_in (same_name q u) (units q) (Some (c ∷ history w u)) (get w.units q) (λ t. ap units (same_of q u t) ∙ e)
      ∙ ap (λ o. cond (units q) o None) (sym (get-insert name_total w.units u (c ∷ history w u) q))
      ∙ sym (get-only units (with_call w c u) q)) in
      λ i. record { admin = w.admin; units = maps i }

  called_out : units u ≡ false → only units (with_call w c u) ≡ only units w
  called_out e =
      let maps : retain_keys (insert w.units u (c ∷ history w u)) units ≡ retain_keys w.units units =
      same_map name_total same_names _ _ (λ q.
      get-only units (with_call w c u) q
      ∙ ap (λ o. cond (units q) o None) (get-insert name_total w.units u (c ∷ history w u) q)
      ∙ put_out (same_name q u) (units q) (Some (c ∷ history w u)) (get w.units q) (λ t. ap units (same_of q u t) ∙ e)
      ∙ sym (get-only units w q)) in
      λ i. record { admin = w.admin; units = maps i }

-- Calls on units
called : (units : Name → Bool) (w : World) (c : Call) (o : Option Name) → names_in units o ≡ true
    → (answer_at (only units w) c o ≡ answer_at w c o) × (next_at (only units w) c o ≡ only units (next_at w c o))
called units w c None e = clash false e refl
called units w c (Some u) e =
    let same : answer_at (only units w) c (Some u) ≡ answer_at w c (Some u) =
    ap (λ o. unit_answer (by_admin w c) (is_some o) (unwrap_or o []) c) (inside units w u e) in (
      same,
      ap (λ x. if changes_history x c then with_call (only units w) c u else only units w) same
          ∙ elim (changes_history (answer_at w c (Some u)) c) as (λ b. (if b then with_call (only units w) c u else only units w)
          ≡ only units (if b then with_call w c u else w)) [ true ↦ called_in units w c u e | false ↦ refl ],
    )

not_called : (units : Name → Bool) (w : World) (c : Call) (o : Option Name) → names_in units o ≡ false → only units (next_at w c o) ≡ only units w
not_called units w c None e = refl
not_called units w c (Some u) e =
    elim (changes_history (answer_at w c (Some u)) c) as (λ b. only units (if b then with_call w c u else w) ≡ only units w) [
      | true ↦ called_out units w c u e
      | false ↦ refl
    ]

pub parts_answer : PartsAnswerTheirCalls
parts_answer units w c e = called units w c (unit_named c.request) e

pub others_change_nothing : OtherCallsChangeNoPart
others_change_nothing units w c e = not_called units w c (unit_named c.request) e

pub parts_run : PartsRunAsTheWhole
parts_run units w [] = (refl, refl)
parts_run units w (c ∷ calls) =
    let rest = parts_run units (next w c) calls in
    elim (names_in units (unit_named c.request)) as (λ b. names_in units (unit_named c.request) ≡ b
    → (answers (only units w) (cond b (c ∷ calls_on units calls) (calls_on units calls))
    ≡ (if b then answer w c ∷ answers_on units (next w c) calls else answers_on units (next w c) calls))
    × (world_after (only units w) (cond b (c ∷ calls_on units calls) (calls_on units calls)) ≡ only units (world_after (next w c) calls))) [
      | true ↦ λ e.
          let own = parts_answer units w c e in (
            ap (λ x. x ∷ answers (next (only units w) c) (calls_on units calls)) own.0
                ∙ ap (λ v. answer w c ∷ answers v (calls_on units calls)) own.1 ∙ ap (λ xs. answer w c ∷ xs) rest.0,
            ap (λ v. world_after v (calls_on units calls)) own.1 ∙ rest.1,
          )
      | false ↦ λ e.
          let stays = sym (others_change_nothing units w c e) in (
            ap (λ v. answers v (calls_on units calls)) stays ∙ rest.0,
            ap (λ v. world_after v (calls_on units calls)) stays ∙ rest.1,
          )
    ] refl

pub other_units : OtherUnitsMakeNoDifference
other_units units w v c same named =
    let one = parts_answer units w c named in
    let two = parts_answer units v c named in
    (sym one.0 ∙ ap (λ x. answer x c) same ∙ two.0, sym one.1 ∙ ap (λ x. next x c) same ∙ two.1)

pub only_its_codes : OnlyAPartKnowsItsCodes
only_its_codes units w c u named e opens admin =
    ap (answer_at (only units w) c) named
    ∙ ap (λ b. if b then opening (by_admin w c) (is_some (get (only units w).units u)) else verdict (history (only units w) u) c) opens
    ∙ ap (λ b. opening b (is_some (get (only units w).units u))) admin ∙ ap (λ o. opening true (is_some o)) (outside units w u e)

-- Lists whose items are each of one part or of the other: of two items of different parts the earlier has the smaller key
less : (o : Ordering) → T (is_lt o) → o ≡ Less
less o h = grind arith

module _ (part : Name → Bool) where
  module _ {A : Type 0} (key : A → Name) where
    abbrev Ahead : Name → List A → Type 0
    Ahead k ys = AllByRecursion (λ y. part k ≡ not (part (key y)) → name_cmp k (key y) ≡ Less) ys

    abbrev Apart : List A → Type 0
    Apart [] = Unit {0}
    Apart (x ∷ xs) = Ahead (key x) xs × Apart xs

    abbrev ins : List A → List A
    ins xs = filter (λ x. part (key x)) xs

    abbrev outs : List A → List A
    outs xs = filter (λ x. not (part (key x))) xs

    alone : (xs : List A) → by_unit key xs [] ≡ xs
    alone [] = refl
    alone (x ∷ xs) = refl

    goes_first : (x : A) (xs ys : List A) → AllByRecursion (λ y. name_cmp (key x) (key y) ≡ Less) ys
        → by_unit key (x ∷ xs) ys ≡ x ∷ by_unit key xs ys
    goes_first x xs [] h = ap (λ zs. x ∷ zs) (sym (alone xs))
    goes_first x xs (y ∷ ys) h =
        ap (λ r. match_ordering r (x ∷ by_unit key xs (y ∷ ys)) (x ∷ by_unit key xs ys) (y ∷ by_unit key (x ∷ xs) ys)) h.0

    comes_first : (y : A) (ys xs : List A) → AllByRecursion (λ x. name_cmp (key x) (key y) ≡ Greater) xs
        → by_unit key xs (y ∷ ys) ≡ y ∷ by_unit key xs ys
    comes_first y ys [] h = refl
    comes_first y ys (x ∷ xs) h =
        ap (λ r. match_ordering r (x ∷ by_unit key xs (y ∷ ys)) (x ∷ by_unit key xs ys) (y ∷ by_unit key (x ∷ xs) ys)) h.0

    outs_ahead : (k : Name) → part k ≡ true → (ys : List A) → Ahead k ys → AllByRecursion (λ y. name_cmp k (key y) ≡ Less) (outs ys)
    outs_ahead k e [] h = tt
    outs_ahead k e (y ∷ ys) h =
        elim (part (key y)) as (λ b. part (key y) ≡ b → AllByRecursion (λ y. name_cmp k (key y) ≡ Less) (cond (not b) (y ∷ outs ys) (outs ys))) [
          | true ↦ λ _. outs_ahead k e ys h.1
          | false ↦ λ q. (h.0 (e ∙ sym (ap not q)), outs_ahead k e ys h.1)
        ] refl

    ins_ahead : (k : Name) → part k ≡ false → (ys : List A) → Ahead k ys → AllByRecursion (λ y. name_cmp (key y) k ≡ Greater) (ins ys)
    ins_ahead k e [] h = tt
    ins_ahead k e (y ∷ ys) h =
        elim (part (key y)) as (λ b. part (key y) ≡ b → AllByRecursion (λ y. name_cmp (key y) k ≡ Greater) (cond b (y ∷ ins ys) (ins ys))) [
          | true ↦ λ q. (name_total.antisymm (key y) k ∙ ap ordering_reverse (h.0 (e ∙ sym (ap not q))), ins_ahead k e ys h.1)
          | false ↦ λ _. ins_ahead k e ys h.1
        ] refl

    -- then the two parts of the list, merged, are the list
    merged_parts : (xs : List A) → Apart xs → by_unit key (ins xs) (outs xs) ≡ xs
    merged_parts [] h = refl
    merged_parts (x ∷ xs) h =
        let rest = merged_parts xs h.1 in
        elim (part (key x)) as (λ b. part (key x) ≡ b
        → by_unit key (cond b (x ∷ ins xs) (ins xs)) (cond (not b) (x ∷ outs xs) (outs xs)) ≡ x ∷ xs) [
          | true ↦ λ e. goes_first x (ins xs) (outs xs) (outs_ahead (key x) e xs h.0) ∙ ap (λ ys. x ∷ ys) rest
          | false ↦ λ e. comes_first x (outs xs) (ins xs) (ins_ahead (key x) e xs h.0) ∙ ap (λ ys. x ∷ ys) rest
        ] refl

    -- a list in the order of its keys is such a list
    all_ahead : (k : Name) (ys : List A) → T (below_all name_cmp k (map (λ y. (key y, y)) ys)) → Ahead k ys
    all_ahead k [] h = tt
    all_ahead k (y ∷ ys) h = (λ _. less _ (first _ _ h), all_ahead k ys (second _ _ h))

    rising_apart : (xs : List A) → IsInOrder name_cmp key xs → Apart xs
    rising_apart [] h = tt
    rising_apart (x ∷ xs) h = (all_ahead (key x) xs (first _ _ h), rising_apart xs (second _ _ h))

  -- the lines of units
  module _ {A B : Type 0} (key : A → Name) (name : B → Name) (line : A → B) (same : (x : A) → name (line x) ≡ key x) where
    lines_kept : (p : Name → Bool) (xs : List A) → filter (λ l. p (name l)) (map line xs) ≡ map line (filter (λ x. p (key x)) xs)
    lines_kept p [] = refl
    lines_kept p (x ∷ xs) =
        ap (λ n. cond (p n) (line x ∷ filter (λ l. p (name l)) (map line xs)) (filter (λ l. p (name l)) (map line xs))) (same x)
        ∙ elim (p (key x)) as (λ b. cond b (line x ∷ filter (λ l. p (name l)) (map line xs)) (filter (λ l. p (name l)) (map line xs))
        ≡ map line (cond b (x ∷ filter (λ x. p (key x)) xs) (filter (λ x. p (key x)) xs))) [
          | true ↦ ap (λ ls. line x ∷ ls) (lines_kept p xs)
          | false ↦ lines_kept p xs
        ]

    lines_ahead : (k : Name) (xs : List A) → Ahead key k xs → Ahead name k (map line xs)
    lines_ahead k [] h = tt
    lines_ahead k (x ∷ xs) h = (subst (λ n. part k ≡ not (part n) → name_cmp k n ≡ Less) (sym (same x)) h.0, lines_ahead k xs h.1)

    lines_apart : (xs : List A) → Apart key xs → Apart name (map line xs)
    lines_apart [] h = tt
    lines_apart (x ∷ xs) h = (subst (λ n. Ahead name n (map line xs)) (sym (same x)) (lines_ahead (key x) xs h.0), lines_apart xs h.1)

  -- the lines of the shelves in units
  abbrev UnitAt : Type 0
  UnitAt = Name × List Call

  abbrev shelves : ℕ → UnitAt → List MineLine
  shelves t e = map (mine_line e.0) (shelf_lines (facts e.1) t)

  unlike : {A : Type 0} (b : Bool) → b ≡ not b → A
  unlike true e = cc
  unlike false e = cc

  unit_kept : (p : Name → Bool) (u : Name) (ls : List ShelfLine)
      → filter (λ (l : MineLine). p l.unit) (map (mine_line u) ls) ≡ cond (p u) (map (mine_line u) ls) []
  unit_kept p u [] = either_way (p u) []
  unit_kept p u (l ∷ ls) =
      ap (λ ms. cond (p u) (mine_line u l ∷ ms) ms) (unit_kept p u ls)
      ∙ elim (p u) as (λ b. cond b (mine_line u l ∷ cond b (map (mine_line u) ls) []) (cond b (map (mine_line u) ls) [])
      ≡ cond b (map (mine_line u) (l ∷ ls)) []) [ true ↦ refl | false ↦ refl ]

  shelves_kept : (t : ℕ) (p : Name → Bool) (es : List UnitAt)
      → filter (λ (l : MineLine). p l.unit) (flat_map (shelves t) es) ≡ flat_map (shelves t) (filter (λ e. p e.0) es)
  shelves_kept t p [] = refl
  shelves_kept t p (e ∷ es) =
      filter-append (λ (l : MineLine). p l.unit) (shelves t e) (flat_map (shelves t) es)
      ∙ ap (λ ms. ms ++ filter (λ (l : MineLine). p l.unit) (flat_map (shelves t) es)) (unit_kept p e.0 (shelf_lines (facts e.1) t))
      ∙ ap (λ ms. cond (p e.0) (shelves t e) [] ++ ms) (shelves_kept t p es)
      ∙ elim (p e.0) as (λ b. cond b (shelves t e) [] ++ flat_map (shelves t) (filter (λ e. p e.0) es)
      ≡ flat_map (shelves t) (cond b (e ∷ filter (λ e. p e.0) es) (filter (λ e. p e.0) es))) [ true ↦ refl | false ↦ refl ]

  abbrev AheadLines : Name → List MineLine → Type 0
  AheadLines k ls = Ahead (λ (l : MineLine). l.unit) k ls

  abbrev ApartLines : List MineLine → Type 0
  ApartLines ls = Apart (λ (l : MineLine). l.unit) ls

  abbrev AheadUnits : Name → List UnitAt → Type 0
  AheadUnits k es = Ahead (λ (e : UnitAt). e.0) k es

  same_ahead : (u : Name) (ls : List ShelfLine) (rest : List MineLine) → AheadLines u rest → AheadLines u (map (mine_line u) ls ++ rest)
  same_ahead u [] rest h = h
  same_ahead u (l ∷ ls) rest h = (λ e. unlike (part u) e, same_ahead u ls rest h)

  one_ahead : (k u : Name) (ls : List ShelfLine) (rest : List MineLine) → (part k ≡ not (part u) → name_cmp k u ≡ Less) → AheadLines k rest
      → AheadLines k (map (mine_line u) ls ++ rest)
  one_ahead k u [] rest now h = h
  one_ahead k u (l ∷ ls) rest now h = (now, one_ahead k u ls rest now h)

  shelves_ahead : (t : ℕ) (k : Name) (es : List UnitAt) → AheadUnits k es → AheadLines k (flat_map (shelves t) es)
  shelves_ahead t k [] h = tt
  shelves_ahead t k (e ∷ es) h = one_ahead k e.0 (shelf_lines (facts e.1) t) (flat_map (shelves t) es) h.0 (shelves_ahead t k es h.1)

  one_apart : (u : Name) (ls : List ShelfLine) (rest : List MineLine) → AheadLines u rest → ApartLines rest
      → ApartLines (map (mine_line u) ls ++ rest)
  one_apart u [] rest ahead h = h
  one_apart u (l ∷ ls) rest ahead h = (same_ahead u ls rest ahead, one_apart u ls rest ahead h)

  shelves_apart : (t : ℕ) (es : List UnitAt) → Apart (λ (e : UnitAt). e.0) es → ApartLines (flat_map (shelves t) es)
  shelves_apart t [] h = tt
  shelves_apart t (e ∷ es) h =
      one_apart e.0 (shelf_lines (facts e.1) t) (flat_map (shelves t) es) (shelves_ahead t e.0 es h.0) (shelves_apart t es h.1)

-- The units of a person in a part
module _ (units : Name → Bool) where
  abbrev kept : List (Name × List Call) → List (Name × List Call)
  kept es = filter (λ e. units e.0) es

  abbrev at_code : Name → List (Name × List Call) → Option (Name × List Call)
  at_code q es = row_at name_cmp (λ e. e.0) q es

  row_at-kept : (q : Name) (es : List (Name × List Call)) → at_code q (kept es) ≡ cond (units q) (at_code q es) None
  row_at-kept q [] = either_way (units q) None
  row_at-kept q (e ∷ es) =
      let rest = row_at-kept q es in
      elim (same_name q e.0) as (λ s. same_name q e.0 ≡ s → at_code q (cond (units e.0) (e ∷ kept es) (kept es))
      ≡ cond (units q) (cond s (Some e) (at_code q es)) None) [
        | true ↦ λ t.
            ap (λ b. at_code q (cond b (e ∷ kept es) (kept es))) (sym (ap units (same_of q e.0 t)))
            ∙ elim (units q) as (λ b. at_code q (kept es) ≡ cond b (at_code q es) None
            → at_code q (cond b (e ∷ kept es) (kept es)) ≡ cond b (Some e) None) [
              | true ↦ λ _. ap (λ s. cond s (Some e) (at_code q (kept es))) t
              | false ↦ λ r. r
            ] rest
        | false ↦ λ t.
            elim (units e.0) as (λ b. at_code q (cond b (e ∷ kept es) (kept es)) ≡ at_code q (kept es)) [
              | true ↦ ap (λ s. cond s (Some e) (at_code q (kept es))) t
              | false ↦ refl
            ] ∙ rest
      ] refl

  keyed-kept : (es : List (Name × List Call)) → map (λ e. (e.0, e)) (kept es) ≡ where_key name_cmp units (map (λ e. (e.0, e)) es)
  keyed-kept [] = refl
  keyed-kept (e ∷ es) =
      elim (units e.0) as (λ b. map (λ e. (e.0, e)) (cond b (e ∷ kept es) (kept es))
      ≡ cond b ((e.0, e) ∷ where_key name_cmp units (map (λ e. (e.0, e)) es)) (where_key name_cmp units (map (λ e. (e.0, e)) es))) [
        | true ↦ ap (λ xs. (e.0, e) ∷ xs) (keyed-kept es)
        | false ↦ keyed-kept es
      ]

  kept_rise : (es : List (Name × List Call)) → IsInOrder name_cmp (λ (e : Name × List Call). e.0) es
      → IsInOrder name_cmp (λ (e : Name × List Call). e.0) (kept es)
  kept_rise es h =
      subst (λ xs. T (is_sorted name_cmp xs)) (sym (keyed-kept es)) (is_sorted-where_key name_cmp units (map (λ e. (e.0, e)) es) h)

  seen_kept : (w : World) (t : ℕ) (p q : Name) → unit_seen (only units w) t p q ≡ cond (units q) (unit_seen w t p q) None
  seen_kept w t p q =
      ap (λ o. seen t p q (unwrap_or o [])) (get-only units w q)
      ∙ elim (units q) as (λ b. seen t p q (unwrap_or (cond b (get w.units q) None) []) ≡ cond b (seen t p q (history w q)) None) [
        | true ↦ refl
        | false ↦ refl
      ]

  held_kept : (w : World) (t : ℕ) (p : Name) → units_held (only units w) t p ≡ kept (units_held w t p)
  held_kept w t p =
      same_rows name_cmp (λ e. e.0) name_total same_names _ _ (seen_rise (only units w) t p) (kept_rise (units_held w t p) (seen_rise w t p))
      (λ q. seen_at (only units w) t p q ∙ seen_kept w t p q ∙ ap (λ o. cond (units q) o None) (sym (seen_at w t p q))
      ∙ sym (row_at-kept q (units_held w t p)))

-- The last moments
max_more : (a x n m : ℕ) → n ≡ max 0 m → max (max a x) n ≡ max a (max x n)
max_more a x n m e = omega arith

fold_max : (a : ℕ) (xs : List ℕ) → fold max a xs ≡ max a (fold max 0 xs)
fold_max a [] = omega arith
fold_max a (x ∷ xs) =
    let one = fold_max (max a x) xs in
    let two = fold_max (max 0 x) xs in
    omega arith

module _ (units : Name → Bool) where
  last_merged : (es : List (Name × List Call))
      → greatest_last es ≡ max (greatest_last (kept units es)) (greatest_last (kept (λ u. not (units u)) es))
  last_merged [] = omega arith
  last_merged (e ∷ es) =
      let rest = last_merged es in
      let all = fold_max (max 0 (last_moment e.1)) (map (λ e. last_moment e.1) es) in
      let ins = fold_max (max 0 (last_moment e.1)) (map (λ e. last_moment e.1) (kept units es)) in
      let outs = fold_max (max 0 (last_moment e.1)) (map (λ e. last_moment e.1) (kept (λ u. not (units u)) es)) in
      elim (units e.0) as (λ b. greatest_last (e ∷ es) ≡ max (greatest_last (cond b (e ∷ kept units es) (kept units es)))
      (greatest_last (cond (not b) (e ∷ kept (λ u. not (units u)) es) (kept (λ u. not (units u)) es)))) [
        | true ↦ omega arith
        | false ↦ omega arith
      ]

-- The answers
merged_answers : (t a b : ℕ) (x y z : Reply) → z ≡ both_lists x y
    → (if nat_lt t (max a b) then Err (MomentBehind (max a b)) else Ok z)
    ≡ merged (if nat_lt t a then Err (MomentBehind a) else Ok x) (if nat_lt t b then Err (MomentBehind b) else Ok y)
merged_answers t a b x y z is = by_tests (nat_lt t a) (nat_lt t b) refl refl where
  by_tests : (p q : Bool) → nat_lt t a ≡ p → nat_lt t b ≡ q → (if nat_lt t (max a b) then Err (MomentBehind (max a b)) else Ok z)
      ≡ merged (if p then Err (MomentBehind a) else Ok x) (if q then Err (MomentBehind b) else Ok y)
  by_tests true true p q =
      let lt = ltb-true t a p in
      ap (λ s. if s then Err (MomentBehind (max a b)) else Ok z) (lt-ltb t (max a b) (omega arith))
  by_tests true false p q =
      let lt = ltb-true t a p in
      let le = ltb-false t b q in
      let one : max a b ≡ a = omega arith in
      ap (λ n. if nat_lt t n then Err (MomentBehind n) else Ok z) one ∙ ap (λ s. if s then Err (MomentBehind a) else Ok z) p
  by_tests false true p q =
      let le = ltb-false t a p in
      let lt = ltb-true t b q in
      let one : max a b ≡ b = omega arith in
      ap (λ n. if nat_lt t n then Err (MomentBehind n) else Ok z) one ∙ ap (λ s. if s then Err (MomentBehind b) else Ok z) q
  by_tests false false p q =
      let le = ltb-false t a p in
      let le' = ltb-false t b q in
      ap (λ s. if s then Err (MomentBehind (max a b)) else Ok z) (le-ltb t (max a b) (omega arith)) ∙ ap (λ z. Ok z) is

module _ (units : Name → Bool) where
  abbrev others : Name → Bool
  others u = not (units u)

  abbrev unit_line : ℕ → Name → Name × List Call → UnitLine
  unit_line t p e = record { unit = e.0; roles = roles_held e.1 t p }

  units_merged : (t : ℕ) (p : Name) (es : List (Name × List Call)) → IsInOrder name_cmp (λ (e : Name × List Call). e.0) es
      → unit_lines t p es ≡ by_unit (λ (l : UnitLine). l.unit) (unit_lines t p (kept units es)) (unit_lines t p (kept others es))
  units_merged t p es h =
      let lines = unit_lines t p es in
      sym (merged_parts units (λ (l : UnitLine). l.unit) lines
      (lines_apart units (λ (e : Name × List Call). e.0) (λ (l : UnitLine). l.unit) (unit_line t p) (λ _. refl) es
      (rising_apart units (λ (e : Name × List Call). e.0) es h)))
      ∙ ap (λ xs. by_unit (λ (l : UnitLine). l.unit) xs (filter (λ (l : UnitLine). others l.unit) lines))
      (lines_kept units (λ (e : Name × List Call). e.0) (λ (l : UnitLine). l.unit) (unit_line t p) (λ _. refl) units es)
      ∙ ap (by_unit (λ (l : UnitLine). l.unit) (unit_lines t p (kept units es)))
      (lines_kept units (λ (e : Name × List Call). e.0) (λ (l : UnitLine). l.unit) (unit_line t p) (λ _. refl) others es)

  shelves_merged : (t : ℕ) (es : List (Name × List Call)) → IsInOrder name_cmp (λ (e : Name × List Call). e.0) es
      → mine_lines t es ≡ by_unit (λ (l : MineLine). l.unit) (mine_lines t (kept units es)) (mine_lines t (kept others es))
  shelves_merged t es h =
      let lines = mine_lines t es in
      sym (merged_parts units (λ (l : MineLine). l.unit) lines
      (shelves_apart units t es (rising_apart units (λ (e : Name × List Call). e.0) es h)))
      ∙ ap (λ xs. by_unit (λ (l : MineLine). l.unit) xs (filter (λ (l : MineLine). others l.unit) lines)) (shelves_kept units t units es)
      ∙ ap (by_unit (λ (l : MineLine). l.unit) (mine_lines t (kept units es))) (shelves_kept units t others es)

  replies_merged : (es : List (Name × List Call)) (c : Call) (s : Subject) → IsInOrder name_cmp (λ (e : Name × List Call). e.0) es
      → reply_about es c s ≡ both_lists (reply_about (kept units es) c s) (reply_about (kept others es) c s)
  replies_merged es c OwnUnits h = ap (λ ls. Units ls) (units_merged c.moment c.person es h)
  replies_merged es c OwnShelves h = ap (λ ls. Mine c.person c.moment ls) (shelves_merged c.moment es h)
  replies_merged es c (OneUnit u) h = refl

  answers_merged : (w : World) (c : Call)
      → answer_at w c None ≡ merged (answer_at (only units w) c None) (answer_at (only others w) c None)
  answers_merged w c =
      let es = units_held w c.moment c.person in
      ap (λ n. if nat_lt c.moment n then Err (MomentBehind n) else Ok (reply_about es c (subject_of c.request))) (last_merged units es)
      ∙ merged_answers c.moment (greatest_last (kept units es)) (greatest_last (kept others es)) _ _ _
      (replies_merged es c (subject_of c.request) (seen_rise w c.moment c.person))
      ∙ ap (λ us. merged (answer_of_units us c) (answer_of_units (kept others es) c)) (sym (held_kept units w c.moment c.person))
      ∙ ap (λ us. merged (answer_at (only units w) c None) (answer_of_units us c)) (sym (held_kept others w c.moment c.person))

pub lists_merged : ListsAreMerged
lists_merged units w c named =
    ap (answer_at w c) named ∙ answers_merged units w c
    ∙ ap (λ o. merged (answer_at (only units w) c o) (answer_at (only (λ u. not (units u)) w) c o)) (sym named)

-- Parts of parts
parts_of_parts : (p q : Name → Bool) (w : World) → only p (only q w) ≡ only (λ u. q u && p u) w
parts_of_parts p q w =
    let maps : retain_keys (retain_keys w.units q) p ≡ retain_keys w.units (λ u. q u && p u) =
    same_map name_total same_names _ _ (λ u.
    get-only p (only q w) u ∙ ap (λ o. cond (p u) o None) (get-only q w u)
    ∙ elim (q u) as (λ b. cond (p u) (cond b (get w.units u) None) None ≡ cond (b && p u) (get w.units u) None) [
      | true ↦ refl
      | false ↦ sym (either_way (p u) None)
    ]
    ∙ sym (get-only (λ v. q v && p v) w u)) in
    λ i. record { admin = w.admin; units = maps i }

all_kept : (p : Name → Bool) (w : World) → ((u : Name) → p u ≡ true) → only p w ≡ w
all_kept p w all =
    let maps : retain_keys w.units p ≡ w.units = same_map name_total same_names _ _ (λ u. inside p w u (all u)) in
    λ i. record { admin = w.admin; units = maps i }

same_part : (p q : Name → Bool) (w : World) → ((u : Name) → p u ≡ q u) → only p w ≡ only q w
same_part p q w same = ap (λ t. only t w) (λ i u. same u i)

-- of numbers
at_zero : (n : ℕ) → nat_eq n 0 ≡ nat_le n 0
at_zero n = grind (arith, nat_tests)

up_to : (n m : ℕ) → (nat_le m (suc n) && nat_le m n) ≡ nat_le m n
up_to n m = grind (arith, nat_tests)

just_at : (n m : ℕ) → (nat_le m (suc n) && not (nat_le m n)) ≡ nat_eq m (suc n)
just_at n m = grind (arith, nat_tests)

module _ (part : Name → ℕ) (w : World) (c : Call) (named : unit_named c.request ≡ None) where
  at_none : (v : World) → answer v c ≡ answer_at v c None
  at_none v = ap (answer_at v c) named

  parts_to : (n : ℕ) → answer_at (only (λ u. nat_le (part u) n) w) c None ≡ merged_to n part w c
  parts_to zero =
      ap (λ v. answer_at v c None) (sym (same_part _ _ w (λ u. at_zero (part u)))) ∙ sym (at_none (only (λ u. nat_eq (part u) zero) w))
  parts_to (suc n) =
      let whole = only (λ u. nat_le (part u) (suc n)) w in
      answers_merged (λ u. nat_le (part u) n) whole c
      ∙ ap (λ v. merged (answer_at v c None) (answer_at (only (λ u. not (nat_le (part u) n)) whole) c None))
      (parts_of_parts (λ u. nat_le (part u) n) (λ u. nat_le (part u) (suc n)) w ∙ same_part _ _ w (λ u. up_to n (part u)))
      ∙ ap (λ v. merged (answer_at (only (λ u. nat_le (part u) n) w) c None) (answer_at v c None))
      (parts_of_parts (λ u. not (nat_le (part u) n)) (λ u. nat_le (part u) (suc n)) w ∙ same_part _ _ w (λ u. just_at n (part u)))
      ∙ ap (λ x. merged x (answer_at (only (λ u. nat_eq (part u) (suc n)) w) c None)) (parts_to n)
      ∙ ap (merged (merged_to n part w c)) (sym (at_none (only (λ u. nat_eq (part u) (suc n)) w)))

pub lists_merged_of_many : ListsAreMergedOfMany
lists_merged_of_many n part w c few named =
    at_none part w c named w
    ∙ ap (λ v. answer_at v c None) (sym (all_kept (λ u. nat_le (part u) n) w (λ u. le-leb (part u) n (few u))))
    ∙ parts_to part w c named n
