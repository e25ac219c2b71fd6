-- An event next to those of smaller and those of greater numbers.
use Rattle.std.{specs.List.{list_any}, proofs.lemmas.Bool.{le-ltb, lt-ltb, ne_eqb, eqb-true, eq-eqb, false≢true}}
use Rattle.std.proofs.{lemmas.{Bool.Decides.{nat_tests}, List.{Folds.{list_any-append}}}, Math.Bool.{or-false, and-false}}
use Rattle.std.proofs.Common.{◌≡◌, ℕ, ◌<◌, ◌≤◌, refl, sym, ap, ◌∙◌, subst, arith, List, [], ◌∷◌, ◌++◌, drop, Bool, true, false, ◌&&◌, ◌||◌, not, Option, Some, nat_lt, ◌==◌, slice_get, option_map, unwrap_or}
use Rattle.plant_types.{specs.Names.{name_cmp}, proofs.public.{Halves.{left, right}, KeyedRowLaws.{tied}, Orders.{same_names}}}
use Rattle.plant_alarm.specs.declared.event.{Event.{Event}, EventKind.{EventKind}}
use Rattle.plant_import.specs.Merging.{IsRising, same_event, clashes, out_of_order, kind_no}
use Rattle.plant_import.{specs.Relation.{RelatesSo}, proofs.public.Risings.{Before, Rising, first_cut, is_rising}}
use Rattle.plant_import.proofs.public.EachLaws.{Each, each_weaker, each_append, any_none, any_same, any_there, pairs_back, pairs_before, pairs_front}

-- events that are the same
same_kinds : (k l : EventKind) → kind_no k ≡ kind_no l → k ≡ l
same_kinds k l e = grind (arith, nat_tests)

pub same_is : (a b : Event) → same_event a b ≡ true → a ≡ b
same_is a b e =
    let e₁ = left _ _ e in
    let e₂ = left _ _ e₁ in
    let seq : a.seq ≡ b.seq = eqb-true a.seq b.seq (left _ _ e₂) in
    let moment : a.moment ≡ b.moment = eqb-true a.moment b.moment (right _ _ e₂) in
    let tag : a.tag ≡ b.tag = same_names a.tag b.tag (tied (name_cmp a.tag b.tag) true (right _ _ e₁) refl) in
    let kind = same_kinds a.kind b.kind (eqb-true (kind_no a.kind) (kind_no b.kind) (right _ _ e)) in
    λ i. record { seq = seq i; moment = moment i; tag = tag i; kind = kind i }

pub same_any : (p : Event → Bool) (e : Event) (xs : List Event) → list_any (same_event e) xs ≡ true → p e ≡ true → list_any p xs ≡ true
same_any p e [] h t = absurd (false≢true h)
same_any p e (x ∷ xs) h t =
    let same : same_event e x ≡ true → p e ≡ p x = λ is. ap p (same_is e x is) in
    grind (arith, same, same_any p e xs)

-- one event of another number
pub other_number : (e x : Event) → (e.seq ≡ x.seq → ⊥) → (same_event e x ≡ false) × (clashes e x ≡ false)
other_number e x h = (rw (ne_eqb e.seq x.seq h) refl, rw (ne_eqb e.seq x.seq h) refl)

pub order_below : (e x : Event) → x.seq < e.seq → out_of_order e x ≡ nat_lt e.moment x.moment
order_below e x lt = rw (le-ltb e.seq x.seq (omega arith), lt-ltb x.seq e.seq lt) refl

pub order_above : (e x : Event) → e.seq < x.seq → out_of_order e x ≡ nat_lt x.moment e.moment
order_above e x lt = rw (lt-ltb e.seq x.seq lt, le-ltb x.seq e.seq (omega arith)) (or-false (nat_lt x.moment e.moment))

order_same : (e x : Event) → e.seq ≡ x.seq → out_of_order e x ≡ false
order_same e x same = rw (le-ltb e.seq x.seq (omega arith), le-ltb x.seq e.seq (omega arith)) refl

-- no event has its number
pub apart : (below above : List Event) (e : Event) → Each (λ x. x.seq < e.seq) below → Each (λ x. e.seq < x.seq) above
    → RelatesSo (below ++ above) e false false (list_any (λ x. nat_lt e.moment x.moment) below || list_any (λ x. nat_lt x.moment e.moment) above)
apart below above e low high =
    record {
      same_is =
          list_any-append (same_event e) below above
          ∙ ap (λ b. b || list_any (same_event e) above)
          (any_none (same_event e) below (each_weaker (λ x. x.seq < e.seq) (λ x. same_event e x
          ≡ false) (λ x lt. (other_number e x (λ q. absurd (omega (arith, q, lt)))).0) below low))
          ∙ any_none (same_event e) above (each_weaker (λ x. e.seq < x.seq) (λ x. same_event e x
          ≡ false) (λ x lt. (other_number e x (λ q. absurd (omega (arith, q, lt)))).0) above high);
      clash_is =
          list_any-append (clashes e) below above
          ∙ ap (λ b. b || list_any (clashes e) above)
          (any_none (clashes e) below (each_weaker (λ x. x.seq < e.seq) (λ x. clashes e x
          ≡ false) (λ x lt. (other_number e x (λ q. absurd (omega (arith, q, lt)))).1) below low))
          ∙ any_none (clashes e) above (each_weaker (λ x. e.seq < x.seq) (λ x. clashes e x
          ≡ false) (λ x lt. (other_number e x (λ q. absurd (omega (arith, q, lt)))).1) above high);
      order_is =
          list_any-append (out_of_order e) below above
          ∙ ap (λ b. b || list_any (out_of_order e) above)
          (any_same (out_of_order e) (λ x. nat_lt e.moment x.moment) below (each_weaker (λ x. x.seq < e.seq) (λ x. out_of_order e x
          ≡ nat_lt e.moment x.moment) (order_below e) below low))
          ∙ ap (λ b. list_any (λ x. nat_lt e.moment x.moment) below || b)
          (any_same (out_of_order e) (λ x. nat_lt x.moment e.moment) above (each_weaker (λ x. e.seq < x.seq) (λ x. out_of_order e x
          ≡ nat_lt x.moment e.moment) (order_above e) above high));
    }

no_clash_with_itself : (e : Event) → same_event e e ≡ true → clashes e e ≡ false
no_clash_with_itself e s = ap (λ b. (e.seq == e.seq) && not b) s ∙ and-false (e.seq == e.seq)

known_itself : (below rest : List Event) (e : Event) → same_event e e ≡ true → Rising (below ++ e ∷ rest)
    → RelatesSo (below ++ e ∷ rest) e true false false
known_itself below rest e s rising =
    let low = pairs_before Before below rest e rising in
    let high = (pairs_back Before below (e ∷ rest) rising).0 in
    let below_no_clash =
    each_weaker (λ x. Before x e) (λ x. clashes e x ≡ false) (λ x b. (other_number e x (λ q. absurd (omega (arith, q, b.0)))).1) below low in
    let above_no_clash =
    each_weaker (Before e) (λ x. clashes e x ≡ false) (λ x b. (other_number e x (λ q. absurd (omega (arith, q, b.0)))).1) rest high in
    let below_in_order =
    each_weaker (λ x. Before x e) (λ x. out_of_order e x ≡ false) (λ x b. order_below e x b.0 ∙ le-ltb e.moment x.moment b.1) below low in
    let above_in_order =
    each_weaker (Before e) (λ x. out_of_order e x ≡ false) (λ x b. order_above e x b.0 ∙ le-ltb x.moment e.moment b.1) rest high in
    record {
      same_is = any_there (same_event e) below rest e s;
      clash_is =
          any_none (clashes e) (below ++ e ∷ rest)
          (each_append (λ x. clashes e x ≡ false) below (e ∷ rest) below_no_clash (no_clash_with_itself e s, above_no_clash));
      order_is =
          any_none (out_of_order e) (below ++ e ∷ rest)
          (each_append (λ x. out_of_order e x ≡ false) below (e ∷ rest) below_in_order (order_same e e refl, above_in_order));
    }

-- it is one of them
pub known : (below rest : List Event) (e other : Event) → same_event e other ≡ true → Rising (below ++ other ∷ rest)
    → RelatesSo (below ++ other ∷ rest) e true false false
known below rest e other s rising =
    let same : e ≡ other = same_is e other s in
    subst (λ (y : Event). RelatesSo (below ++ y ∷ rest) e true false false) same
    (known_itself below rest e (subst (λ (y : Event). same_event e y
    ≡ true) (sym same) s) (subst (λ (y : Event). Rising (below ++ y ∷ rest)) (sym same) rising))

-- the two parts of rising events at a number
pub record AreParts (events : List Event) (seq : ℕ) (below above : List Event) : Type 0 where
  pub whole : events ≡ below ++ above
  pub rising : Rising (below ++ above)
  pub low : Each (λ x. x.seq < seq) below
  pub high : Each (λ x. seq ≤ x.seq) above

-- no event has the number where the first of the others hasn't
higher : (seq : ℕ) (above : List Event) (first : Option Event) → Each (λ x. seq ≤ x.seq) above → Rising above → first ≡ slice_get above 0
    → unwrap_or (option_map (λ x. x.seq == seq) first) false ≡ false → Each (λ x. seq < x.seq) above
higher seq [] first high rising is other = tt
higher seq (x ∷ xs) first high rising is other =
    let here : seq < x.seq = grind (arith, nat_tests, high.0) in
    (here, each_weaker (Before x) (λ z. seq < z.seq) (λ z b. omega (arith, here, b.0)) xs rising.0)

-- what the code says
pub below_rising : (events below above : List Event) (seq : ℕ) → AreParts events seq below above → IsRising below
below_rising events below above seq p = is_rising below (pairs_front Before below above p.rising)

pub above_rising : (events below above : List Event) (seq : ℕ) → AreParts events seq below above → IsRising above
above_rising events below above seq p = is_rising above (pairs_back Before below above p.rising)

pub related_known : (events below above : List Event) (e other : Event) → AreParts events e.seq below above → Some other ≡ slice_get above 0
    → same_event e other ≡ true → RelatesSo events e true false false
related_known events below above e other p first s =
    let cut : events ≡ below ++ other ∷ drop 1 above = p.whole ∙ ap (λ l. below ++ l) (first_cut above other first) in
    subst (λ (l : List Event). RelatesSo l e true false false) (sym cut)
    (known below (drop 1 above) e other s (subst (λ (l : List Event). Rising l) (ap (λ l. below ++ l) (first_cut above other first)) p.rising))

pub stands_clash : (events below above : List Event) (e other : Event) → AreParts events e.seq below above → Some other ≡ slice_get above 0
    → e.seq ≡ other.seq → same_event e other ≡ false → list_any (clashes e) events ≡ true
stands_clash events below above e other p first same s =
    let cut : events ≡ below ++ other ∷ drop 1 above = p.whole ∙ ap (λ l. below ++ l) (first_cut above other first) in
    let clash : clashes e other ≡ true = ap (λ b. (e.seq == other.seq) && not b) s ∙ ap (λ b. b && true) (eq-eqb e.seq other.seq same) in
    ap (list_any (clashes e)) cut ∙ any_there (clashes e) below (drop 1 above) other clash

pub stands_apart : (events below above : List Event) (e : Event) (first : Option Event) (b c d : Bool) → AreParts events e.seq below above
    → first ≡ slice_get above 0 → unwrap_or (option_map (λ x. x.seq == e.seq) first) false ≡ false
    → b ≡ list_any (λ x. nat_lt e.moment x.moment) below → c ≡ list_any (λ x. nat_lt x.moment e.moment) above → (b || c) ≡ d
    → RelatesSo events e false false d
stands_apart events below above e first b c d p is other eb ec ed =
    let high = higher e.seq above first p.high (pairs_back Before below above p.rising) is other in
    rw (p.whole, sym ed, eb, ec) (apart below above e p.low high)
