-- The kept events around a number: they say of a row of this number what all kept events say.
use Rattle.std.specs.{List.{list_any}}
use Rattle.std.proofs.lemmas.Bool.{false≢true, le-ltb, lt-ltb, ltb-true}
use Rattle.std.proofs.{lemmas.List.{length-append, Elements.{filter-append}, Folds.{list_any-append}}, Math.Seq.{drop-append_seam}}
use Rattle.std.proofs.Common.{ap, append_assoc, arith, drop, refl, subst, sym, take, ◌∙◌, Bool, List, [], false, filter, if◌then◌else◌, length, nat_cmp, true, ℕ, ◌++◌, ◌-◌, ◌<◌, ◌∷◌, ◌≡◌, ◌≤◌, ◌||◌}
use Rattle.plant_alarm.specs.declared.event.Event.{Event}
use Rattle.plant_import.specs.{Merging.{IsRising, out_of_order}, Needed.{around}, Numbers.{event_number}, Relation.{below, from}}
use Rattle.plant_import.proofs.ByNumber.{halves}
use Rattle.plant_import.proofs.public.{Nearest.{order_above, order_below}, Placed.{in_order_of, rises_of}, Risings.{Before, Rising}}
use Rattle.plant_import.proofs.public.EachLaws.{Each, Pairs, any_there, each_back, each_front, each_weaker, filter_all, pairs_back, pairs_before}
use Rattle.plant_types.specs.KeyedRows.{IsInOrder}

-- the first events that pass no test but where one of the middle ones does, and the last ones
led : (p : Event → Bool) (b : Bool) (xs : List Event) → Each (λ k. p k ≡ true → b ≡ true) xs → (list_any p xs || b) ≡ b
led p b [] h = refl
led p b (x ∷ xs) h = grind (arith, h.0, led p b xs h.1)

pub each_kept : (P : Event → Type 0) (q : Event → Bool) (xs : List Event) → Each P xs → Each P (filter q xs)
each_kept P q [] h = tt
each_kept P q (x ∷ xs) h =
    elim (q x) as (λ b. Each P (if b then x ∷ filter q xs else filter q xs)) [ true ↦ (h.0, each_kept P q xs h.1) | false ↦ each_kept P q xs h.1 ]

middle_decides : (p : Event → Bool) (front mid rest : List Event) → Each (λ k. p k ≡ true → list_any p mid ≡ true) front
    → Each (λ k. p k ≡ true → list_any p mid ≡ true) rest → list_any p (front ++ (mid ++ rest)) ≡ list_any p mid
middle_decides p front mid rest low high =
    grind (arith, list_any-append p front (mid ++ rest), list_any-append p mid rest, led p (list_any p mid) front low, led p (list_any p mid) rest high)

middle_kept : (p q : Event → Bool) (front mid rest : List Event) → Each (λ k. p k ≡ true → list_any p mid ≡ true) front
    → Each (λ k. p k ≡ true → list_any p mid ≡ true) rest → Each (λ k. q k ≡ true) mid
    → list_any p (front ++ (mid ++ rest)) ≡ list_any p (filter q (front ++ (mid ++ rest)))
middle_kept p q front mid rest low high all =
    let parts : filter q (front ++ (mid ++ rest)) ≡ filter q front ++ (mid ++ filter q rest) =
    filter-append q front (mid ++ rest) ∙ ap (λ l. filter q front ++ l) (filter-append q mid rest ∙ ap (λ l. l ++ filter q rest) (filter_all q mid all)) in
    let decided : Event → Type 0 = λ k. p k ≡ true → list_any p mid ≡ true in
    middle_decides p front mid rest low high
    ∙ sym (ap (list_any p) parts ∙ middle_decides p (filter q front) mid (filter q rest) (each_kept decided q front low) (each_kept decided q rest high))

-- the events before those around a row, and those behind them: none has its number, and where one is out of order, one of
-- those around it is too
pub record AreAway (e : Event) (mid : List Event) (front rest : List Event) : Type 0 where
  pub lower : Each (λ k. k.seq < e.seq) front
  pub upper : Each (λ k. e.seq < k.seq) rest
  pub before : Each (λ k. out_of_order e k ≡ true → list_any (out_of_order e) mid ≡ true) front
  pub behind : Each (λ k. out_of_order e k ≡ true → list_any (out_of_order e) mid ≡ true) rest

pub record Surrounds (kept : List Event) (e : Event) (mid : List Event) : Type 0 where
  pub front : List Event
  pub rest : List Event
  pub whole : kept ≡ front ++ (mid ++ rest)
  pub away : AreAway e mid front rest

record Ends (xs : List Event) : Type 0 where
  pub front : List Event
  pub last : Event
  pub is : xs ≡ front ++ last ∷ []

ends : (x : Event) (xs : List Event) → Ends (x ∷ xs)
ends x [] = record { front = []; last = x; is = refl }
ends x (y ∷ ys) = let end = ends y ys in record { front = x ∷ end.front; last = end.last; is = ap (λ l. x ∷ l) end.is }

-- the second of the events that are not below a number stands for those behind it
record StandsFor (e y : Event) (k : Event) : Type 0 where
  pub higher : e.seq < k.seq
  pub order : out_of_order e k ≡ true → out_of_order e y ≡ true

second : (e x y : Event) (zs : List Event) → Rising (x ∷ y ∷ zs) → e.seq ≤ x.seq → Each (StandsFor e y) zs
second e x y zs rising from =
    let up : e.seq < y.seq = omega (arith, from, rising.0.0.0) in
    each_weaker (Before y) (StandsFor e y)
    (λ k b. let more : e.seq < k.seq = omega (arith, up, b.0) in record {
      higher = more;
      order = λ t. order_above e y up ∙ lt-ltb y.moment e.moment (omega (arith, b.1, ltb-true k.moment e.moment (sym (order_above e k more) ∙ t)));
    }) zs rising.1.0

there : (e y : Event) (pre post : List Event) → out_of_order e y ≡ true → list_any (out_of_order e) (pre ++ y ∷ post) ≡ true
there e y pre post t = any_there (out_of_order e) pre post y t

stood_for : (e y : Event) (pre post zs : List Event) → Each (StandsFor e y) zs
    → Each (λ k. out_of_order e k ≡ true → list_any (out_of_order e) (pre ++ y ∷ post) ≡ true) zs
stood_for e y pre post zs =
    each_weaker (StandsFor e y) (λ k. out_of_order e k ≡ true → list_any (out_of_order e) (pre ++ y ∷ post) ≡ true)
    (λ k s t. there e y pre post (s.order t)) zs

all_higher : (e y : Event) (zs : List Event) → Each (StandsFor e y) zs → Each (λ k. e.seq < k.seq) zs
all_higher e y zs = each_weaker (StandsFor e y) (λ k. e.seq < k.seq) (λ k s. s.higher) zs

-- without smaller numbers
from_first : (e : Event) (above : List Event) → Rising above → Each (λ x. e.seq ≤ x.seq) above → Surrounds above e (take 3 above)
from_first e [] rising high = record { front = []; rest = []; whole = refl; away = record { lower = tt; upper = tt; before = tt; behind = tt } }
from_first e (x ∷ []) rising high = record { front = []; rest = []; whole = refl; away = record { lower = tt; upper = tt; before = tt; behind = tt } }
from_first e (x ∷ y ∷ []) rising high = record { front = []; rest = []; whole = refl; away = record { lower = tt; upper = tt; before = tt; behind = tt } }
from_first e (x ∷ y ∷ z ∷ zs) rising high =
    let stand = (second e x y (z ∷ zs) rising high.0).1 in
    record {
      front = [];
      rest = zs;
      whole = refl;
      away = record { lower = tt; upper = all_higher e y zs stand; before = tt; behind = stood_for e y (x ∷ []) (z ∷ []) zs stand };
    }

-- behind the last of the smaller numbers
low_stand : (e l : Event) (front post : List Event) → l.seq < e.seq → Each (λ k. Before k l) front
    → Each (λ k. out_of_order e k ≡ true → list_any (out_of_order e) (l ∷ post) ≡ true) front
low_stand e l front post lt =
    each_weaker (λ k. Before k l) (λ k. out_of_order e k ≡ true → list_any (out_of_order e) (l ∷ post) ≡ true)
    (λ k b t. there e l [] post (order_below e l lt
    ∙ lt-ltb e.moment l.moment (omega (arith, b.1, ltb-true e.moment k.moment (sym (order_below e k (omega (arith, b.0, lt))) ∙ t))))) front

from_last : (e l : Event) (front above : List Event) → Rising (front ++ l ∷ above) → Each (λ k. k.seq < e.seq) front → l.seq < e.seq
    → Each (λ x. e.seq ≤ x.seq) above → Surrounds (front ++ l ∷ above) e (l ∷ take 2 above)
from_last e l front above rising low lt high = by above rising high where
  before : (es : List Event) → Rising (front ++ l ∷ es) → (post : List Event)
      → Each (λ k. out_of_order e k ≡ true → list_any (out_of_order e) (l ∷ post) ≡ true) front
  before es rises post = low_stand e l front post lt (pairs_before Before front es l rises)

  by : (es : List Event) → Rising (front ++ l ∷ es) → Each (λ x. e.seq ≤ x.seq) es → Surrounds (front ++ l ∷ es) e (l ∷ take 2 es)
  by [] rises up = record { front = front; rest = []; whole = refl; away = record { lower = low; upper = tt; before = before [] rises []; behind = tt } }
  by (x ∷ []) rises up =
      record { front = front; rest = []; whole = refl; away = record { lower = low; upper = tt; before = before (x ∷ []) rises (x ∷ []); behind = tt } }
  by (x ∷ y ∷ zs) rises up =
      let stand = second e x y zs (pairs_back Before front (l ∷ x ∷ y ∷ zs) rises).1 up.0 in
      record {
        front = front;
        rest = zs;
        whole = refl;
        away = record {
          lower = low;
          upper = all_higher e y zs stand;
          before = before (x ∷ y ∷ zs) rises (x ∷ y ∷ []);
          behind = stood_for e y (l ∷ x ∷ []) [] zs stand;
        };
      }

surrounded : (e : Event) (low above : List Event) → Rising (low ++ above) → Each (λ k. k.seq < e.seq) low → Each (λ x. e.seq ≤ x.seq) above
    → Surrounds (low ++ above) e (take 3 (drop (length low - 1) (low ++ above)))
surrounded e [] above rising lows high = from_first e above rising high
surrounded e (x ∷ xs) above rising under high =
    let end = ends x xs in
    let whole : (x ∷ xs) ++ above ≡ end.front ++ end.last ∷ above = ap (λ l. l ++ above) end.is ∙ append_assoc end.front (end.last ∷ []) above in
    let many : length (x ∷ xs) - 1 ≡ length end.front =
    let long : length (x ∷ xs) ≡ length (end.front ++ end.last ∷ []) = ap length end.is in omega (arith, long, length-append end.front (end.last ∷ [])) in
    let mid : take 3 (drop (length (x ∷ xs) - 1) ((x ∷ xs) ++ above)) ≡ end.last ∷ take 2 above =
    (λ i. take 3 (drop (many i) (whole i))) ∙ ap (take 3) (drop-append_seam end.front (end.last ∷ above)) in
    let lows : Each (λ k. k.seq < e.seq) (end.front ++ end.last ∷ []) = subst (λ (l : List Event). Each (λ k. k.seq < e.seq) l) end.is under in
    subst (λ (m : List Event). Surrounds ((x ∷ xs) ++ above) e m) (sym mid)
    (subst (λ (l : List Event). Surrounds l e (end.last ∷ take 2 above)) (sym whole)
    (from_last e end.last end.front above (subst (λ (l : List Event). Rising l) whole rising) (each_front (λ k. k.seq < e.seq) end.front (end.last
    ∷ []) lows) (each_back (λ k. k.seq < e.seq) end.front (end.last ∷ []) lows).0 high))

pub surrounds : (kept : List Event) (e : Event) → IsRising kept → Surrounds kept e (around kept e.seq)
surrounds kept e h =
    let parts = halves e.seq kept h in
    subst (λ (l : List Event). Surrounds l e (take 3 (drop (length (below e.seq kept) - 1) l))) (sym parts.whole)
    (surrounded e (below e.seq kept) (from e.seq kept) parts.rising parts.low parts.high)

-- what is the same for a row, if those of the kept events that stand around it are among others
module _ (q : Event → Bool) where
  abbrev pub Same : (Event → Bool) → List Event → Type 0
  Same p kept = list_any p kept ≡ list_any p (filter q kept)

  pub same_around : (p : Event → Bool) (kept : List Event) (e : Event) (mid : List Event) (s : Surrounds kept e mid) → Each (λ k. q k ≡ true) mid
      → Each (λ k. p k ≡ true → list_any p mid ≡ true) s.front → Each (λ k. p k ≡ true → list_any p mid ≡ true) s.rest → Same p kept
  same_around p kept e mid s all low high =
      subst (λ (l : List Event). Same p l) (sym s.whole) (middle_kept p q s.front mid s.rest low high all)

  -- a test of numbers
  pub same_numbered : (p : Event → Bool) (kept : List Event) (e : Event) (mid : List Event) (s : Surrounds kept e mid) → Each (λ k. q k ≡ true) mid
      → ((k : Event) → k.seq < e.seq → p k ≡ false) → ((k : Event) → e.seq < k.seq → p k ≡ false) → Same p kept
  same_numbered p kept e mid s all low high =
      let never : (k : Event) → p k ≡ false → p k ≡ true → list_any p mid ≡ true = λ k f t. absurd (false≢true (sym f ∙ t)) in
      same_around p kept e mid s all
      (each_weaker (λ k. k.seq < e.seq) (λ k. p k ≡ true → list_any p mid ≡ true) (λ k lt. never k (low k lt)) s.front s.away.lower)
      (each_weaker (λ k. e.seq < k.seq) (λ k. p k ≡ true → list_any p mid ≡ true) (λ k lt. never k (high k lt)) s.rest s.away.upper)

-- the events that pass a test
pub pairs_kept : (R : Event → Event → Type 0) (q : Event → Bool) (xs : List Event) → Pairs R xs → Pairs R (filter q xs)
pairs_kept R q [] h = tt
pairs_kept R q (x ∷ xs) h =
    elim (q x) as (λ b. Pairs R (if b then x ∷ filter q xs else filter q xs)) [
      | true ↦ (each_kept (R x) q xs h.0, pairs_kept R q xs h.1)
      | false ↦ pairs_kept R q xs h.1
    ]

pub order_kept : (q : Event → Bool) (es : List Event) → IsInOrder nat_cmp event_number es → IsInOrder nat_cmp event_number (filter q es)
order_kept q es h = in_order_of event_number (filter q es) (pairs_kept (λ x y. x.seq < y.seq) q es (rises_of event_number es h))
