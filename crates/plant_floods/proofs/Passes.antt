-- What one more count does to the floods.
use Rattle.std.specs.List.{slice_split, cons_option}
use Rattle.std.proofs.lemmas.{Bool.{ltb-true, le-leb, Decides.{nat_tests}}, List.{append-nil, map-append, take_more, take_all, length-take-le}}
use Rattle.std.proofs.lemmas.List.{Elements.{filter_map-append}, Folds.{list_all-append}, Sums.{fold-append, sum_by-append}}
use Rattle.std.proofs.Common.{◌≡◌, ℕ, ◌+◌, ◌<◌, ◌≤◌, refl, sym, ap, ◌∙◌, List, [], ◌∷◌, ◌++◌, length, map, Bool, true, false, cond, arith, ◌&&◌, ◌||◌, not, Option, Some, None, sum, append_assoc, subst, length-append, zero-add, take, get_or, nat_lt, nat_le, filter_map, fold, max, option_to_list}
use Rattle.plant_floods.specs.{declared.run.Run.{Run}, Floods.{ends_in_flood, Period, period, periods_after, periods, run_of, floods}}
use Rattle.plant_floods.{specs.Pass.{grown, next_runs}, proofs.Splits.{split-yes, split-no}}

-- the test of the last period, with one more
pub ends-push : (xs : List ℕ) (c : ℕ) → ends_in_flood (xs ++ c ∷ []) ≡ ((ends_in_flood xs && nat_le 5 c) || nat_lt 10 c)
ends-push [] c = grind (arith, nat_tests)
ends-push (x ∷ xs) c = grind (arith, ends-push xs c, list_all-append (nat_le 5) xs (c ∷ []))

periods_after-push : (before xs : List ℕ) (c : ℕ) → periods_after before (xs ++ c ∷ []) ≡ periods_after before xs ++ period (before ++ xs) c ∷ []
periods_after-push before [] c = ap (λ l. period l c ∷ []) (sym (append-nil before))
periods_after-push before (x ∷ xs) c =
    ap (λ l. period before x ∷ l) (periods_after-push (before ++ x ∷ []) xs c)
    ∙ ap (λ l. period before x ∷ (periods_after (before ++ x ∷ []) xs ++ period l c ∷ [])) (append_assoc before (x ∷ []) xs)

pub periods-push : (xs : List ℕ) (c : ℕ) → periods (xs ++ c ∷ []) ≡ periods xs ++ period xs c ∷ []
periods-push xs c = periods_after-push [] xs c

abbrev out : Period → Bool
out p = not p.in_flood

abbrev is_some_list : List Period → Bool
is_some_list [] = false
is_some_list (p ∷ ps) = true

-- the last run reaches to the last of n periods
abbrev Reaches : ℕ → List Period → Type 0
Reaches n [] = Unit {0}
Reaches n (p ∷ ps) = p.number + length ps + 1 ≡ n

-- these counts leave these runs, and this one open
pub record Passed (xs : List ℕ) (runs : List Run) (current : Option Run) : Type 0 where
  pub done : List (List Period)
  pub cur : List Period
  pub parts : slice_split out (periods xs) ≡ done ++ cur ∷ []
  pub runs_are : runs ≡ filter_map run_of done
  pub current_is : current ≡ run_of cur
  pub flag : ends_in_flood xs ≡ is_some_list cur
  pub reaches : Reaches (length xs) cur

pub passed_none : Passed [] [] None
passed_none = record { done = []; cur = []; parts = refl; runs_are = refl; current_is = refl; flag = refl; reaches = tt }

pub passed_all : (xs : List ℕ) (runs : List Run) (current : Option Run) → Passed xs runs current → floods xs ≡ runs ++ option_to_list current
unfolding floods
passed_all xs runs current h =
    let is : floods xs ≡ filter_map run_of (h.done ++ h.cur ∷ []) = ap (filter_map run_of) h.parts in
    let last : cons_option (run_of h.cur) [] ≡ option_to_list (run_of h.cur) = grind arith in
    rw (h.runs_are, h.current_is) (is ∙ filter_map-append run_of h.done (h.cur ∷ []) ∙ ap (λ l. filter_map run_of h.done ++ l) last)

abbrev the_run : ℕ → ℕ → ℕ → ℕ → Option Run
the_run first last total peak = Some (record { first = first; last = last; total = total; peak = peak })

run_is : (first : ℕ) {last total peak last' total' peak' : ℕ} → last ≡ last' → total ≡ total' → peak ≡ peak'
    → the_run first last total peak ≡ the_run first last' total' peak'
run_is first p q r = cc

-- no run is open
begin : (xs : List ℕ) (c : ℕ) (done : List (List Period)) → slice_split out (periods xs) ≡ done ++ [] ∷ [] → (b : Bool)
    → ends_in_flood (xs ++ c ∷ []) ≡ b
    → Passed (xs ++ c ∷ []) (next_runs (filter_map run_of done) None (cond b (the_run (length xs) (length xs) c c) None))
    (cond b (the_run (length xs) (length xs) c c) None)
begin xs c done e true t =
    record {
      done = done;
      cur = period xs c ∷ [];
      parts = ap (slice_split out) (periods-push xs c) ∙ split-no out (periods xs) (period xs c) done [] (ap not t) e;
      runs_are = refl;
      current_is = run_is (length xs) (omega arith) (omega arith) (omega arith);
      flag = t;
      reaches = omega (arith, length-append xs (c ∷ []));
    }
begin xs c done e false t =
    record {
      done = done ++ [] ∷ [];
      cur = [];
      parts = ap (slice_split out) (periods-push xs c) ∙ split-yes out (periods xs) (period xs c) (ap not t) ∙ ap (λ l. l ++ [] ∷ []) e;
      runs_are = sym (filter_map-append run_of done ([] ∷ []));
      current_is = refl;
      flag = t;
      reaches = tt;
    }

-- one is
go_on : (xs : List ℕ) (c : ℕ) (done : List (List Period)) (p : Period) (ps : List Period) → slice_split out (periods xs) ≡ done ++ (p ∷ ps) ∷ []
    → p.number + length ps + 1 ≡ length xs
    → (b : Bool) → ends_in_flood (xs ++ c ∷ []) ≡ b
    → Passed (xs ++ c ∷ [])
    (next_runs (filter_map run_of done) (run_of (p
    ∷ ps)) (cond b (the_run p.number (length xs) (sum (map (λ q. q.count) (p ∷ ps)) + c) (max (fold max 0 (map (λ q. q.count) (p ∷ ps))) c)) None))
    (cond b (the_run p.number (length xs) (sum (map (λ q. q.count) (p ∷ ps)) + c) (max (fold max 0 (map (λ q. q.count) (p ∷ ps))) c)) None)
go_on xs c done p ps e r true t =
    let counts = map-append (λ (q : Period). q.count) (p ∷ ps) (period xs c ∷ []) in
    record {
      done = done;
      cur = p ∷ (ps ++ period xs c ∷ []);
      parts = ap (slice_split out) (periods-push xs c) ∙ split-no out (periods xs) (period xs c) done (p ∷ ps) (ap not t) e;
      runs_are = refl;
      current_is =
          run_is p.number (omega (arith, r, length-append ps (period xs c ∷ [])))
          (sym (ap sum counts ∙ sum_by-append (λ x. x) (map (λ q. q.count) (p ∷ ps)) (c ∷ [])
          ∙ ap (λ n. sum (map (λ q. q.count) (p ∷ ps)) + n) (zero-add c)))
          (sym (ap (fold max 0) counts ∙ fold-append max 0 (map (λ q. q.count) (p ∷ ps)) (c ∷ [])));
      flag = t;
      reaches = omega (arith, r, length-append xs (c ∷ []), length-append ps (period xs c ∷ []));
    }
go_on xs c done p ps e r false t =
    record {
      done = done ++ (p ∷ ps) ∷ [];
      cur = [];
      parts = ap (slice_split out) (periods-push xs c) ∙ split-yes out (periods xs) (period xs c) (ap not t) ∙ ap (λ l. l ++ [] ∷ []) e;
      runs_are = sym (filter_map-append run_of done ((p ∷ ps) ∷ []));
      current_is = refl;
      flag = t;
      reaches = tt;
    }

or_below : (f t : Bool) → (t ≡ true → f ≡ true) → (f || t) ≡ f
or_below f t h = grind arith

more_by : (xs : List ℕ) (c : ℕ) (done : List (List Period)) (cur : List Period) → slice_split out (periods xs) ≡ done ++ cur ∷ []
    → ends_in_flood xs ≡ is_some_list cur → Reaches (length xs) cur
    → Passed (xs ++ c ∷ []) (next_runs (filter_map run_of done) (run_of cur) (grown (run_of cur) (length xs) c)) (grown (run_of cur) (length xs) c)
more_by xs c done [] e f r = begin xs c done e (nat_lt 10 c) (ends-push xs c ∙ ap (λ b. (b && nat_le 5 c) || nat_lt 10 c) f)
more_by xs c done (p ∷ ps) e f r =
    go_on xs c done p ps e r (nat_le 5 c)
    (ends-push xs c ∙ ap (λ b. (b && nat_le 5 c) || nat_lt 10 c) f
    ∙ or_below (nat_le 5 c) (nat_lt 10 c) (λ h. le-leb 5 c (omega (arith, ltb-true 10 c h))))

pub passed_more : (xs : List ℕ) (c : ℕ) (runs : List Run) (current : Option Run) → Passed xs runs current
    → Passed (xs ++ c ∷ []) (next_runs runs current (grown current (length xs) c)) (grown current (length xs) c)
passed_more xs c runs current h =
    subst (λ (r : List Run). Passed (xs ++ c ∷ []) (next_runs r current (grown current (length xs) c)) (grown current (length xs) c)) (sym h.runs_are)
    (subst (λ (o : Option Run). Passed (xs ++ c
    ∷ []) (next_runs (filter_map run_of h.done) o (grown o (length xs) c)) (grown o (length xs) c)) (sym h.current_is)
    (more_by xs c h.done h.cur h.parts h.flag h.reaches))

pub passed_next : (counts : List ℕ) (i : ℕ) (runs : List Run) (current : Option Run) → i < length counts → Passed (take i counts) runs current
    → Passed (take (i + 1) counts) (next_runs runs current (grown current i (get_or counts i 0))) (grown current i (get_or counts i 0))
passed_next counts i runs current lt h =
    let e : length (take i counts) ≡ i = length-take-le i counts (omega arith) in
    let c = get_or counts i 0 in
    rw (take_more counts i 0 lt)
    (subst (λ (n : ℕ). Passed (take i counts ++ c
    ∷ []) (next_runs runs current (grown current n c)) (grown current n c)) e (passed_more (take i counts) c runs current h))

pub passed_whole : (counts : List ℕ) (i : ℕ) (runs : List Run) (current : Option Run) → length counts ≤ i → Passed (take i counts) runs current
    → runs ++ option_to_list current ≡ floods counts
passed_whole counts i runs current le h = sym (passed_all (take i counts) runs current h) ∙ ap floods (take_all i counts le)
