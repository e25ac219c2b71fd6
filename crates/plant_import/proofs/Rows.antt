-- What a row is read as, cause by cause.
use Rattle.std.{specs.List.{enumerate_from, cons_option}, proofs.lemmas.{Bool.Decides.{nat_tests}, List.{map-append, Elements.{filter_map-append}}}}
use Rattle.std.proofs.Common.{◌≡◌, ℕ, ◌≤◌, List, [], ◌∷◌, length, Option, Some, None, Ok, Err, refl, sym, ap, ◌∙◌, arith, ◌+◌, slice_get, option_map, ◌++◌, map, option_to_list}
use Rattle.plant_types.specs.Limits.{max_file_rows}
use Rattle.plant_alarm.specs.declared.event.Event.{Event}
use Rattle.plant_import.specs.{declared.bad_file.{BadFile.{BadFile}, Cause.{Cause}}, Fields.{row_fault, event_in}}
use Rattle.plant_import.specs.Reading.{row_read, event_or, events_or, rows_read, row_faults, bad}

-- what a row is read as gives its fault
fault_of : (o : Option Cause) (fields : List (List ℕ)) (cause : Cause) → event_or o fields ≡ Err cause → o ≡ Some cause
fault_of o fields cause e = grind arith

no_fault : (o : Option Cause) (fields : List (List ℕ)) (event : Event) → event_or o fields ≡ Ok event → (o ≡ None) × (event_in fields ≡ event)
no_fault o fields event e = (grind arith, grind arith)

-- the rows so far have no fault, and these events
pub record AreReadRows (rows : List (List (List ℕ))) (events : List Event) : Type 0 where
  pub none : row_faults (enumerate_from 1 rows) ≡ []
  pub events_are : events ≡ map event_in rows

enumerate_from-push : {X : Type 0} (n : ℕ) (xs : List X) (x : X) → enumerate_from n (xs ++ x ∷ []) ≡ enumerate_from n xs ++ (n + length xs, x) ∷ []
enumerate_from-push n [] x = let e : n ≡ n + 0 = omega arith in ap (λ m. (m, x) ∷ []) e
enumerate_from-push n (y ∷ ys) x = grind (arith, enumerate_from-push (n + 1) ys x)

faults-push : (k : ℕ) (rows : List (List (List ℕ))) (r : List (List ℕ)) → k ≡ length rows + 1
    → row_faults (enumerate_from 1 (rows ++ r ∷ [])) ≡ row_faults (enumerate_from 1 rows) ++ option_to_list (option_map (bad (k + 1)) (row_fault k r))
faults-push k rows r e =
    let f : ℕ × List (List ℕ) → Option BadFile = λ q. option_map (bad (q.0 + 1)) (row_fault q.0 q.1) in
    let at : 1 + length rows ≡ k = omega arith in
    ap row_faults (enumerate_from-push 1 rows r) ∙ filter_map-append f (enumerate_from 1 rows) ((1 + length rows, r) ∷ [])
    ∙ ap (λ m. row_faults (enumerate_from 1 rows) ++ cons_option (f (m, r)) []) at
    ∙ ap (λ l. row_faults (enumerate_from 1 rows) ++ l) (cons_nil (f (k, r)))
  where
    cons_nil : (o : Option BadFile) → cons_option o [] ≡ option_to_list o
    cons_nil None = refl
    cons_nil (Some x) = refl

pub rows_push : (k : ℕ) (rows : List (List (List ℕ))) (r : List (List ℕ)) (events : List Event) (event : Event) → k ≡ length rows + 1
    → AreReadRows rows events → row_read k r ≡ Ok event
    → AreReadRows (rows ++ r ∷ []) (events ++ event ∷ [])
rows_push k rows r events event e h is =
    let n = no_fault (row_fault k r) r event is in
    record {
      none =
          faults-push k rows r e
          ∙ ap (λ o. row_faults (enumerate_from 1 rows) ++ option_to_list (option_map (bad (k + 1)) o)) n.0 ∙ ap (λ l. l ++ []) h.none;
      events_are =
          ap (λ l. l ++ event ∷ []) h.events_are ∙ ap (λ x. map event_in rows ++ x ∷ []) (sym n.1)
          ∙ sym (map-append event_in rows (r ∷ []));
    }

pub rows_whole : (rows : List (List (List ℕ))) (events : List Event) → AreReadRows rows events → rows_read rows ≡ Ok events
rows_whole rows events h = ap (λ l. events_or (slice_get l 0) rows) h.none ∙ ap Ok (sym h.events_are)

first_of : (l : List BadFile) (x : BadFile) (m : List BadFile) → l ≡ [] → slice_get ((l ++ x ∷ []) ++ m) 0 ≡ Some x
first_of l x m e = ap (λ t. slice_get ((t ++ x ∷ []) ++ m) 0) e

more_faults : (n : ℕ) (xs ys : List (List (List ℕ)))
    → (zs : List BadFile) × (row_faults (enumerate_from n (xs ++ ys)) ≡ row_faults (enumerate_from n xs) ++ zs)
more_faults n xs ys =
    let f : ℕ × List (List ℕ) → Option BadFile = λ q. option_map (bad (q.0 + 1)) (row_fault q.0 q.1) in
    let s = enumerated n xs ys in
    (row_faults s.0, ap row_faults s.1 ∙ filter_map-append f (enumerate_from n xs) s.0)
  where
    enumerated : {X : Type 0} (n : ℕ) (xs ys : List X) → (zs : List (ℕ × X)) × (enumerate_from n (xs ++ ys) ≡ enumerate_from n xs ++ zs)
    enumerated n [] ys = (enumerate_from n ys, refl)
    enumerated n (x ∷ xs) ys = let s = enumerated (n + 1) xs ys in (s.0, ap (λ l. (n, x) ∷ l) s.1)

pub rows_stop : (k : ℕ) (rows : List (List (List ℕ))) (r : List (List ℕ)) (rest : List (List (List ℕ))) (events : List Event) (cause : Cause)
    → k ≡ length rows + 1 → AreReadRows rows events → row_read k r ≡ Err cause
    → rows_read ((rows ++ r ∷ []) ++ rest) ≡ Err (bad (k + 1) cause)
rows_stop k rows r rest events cause e h is =
    let f = fault_of (row_fault k r) r cause is in
    let more = more_faults 1 (rows ++ r ∷ []) rest in
    let here : row_faults (enumerate_from 1 (rows ++ r ∷ [])) ≡ row_faults (enumerate_from 1 rows) ++ bad (k + 1) cause ∷ [] =
    faults-push k rows r e ∙ ap (λ o. row_faults (enumerate_from 1 rows) ++ option_to_list (option_map (bad (k + 1)) o)) f in
    let all : row_faults (enumerate_from 1 ((rows ++ r ∷ []) ++ rest)) ≡ (row_faults (enumerate_from 1 rows) ++ bad (k + 1) cause ∷ []) ++ more.0 =
    more.1 ∙ ap (λ l. l ++ more.0) here in
    ap (λ o. events_or o ((rows ++ r ∷ []) ++ rest))
    (ap (λ l. slice_get l 0) all ∙ first_of (row_faults (enumerate_from 1 rows)) (bad (k + 1) cause) more.0 h.none)

-- a row that is read is within the limit
pub in_limit : (k : ℕ) (fields : List (List ℕ)) (event : Event) → row_read k fields ≡ Ok event → k ≤ max_file_rows
unfolding row_fault
in_limit k fields event e = grind (arith, nat_tests)
