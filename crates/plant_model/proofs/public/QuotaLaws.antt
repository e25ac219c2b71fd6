-- A quota of 2,000 refuses nothing in a legal history: there are at most 2,000 alarms, and each shelf is of one of them.
use Rattle.std.specs.{Cmp.{eq_by_cmp_equiv}, List.{cons_option, list_any, AllByRecursion, IsDistinct}}
use Rattle.std.proofs.Common.{ap, arith, refl, subst, sym, ◌++◌, ◌∙◌, is_eq, Bool, List, None, Option, Some, [], cond, count_by, false, filter, filter_map, is_some, length, map, max, not, suc, true, ℕ, ◌&&◌, ◌+◌, ◌<◌, ◌∷◌, ◌≡◌, ◌≤◌}
use Rattle.std.proofs.lemmas.{Bool.{leb-false}, List.{length-map, Sums.{length-filter, count_by-le-length}}, Map.Made.{length-le_from_is_member}}
use Rattle.plant_model.specs.{Alarms.{latching, said_of_latching}, Facts.{facts, returned}, Histories.{Begins, Over, Said, latest, still}}
use Rattle.plant_model.specs.{Laws.{QuotaOf2000RefusesNothing}, Legality.{IsLegal}}
use Rattle.plant_model.specs.steps.RowFacts.{alarm_tag, shelf_tag}
use Rattle.plant_model.specs.{Rows.{alarm_as, alarm_row, alarm_rows, shelf_rows, tags_registered}, Shelves.{said_of_shelf, shelf, shelf_left}}
use Rattle.plant_model.specs.declared.call.{Call.{Call}, Request.{Request, TheVariants.{OneShotShelve, Register, TimedShelve, Unshelve}}}
use Rattle.plant_model.{specs.declared.rows.{ShelfRow.{ShelfRow}, UnitRows.{UnitRows}}, proofs.public.PutLaws.{length-put}}
use Rattle.plant_model.proofs.public.{Accepted.{by_legal, latest_legal, IsEntry, made, unrefused}, ChangeLaws.{register_turns}, EventLaws.{unspoken}}
use Rattle.plant_model.proofs.public.FactLaws.{alarm_in, shelf_in}
use Rattle.plant_model.proofs.public.{HistoryLaws.{shelves_told, tags_of_alarms, tags_of_shelves, when_same, when_Some}, PutLaws.{said, key_in}}
use Rattle.plant_model.proofs.public.{RowsFound.{After, Ordered, ordered}, ServiceLaws.{registered_anew, registered_stays, registered, latched_of}}
use Rattle.plant_alarm.specs.Shelves.{is_unshelved, shelf_state}
use Rattle.plant_types.specs.{KeyedRows.{in_order, put_row, row_at, remove_row}, Limits.{max_alarms}, Names.{Name, name_cmp, same_name}}
use Rattle.plant_types.{specs.Options.{or_else}, proofs.public.KeyedRowLaws.{IsInOrder-rows, IsInOrder-remove_row, row_at-remove_row}}
use Rattle.plant_types.proofs.public.Orders.{name_total, same_names}

-- Alarms: at most 2,000. Two lists have equally many rows if they have rows for the same keys.
length-cons_option : {X : Type 0} (o p : Option X) (xs ys : List X) → is_some o ≡ is_some p → length xs ≡ length ys
    → length (cons_option o xs) ≡ length (cons_option p ys)
length-cons_option None None xs ys e same = same
length-cons_option (Some x) (Some y) xs ys e same = ap (λ n. suc n) same
length-cons_option _ _ xs ys e same = cc

length-told : {X : Type 0} (f g : Name → Option X) → ((k : Name) → is_some (f k) ≡ is_some (g k)) → (ks : List Name)
    → length (filter_map f ks) ≡ length (filter_map g ks)
length-told f g same [] = refl
length-told f g same (k ∷ ks) = length-cons_option (f k) (g k) (filter_map f ks) (filter_map g ks) (same k) (length-told f g same ks)

-- a call that registers nothing leaves as many alarms
as_many_alarms : (h : List Call) (c : Call) → ((a : Name) → said_of_latching a c.request ≡ None) → tags_registered c.request ≡ []
    → length (alarm_rows h) ≡ length (alarm_rows (c ∷ h))
as_many_alarms h c unsaid unnamed =
    length-told (alarm_row h) (alarm_row (c ∷ h))
    (λ a. latched_of h a ∙ ap (λ o. is_some (or_else o (latching h a))) (sym (unsaid a)) ∙ sym (latched_of (c ∷ h) a))
    (in_order name_cmp (tags_of_alarms h))
    ∙ ap (λ tags. length (filter_map (alarm_row (c ∷ h)) (in_order name_cmp (tags ++ tags_of_alarms h)))) (sym unnamed)

more_alarms : (h : List Call) → IsLegal h → (p : Name) (t : ℕ) (q : Request) → IsEntry h (made p t q) → length (alarm_rows h) ≤ max_alarms
    → length (alarm_rows (made p t q ∷ h)) ≤ max_alarms
more_alarms h legal p t (Register u a l max) entry le =
    let put : put_row name_cmp alarm_tag (alarm_as a max 0 [] None l) (alarm_rows h) ≡ alarm_rows (made p t (Register u a l max) ∷ h) =
    ap (λ (rows : UnitRows). rows.alarms) (register_turns h p t u a l max (unspoken h legal a (registered_anew h p t u a l max entry))) in
    let few : length (alarm_rows h) < max_alarms = leb-false max_alarms _ (unrefused h (made p t (Register u a l max)) entry).1.1.1.0 in
    let long = length-put name_cmp alarm_tag (alarm_as a max 0 [] None l) (alarm_rows h) in
    subst (λ rows. length rows ≤ max_alarms) put (omega (arith, few, long))
more_alarms h legal p t q entry le = subst (λ n. n ≤ max_alarms) (as_many_alarms h (made p t q) (λ b. refl) refl) le

pub few_alarms : (h : List Call) → IsLegal h → length (alarm_rows h) ≤ max_alarms
few_alarms =
    by_legal (λ h. length (alarm_rows h) ≤ max_alarms) (λ p t u s m k shape. omega arith)
    (λ h c f. more_alarms h f.legal c.person c.moment c.request f.entry)

-- Shelves: each is of a registered alarm
shelved_alarm : (h : List Call) (p : Name) (t : ℕ) (a : Name) (q : Request) (s : ShelfRow) → IsEntry h (made p t q)
    → said_of_shelf a p t h q ≡ Some (Begins s) → is_some (latching h a) ≡ true
shelved_alarm h p t a (TimedShelve u b d w) s entry said =
    ap (λ n. is_some (latching h n)) (when_same a b _ _ said) ∙ registered h b (unrefused h (made p t (TimedShelve u b d w)) entry).1.1.1.0
shelved_alarm h p t a (OneShotShelve u b w) s entry said =
    ap (λ n. is_some (latching h n)) (when_same a b _ _ said) ∙ registered h b (unrefused h (made p t (OneShotShelve u b w)) entry).1.1.1.0
shelved_alarm h p t a (Unshelve u b) s entry said = let no = when_Some (same_name a b) Over (Begins s) said in cc
shelved_alarm h p t a _ s entry said = cc

abbrev shelved : List Call → Name → Option (Said ShelfRow)
shelved h a = latest (λ c before. said_of_shelf a c.person c.moment before c.request) h

shelf_known : (h : List Call) → IsLegal h → (a : Name) (v : Said ShelfRow) → shelved h a ≡ Some v → (s : ShelfRow) → v ≡ Begins s
    → is_some (latching h a) ≡ true
shelf_known h legal a =
    latest_legal (λ c before. said_of_shelf a c.person c.moment before c.request)
    (λ h v. (s : ShelfRow) → v ≡ Begins s → is_some (latching h a) ≡ true) (λ p t u q m k shape v e s is. cc)
    (λ h c f v said s is. registered_stays c h a (shelved_alarm h c.person c.moment a c.request s f.entry (said ∙ ap (λ v. Some v) is)))
    (λ h c f v rest s is. registered_stays c h a (rest s is)) h legal

shelf_registered : (h : List Call) → IsLegal h → (a : Name) → is_some (shelf h a) ≡ true → is_some (alarm_row h a) ≡ true
shelf_registered h legal a there =
    latched_of h a ∙ by_shelf (shelved h a) refl there where
      by_shelf : (o : Option (Said ShelfRow)) → shelved h a ≡ o → is_some (still o) ≡ true → is_some (latching h a) ≡ true
      by_shelf (Some (Begins s)) is e = shelf_known h legal a (Begins s) is s refl
      by_shelf _ is e = cc

-- Counting rows: those of keys other than one are one fewer than all rows, if a row has that key
module _ {X : Type 0} (key : X → Name) where
  apart : (a : Name) (rows : List X) → After name_cmp key a rows → AllByRecursion (λ b. same_name a b ≡ false) (map key rows)
  apart a [] h = tt
  apart a (r ∷ rows) h = (ap is_eq h.0, apart a rows h.1)

  distinct_keys : (rows : List X) → Ordered name_cmp key rows → IsDistinct same_name (map key rows)
  unfolding IsDistinct
  distinct_keys [] h = tt
  distinct_keys (r ∷ rows) h = (apart (key r) rows h.0, distinct_keys rows h.1)

  fewer : (a : Name) (p : X → Bool) (rows : List X) → count_by (λ r. not (same_name a (key r)) && p r) rows ≤ length (remove_row name_cmp key a rows)
  fewer a p rows = rw (sym (length-filter (λ r. not (same_name a (key r)) && p r) rows)) (by rows) where
    by : (rows : List X) → length (filter (λ r. not (same_name a (key r)) && p r) rows) ≤ length (remove_row name_cmp key a rows)
    by [] = omega arith
    by (r ∷ rows) =
        let rest = by rows in
        elim (same_name a (key r)) as (λ b. length (cond (not b
        && p r) (r
        ∷ filter (λ r. not (same_name a (key r)) && p r) rows) (filter (λ r. not (same_name a (key r)) && p r) rows)) ≤ length (cond (not b) (r
        ∷ remove_row name_cmp key a rows) (remove_row name_cmp key a rows))) [
          | true ↦ rest
          | false ↦ elim (p r) as (λ b. length (cond b (r
              ∷ filter (λ r. not (same_name a (key r)) && p r) rows) (filter (λ r. not (same_name a (key r)) && p r) rows)) ≤ length (r
              ∷ remove_row name_cmp key a rows)) [ true ↦ omega (arith, rest) | false ↦ omega (arith, rest) ]
        ]

  one_less : (a : Name) (rows : List X) → is_some (row_at name_cmp key a rows) ≡ true → length (remove_row name_cmp key a rows) + 1 ≤ length rows
  one_less a [] e = cc
  one_less a (r ∷ rows) e =
      elim (same_name a (key r)) as (λ b. is_some (cond b (Some r) (row_at name_cmp key a rows)) ≡ true
      → length (cond (not b) (r ∷ remove_row name_cmp key a rows) (remove_row name_cmp key a rows)) + 1 ≤ length (r ∷ rows)) [
        | true ↦ λ _. omega (arith, length-filter (λ r. not (same_name a (key r))) rows, count_by-le-length (λ r. not (same_name a (key r))) rows)
        | false ↦ λ there. let rest = one_less a rows there in omega (arith, rest)
      ] e

pub few_others : QuotaOf2000RefusesNothing
few_others h legal a t there =
    let in_order = IsInOrder-rows (shelf h) (tags_of_shelves h) (shelves_told h) in
    let others = remove_row name_cmp shelf_tag a (shelf_rows h) in
    let alarms = remove_row name_cmp alarm_tag a (alarm_rows h) in
    let distinct =
    distinct_keys shelf_tag others
    (ordered name_cmp shelf_tag others (IsInOrder-remove_row name_cmp shelf_tag name_total same_names a (shelf_rows h) in_order)) in
    let fit = length-le_from_is_member (eq_by_cmp_equiv name_total) (map shelf_tag others) (map alarm_tag alarms) distinct among in
    let few = few_alarms h legal in
    let counted = fewer shelf_tag a (λ s. not (is_unshelved (shelf_state (shelf_left (Some s)) (returned (facts h) s.tag) t))) (shelf_rows h) in
    let less = one_less alarm_tag a (alarm_rows h) (ap is_some (alarm_in h a) ∙ there) in
    omega (arith, fit, few, counted, less, length-map others shelf_tag, length-map alarms alarm_tag) where
      among : (q : Name) → list_any (same_name q) (map shelf_tag (remove_row name_cmp shelf_tag a (shelf_rows h))) ≡ true
          → list_any (same_name q) (map alarm_tag (remove_row name_cmp alarm_tag a (alarm_rows h))) ≡ true
      among q e =
          key_in name_cmp alarm_tag q _ ∙ ap is_some (row_at-remove_row name_cmp alarm_tag name_total same_names q a (alarm_rows h))
          ∙ ap (λ o. is_some (cond (same_name q a) None o)) (alarm_in h q)
          ∙ elim (same_name q a) as (λ b. is_some (cond b None (row_at name_cmp shelf_tag q (shelf_rows h))) ≡ true
          → is_some (cond b None (alarm_row h q)) ≡ true) [
            | true ↦ λ no. no
            | false ↦ λ some. shelf_registered h legal q (sym (ap is_some (shelf_in h q)) ∙ some)
          ] (sym (ap is_some (row_at-remove_row name_cmp shelf_tag name_total same_names q a (shelf_rows h))) ∙ sym (key_in name_cmp shelf_tag q _)
          ∙ e)
