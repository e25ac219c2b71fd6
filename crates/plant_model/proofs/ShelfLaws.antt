-- All answers about shelves agree with what the alarms' events leave of them.
use Rattle.std.specs.List.{AllByRecursion, Sorted.{IsNonDecreasingBy}, cons_option}
use Rattle.std.proofs.Common.{List, None, Option, Some, [], ap, arith, refl, subst, sym, ◌∙◌, ◌≡◌, Bool, cond, filter, filter_map, get_or, inl, inr, length, map, not, suc, option_and_then, option_map, unwrap_or, ℕ, ◌&&◌, ◌++◌, ◌∷◌}
use Rattle.std.proofs.lemmas.{Bool.Decides.{leb_tells}, List.{Kept.{IsNonDecreasingBy-filter}, Sums.{length-filter}}}
use Rattle.plant_alarm.{specs.{Shelves.{is_unshelved}, States.{IsInTime, last_return}, declared.event.Event.{Event}}, proofs.public.Returns.{shelf_by_events}}
use Rattle.plant_import.specs.Merging.{IsRising}
use Rattle.plant_model.specs.{Alarms.{latching, limit}, Changes.{limit_revision}, Events.{events, events_of}, Facts.{facts, returned, shelf_now}}
use Rattle.plant_model.specs.{Laws.{AllShelvesEndByReturns, SaysShelves, ShelvesEndByReturns, shelf_in_history}, Legality.{IsLegal}}
use Rattle.plant_model.specs.{Replies.{alarm_line, line_of, standing_as, standing_line}, Rows.{alarm_as, alarm_row, shelf_rows}, Service.{outage}}
use Rattle.plant_model.specs.{Shelves.{shelf, shelf_left, state_of_shelf}, Worlds.{mine_line}, declared.reply.{AlarmLine.{AlarmLine}, StandingLine.{StandingLine}}}
use Rattle.plant_model.specs.declared.{call.Call.{Call}, rows.{AlarmRow.{AlarmRow}, ShelfRow.{ShelfRow}}}
use Rattle.plant_model.proofs.public.{EventLaws.{events_rise, unspoken}, HistoryLaws.{alarms_told, shelves_told, tags_of_alarms, tags_of_shelves}}
use Rattle.plant_types.specs.{KeyedRows.{in_order}, Names.{Name, name_cmp, same_name}}

moments_rise : (es : List Event) → IsRising es → IsNonDecreasingBy (λ e. e.moment) es
moments_rise es rising i j d le below =
    elim (leb_tells (suc i) j) [
      | inl h ↦ (rising i j d h.1 below).1
      | inr h ↦
          let same : i ≡ j = omega (arith, le, h.1) in
          let equal : (get_or es i d).moment ≡ (get_or es j d).moment = ap (λ k. (get_or es k d).moment) same in
          omega (arith, equal)
    ]

in_time : (h : List Call) → IsLegal h → (a : Name) → IsInTime (events_of h a)
in_time h legal a = IsNonDecreasingBy-filter (λ e. e.moment) (λ e. same_name a e.tag) (events h) (moments_rise (events h) (events_rise h legal))

returned_last : (h : List Call) → IsLegal h → (a : Name) (o : Option Bool) → latching h a ≡ o → returned (facts h) a ≡ last_return (events_of h a)
returned_last h legal a (Some l) is =
    ap (λ o. option_and_then (λ r. r.return_s)
    (option_map (alarm_as a (unwrap_or (limit h a) 0) (limit_revision h a) (events_of h a) (outage h a)) o)) is
returned_last h legal a None is =
    ap (λ o. option_and_then (λ r. r.return_s)
    (option_map (alarm_as a (unwrap_or (limit h a) 0) (limit_revision h a) (events_of h a) (outage h a)) o)) is
    ∙ sym (ap last_return (unspoken h legal a is).no_event)

-- ---- rows that a function gives at keys, seen by two that agree at its own rows

module _ {X : Type 0} (row : Name → Option X) where
  filter_map-agree : {Y : Type 0} (f g : X → Option Y) → ((k : Name) (x : X) → row k ≡ Some x → f x ≡ g x) → (ks : List Name)
      → filter_map f (filter_map row ks) ≡ filter_map g (filter_map row ks)
  filter_map-agree f g same [] = refl
  filter_map-agree f g same (k ∷ ks) =
      let rest = filter_map-agree f g same ks in
      elim (row k) as (λ o. row k ≡ o
      → filter_map f (cons_option o (filter_map row ks))
      ≡ filter_map g (cons_option o (filter_map row ks))) [ None ↦ λ _. rest | Some x ↦ λ is. λ i. cons_option (same k x is i) (rest i) ] refl

  filter-agree : (p q : X → Bool) → ((k : Name) (x : X) → row k ≡ Some x → p x ≡ q x) → (ks : List Name)
      → filter p (filter_map row ks) ≡ filter q (filter_map row ks)
  filter-agree p q same [] = refl
  filter-agree p q same (k ∷ ks) =
      let rest = filter-agree p q same ks in
      elim (row k) as (λ o. row k ≡ o
      → filter p (cons_option o (filter_map row ks))
      ≡ filter q (cons_option o (filter_map row ks))) [ None ↦ λ _. rest | Some x ↦ λ is. λ i. cond (same k x is i) (x ∷ rest i) (rest i) ] refl

  map-all : {Y : Type 0} (f : X → Y) (P : Y → Type 0) → ((k : Name) (x : X) → row k ≡ Some x → P (f x)) → (ks : List Name)
      → AllByRecursion P (map f (filter_map row ks))
  map-all f P holds [] = tt
  map-all f P holds (k ∷ ks) =
      let rest = map-all f P holds ks in
      elim (row k) as (λ o. row k ≡ o
      → AllByRecursion P (map f (cons_option o (filter_map row ks)))) [ None ↦ λ _. rest | Some x ↦ λ is. (holds k x is, rest) ] refl

  filter_map-all : {Y : Type 0} (f : X → Option Y) (P : Y → Type 0) → ((k : Name) (x : X) (y : Y) → row k ≡ Some x → f x ≡ Some y → P y)
      → (ks : List Name) → AllByRecursion P (filter_map f (filter_map row ks))
  filter_map-all f P holds [] = tt
  filter_map-all f P holds (k ∷ ks) =
      let rest = filter_map-all f P holds ks in
      elim (row k) as (λ o. row k ≡ o → AllByRecursion P (filter_map f (cons_option o (filter_map row ks)))) [
        | None ↦ λ _. rest
        | Some x ↦ λ is. elim (f x) as (λ o. f x ≡ o
            → AllByRecursion P (cons_option o (filter_map f (filter_map row ks)))) [ None ↦ λ _. rest | Some y ↦ λ at. (holds k x y is at, rest) ]
            refl
      ] refl

-- ---- the answers about shelves

module _ (h : List Call) (legal : IsLegal h) (t : ℕ) where
  state_left : (a : Name) → shelf_now (facts h) a t ≡ shelf_in_history h a t
  state_left a =
      shelf_by_events (shelf_left (shelf h a)) (events_of h a) (returned (facts h) a) t (in_time h legal a)
      (returned_last h legal a (latching h a) refl)

  -- the shelf of a row is that of its alarm
  own_shelf : (k : Name) (s : ShelfRow) → shelf h k ≡ Some s → state_of_shelf (Some s) (returned (facts h) s.tag) t ≡ shelf_in_history h s.tag t
  own_shelf k s is =
      let own : shelf h s.tag ≡ Some s = ap (shelf h) ((shelves_told h).at_key k s is) ∙ is in
      ap (λ o. state_of_shelf o (returned (facts h) s.tag) t) (sym own) ∙ state_left s.tag

  -- and so is that of an alarm's row
  own_alarm : (k : Name) (r : AlarmRow) → alarm_row h k ≡ Some r → state_of_shelf (shelf h r.tag) r.return_s t ≡ shelf_in_history h r.tag t
  own_alarm k r is =
      let own : alarm_row h r.tag ≡ Some r = ap (alarm_row h) ((alarms_told h).at_key k r is) ∙ is in
      ap (λ o. state_of_shelf (shelf h r.tag) (option_and_then (λ (x : AlarmRow). x.return_s) o) t) (sym own) ∙ state_left r.tag

  abbrev others_now : Name → ShelfRow → Bool
  others_now a s = not (same_name a s.tag) && not (is_unshelved (state_of_shelf (Some s) (returned (facts h) s.tag) t))

  abbrev others_left : Name → ShelfRow → Bool
  others_left a s = not (same_name a s.tag) && not (is_unshelved (shelf_in_history h s.tag t))

  abbrev says_left : StandingLine → Type 0
  says_left l = l.shelved ≡ not (is_unshelved (shelf_in_history h l.tag t))

  -- an alarm that stands since a moment
  standing_left : (r : AlarmRow) → (alarm_line (facts h) t r).shelved ≡ not (is_unshelved (shelf_in_history h r.tag t))
      → (l : StandingLine) (since : Option ℕ) → option_map (standing_as (alarm_line (facts h) t r)) since ≡ Some l → says_left l
  standing_left r said l None is = cc
  standing_left r said l (Some s) is = let same : standing_as (alarm_line (facts h) t r) s ≡ l = cc in subst says_left same said

  shelves_said : SaysShelves h t
  shelves_said =
      let tags = in_order name_cmp (tags_of_shelves h) in
      let alarms = in_order name_cmp (tags_of_alarms h) in
      record {
        state = state_left;
        lines = filter_map-agree (shelf h) (λ s. line_of s (state_of_shelf (Some s) (returned (facts h) s.tag) t))
            (λ s. line_of s (shelf_in_history h s.tag t)) (λ k s is. ap (line_of s) (own_shelf k s is)) tags;
        alarms = map-all (alarm_row h) (alarm_line (facts h) t) (λ (l : AlarmLine). l.shelved ≡ not (is_unshelved (shelf_in_history h l.tag t)))
            (λ k r is. ap (λ state. not (is_unshelved state)) (own_alarm k r is)) alarms;
        standing =
            filter_map-all (alarm_row h)
            (standing_line (facts h) t) says_left
            (λ k r l is at. standing_left r (ap (λ state. not (is_unshelved state)) (own_alarm k r is)) l r.active_s at) alarms;
        others = λ a.
            sym (length-filter (others_now a) (shelf_rows h))
            ∙ ap length (filter-agree (shelf h) (others_now a) (others_left a) (λ k s is. ap (λ state. not (same_name a s.tag)
            && not (is_unshelved state)) (own_shelf k s is)) tags)
            ∙ length-filter (others_left a) (shelf_rows h);
      }

pub shelves_end : ShelvesEndByReturns
shelves_end h legal t = shelves_said h legal t

pub all_shelves_end : AllShelvesEndByReturns
all_shelves_end [] legal t = refl
all_shelves_end (e ∷ units) legal t = λ i. map (mine_line e.0) ((shelves_end e.1 legal.0 t).lines i) ++ all_shelves_end units legal.1 t i
