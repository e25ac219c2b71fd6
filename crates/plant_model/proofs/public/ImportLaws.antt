-- An import turns the rows into those of the history with it.
use Rattle.std.specs.List.{cons_option, list_any}
use Rattle.std.proofs.Common.{ap, cond, inl, inr, refl, subst, sym, true, ◌∙◌, ◌≡◌, find, nat_cmp, Bool, List, None, Ok, Option, Some, [], false, filter, filter_map, map, option_and_then, option_map, unwrap_or, ℕ, ◌∷◌}
use Rattle.plant_import.{specs.{Merging.{first_fault, fresh}, Numbers.{has_number, with_events}}, proofs.public.Counted.{put_twice}}
use Rattle.plant_import.proofs.public.FileLaws.{none_member}
use Rattle.plant_model.specs.{Alarms.{latching, limit}, Changes.{limit_revision}, Events.{event_numbered, events, events_of}, Facts.{facts}}
use Rattle.plant_model.specs.Refusals.{tags_of}
use Rattle.plant_model.specs.steps.{Parts.{none}, RowChanges.{events_with_file, is_touched, new_events, put, with_state}}
use Rattle.plant_model.specs.{Rows.{alarm_as, alarm_row, alarm_rows, rows_of, unit_row}, Service.{outage}}
use Rattle.plant_model.specs.steps.RowFacts.{alarm_tag, event_number}
use Rattle.plant_model.specs.declared.{call.{Call.{Call}, Request.TheVariants.{Import}}, rows.AlarmRow.{AlarmRow}}
use Rattle.plant_model.specs.declared.rows.{Row.TheVariants.{Unit as UnitPut}, RowEdit.TheVariants.{PutEvents}, UnitRows.{UnitRows}}
use Rattle.plant_model.proofs.{EventLists.{IsOf, new_alone, new_rows_say, of_said, only, only_told}, public.ChangeLaws.{Turns}}
use Rattle.plant_model.proofs.public.{EventLaws.{now, Kept, found_event, is_of}, PutLaws.{put_alarms, puts, puts-rows, said, said-rows}}
use Rattle.plant_model.proofs.public.HistoryLaws.{alarm_of, alarms_told, events_told, numbers_of_events, tags_of_alarms, when_Some}
use Rattle.plant_alarm.specs.declared.event.Event.{Event}
use Rattle.plant_floods.specs.Activations.{of_alarm}
use Rattle.plant_types.specs.{KeyedRows.{in_order}, Names.{Name, name_cmp, same_name}, Options.{or_else, when}}
use Rattle.plant_types.proofs.public.{KeyedRowLaws.{IsInOrder-rows, Tells, row_at-rows, same_rows}, Orders.{number_total, same_numbers}}

module _ (h : List Call) (p : Name) (t : ℕ) (u : Name) (rows : List Event) (kept : Kept h)
    (clean : first_fault (tags_of (facts h)) t 2 (events h) rows ≡ None) where
  abbrev after : List Call
  after = now h p t u rows

  abbrev new : List Event
  new = fresh (events h) rows

  -- the new rows say what all rows of the file say
  says : (n : ℕ) → event_numbered after n ≡ or_else (said nat_cmp event_number new n) (event_numbered h n)
  says n =
      ap (or_else (find (has_number n) rows)) (sym (found_event h n))
      ∙ new_rows_say (tags_of (facts h)) t (events h) rows kept.fit clean n
      ∙ ap (or_else (said nat_cmp event_number new n)) (found_event h n)

  pub events_put : events_with_file (events h) rows ≡ events after
  events_put =
      puts-rows (event_numbered h) (event_numbered after) (numbers_of_events h) (numbers_of_events after) new (events_told h) (events_told after) says

  -- an alarm that none of the new rows names keeps its events
  only_key : (a : Name) (k : ℕ) (o : Option Event) (r : Event) → ((x : Event) → o ≡ Some x → x.seq ≡ k) → only a o ≡ Some r → r.seq ≡ k
  only_key a k None r has e = cc
  only_key a k (Some x) r has e = ap event_number (sym (when_Some (same_name a x.tag) x r e)) ∙ has x refl

  only_rows : (a : Name) (g : List Call) → Tells nat_cmp event_number (λ n. only a (event_numbered g n)) (numbers_of_events g)
  only_rows a g =
      let told = events_told g in
      record {
        order = told.order;
        same = told.same;
        at_key = λ n r e. only_key a n (event_numbered g n) r (told.at_key n) e;
        among = λ n. elim (told.among n) [ inl none ↦ inl (ap (only a) none) | inr there ↦ inr there ];
      }

  kept_only : (a : Name) → list_any (is_of a) new ≡ false → (n : ℕ) → only a (event_numbered h n) ≡ only a (event_numbered after n)
  kept_only a none n =
      elim (said nat_cmp event_number new n) as (λ o. said nat_cmp event_number new n ≡ o
      → only a (event_numbered h n) ≡ only a (or_else o (event_numbered h n))) [
        | None ↦ λ _. refl
        | Some y ↦ λ is.
            let away : same_name a y.tag ≡ false = none_member (is_of a) new y none (subst (IsOf new n) is (of_said n new)).0 in
            elim (event_numbered h n) as (λ o. event_numbered h n ≡ o → only a o ≡ when (same_name a y.tag) y) [
              | None ↦ λ _. sym (ap (λ b. when b y) away)
              | Some x ↦ λ found. ap (λ z. when (same_name a z.tag) z)
                  (new_alone (tags_of (facts h)) t (events h) rows kept.fit clean n y is x (found_event h n ∙ found))
            ] refl
      ] refl
      ∙ ap (only a) (sym (says n))

  pub others_kept : (a : Name) → list_any (is_of a) new ≡ false → events_of h a ≡ events_of after a
  others_kept a none =
      only_told a (event_numbered h) (in_order nat_cmp (numbers_of_events h))
      ∙ same_rows nat_cmp event_number number_total same_numbers _ _ (IsInOrder-rows _ (numbers_of_events h) (only_rows a h))
      (IsInOrder-rows _ (numbers_of_events after) (only_rows a after))
      (λ n. row_at-rows _ (numbers_of_events h) (only_rows a h) n ∙ kept_only a none n
      ∙ sym (row_at-rows _ (numbers_of_events after) (only_rows a after) n))
      ∙ sym (only_told a (event_numbered after) (in_order nat_cmp (numbers_of_events after)))

  -- the alarms that the file names
  abbrev row_now : AlarmRow → AlarmRow
  row_now r = with_state (of_alarm r.tag (events_with_file (events h) rows)) r

  abbrev named_row : AlarmRow → Option AlarmRow
  named_row r = when (is_touched (events h) rows r) (row_now r)

  abbrev row_named : Name → Option AlarmRow
  row_named a = option_and_then named_row (alarm_row h a)

  fused : (o : Option AlarmRow) (rest : List AlarmRow)
      → map row_now (filter (is_touched (events h) rows) (cons_option o rest)) ≡ cons_option (option_and_then named_row o)
      (map row_now (filter (is_touched (events h) rows) rest))
  fused None rest = refl
  fused (Some r) rest =
      elim (is_touched (events h) rows r) as (λ b. map row_now (cond b (r
      ∷ filter (is_touched (events h) rows) rest) (filter (is_touched (events h) rows) rest))
      ≡ cons_option (when b (row_now r)) (map row_now (filter (is_touched (events h) rows) rest))) [ true ↦ refl | false ↦ refl ]

  fuse : (tags : List Name) → map row_now (filter (is_touched (events h) rows) (filter_map (alarm_row h) tags)) ≡ filter_map row_named tags
  fuse [] = refl
  fuse (a ∷ tags) = fused (alarm_row h a) (filter_map (alarm_row h) tags) ∙ ap (cons_option (row_named a)) (fuse tags)

  named_tag : (a : Name) (o : Option AlarmRow) (r : AlarmRow) → ((x : AlarmRow) → o ≡ Some x → x.tag ≡ a) → option_and_then named_row o ≡ Some r
      → r.tag ≡ a
  named_tag a None r has e = cc
  named_tag a (Some x) r has e = ap alarm_tag (sym (when_Some (is_touched (events h) rows x) (row_now x) r e)) ∙ has x refl

  named_told : Tells name_cmp alarm_tag row_named (tags_of_alarms h)
  named_told =
      let told = alarms_told h in
      record {
        order = told.order;
        same = told.same;
        at_key = λ a r e. named_tag a (alarm_row h a) r (told.at_key a) e;
        among = λ a. elim (told.among a) [ inl none ↦ inl (ap (option_and_then named_row) none) | inr there ↦ inr there ];
      }

  abbrev alarm_with : Name → List Event → Bool → AlarmRow
  alarm_with a es l = alarm_as a (unwrap_or (limit h a) 0) (limit_revision h a) es (outage h a) l

  by_alarm : (a : Name) (o : Option Bool)
      → option_map (λ l. alarm_with a (events_of after a) l) o ≡ or_else (option_and_then named_row (option_map (alarm_of h a) o))
      (option_map (alarm_of h a) o)
  by_alarm a None = refl
  by_alarm a (Some l) =
      elim (list_any (is_of a) new) as (λ b. list_any (is_of a) new ≡ b
      → Some (alarm_with a (events_of after a) l) ≡ or_else (when b (alarm_with a (of_alarm a (events_with_file (events h) rows)) l))
      (Some (alarm_of h a l))) [
        | true ↦ λ _. ap (λ es. Some (alarm_with a (of_alarm a es) l)) (sym events_put)
        | false ↦ λ none. ap (λ es. Some (alarm_with a es l)) (sym (others_kept a none))
      ] refl

  alarm_rows_put : puts name_cmp alarm_tag (map row_now (filter (is_touched (events h) rows) (alarm_rows h))) (alarm_rows h) ≡ alarm_rows after
  alarm_rows_put =
      ap (λ rs. puts name_cmp alarm_tag rs (alarm_rows h)) (fuse (in_order name_cmp (tags_of_alarms h)))
      ∙ puts-rows (alarm_row h) (alarm_row after) (tags_of_alarms h) (tags_of_alarms after)
      (filter_map row_named (in_order name_cmp (tags_of_alarms h))) (alarms_told h) (alarms_told after)
      (λ a. by_alarm a (latching h a) ∙ ap (λ o. or_else o (alarm_row h a)) (sym (said-rows row_named (tags_of_alarms h) named_told a)))

  pub import_turns : Turns h p t (Import u (Ok rows))
  import_turns =
      let first : UnitRows = put (UnitPut (unit_row after)) (rows_of h) in
      let touched : List AlarmRow = filter (is_touched (events h) rows) (alarm_rows h) in
      let twice : with_events (events h) (new_events (events h) rows) ≡ events_with_file (events h) rows =
      put_twice (events h) new (IsInOrder-rows (event_numbered h) (numbers_of_events h) (events_told h)) in
      put_alarms row_now touched (PutEvents (new_events (events h) rows) ∷ []) first
      ∙ (λ i. record (rows_of after) { events = (twice ∙ events_put) i; alarms = alarm_rows_put i })
