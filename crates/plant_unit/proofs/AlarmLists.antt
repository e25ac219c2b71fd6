-- The summaries of alarms in the order of their tags, with one more event.
use Rattle.std.{specs.{Cmp.{eq_by_cmp_equiv, tied_itself}, Ordering.{eq_by_cmp}}, proofs.Math.Bool.{or-false, or-true}}
use Rattle.std.proofs.Common.{ap, arith, cond, get_or, map, refl, set, subst, sym, ◌∙◌, is_eq, Bool, List, None, Option, Some, [], false, length, option_map, slice_get, suc, true, zero, ℕ, ◌++◌, ◌<◌, ◌∷◌, ◌≡◌, ◌||◌, Less, append-nil}
use Rattle.std.proofs.lemmas.{List.{Elements.{filter-append}, get_or-map}, Option.{get_or_from_slice_get, slice_get-map, slice_get_within}}
use Rattle.plant_alarm.specs.{States.{summary}, declared.{event.Event.{Event}, summary.Summary.{Summary}}}
use Rattle.plant_floods.specs.Activations.{of_alarm}
use Rattle.plant_model.specs.declared.rows.AlarmRow.{AlarmRow}
use Rattle.plant_model.specs.steps.{RowChanges.{with_state}, RowFacts.{alarm_tag}}
use Rattle.plant_types.{specs.{KeyedRows.{IsInOrder, row_at}, Names.{Name, name_cmp, same_name}}}
use Rattle.plant_types.proofs.public.{Orders.{name_total}, SortedLaws.{After as TagsAfter, Ordered as TagsOrdered, after_at, ordered, turned}}
use Rattle.plant_unit.specs.{Alarms.{brought}, Summaries.{has_event_of, summaries, summary_of, with_summary}}

abbrev After : Name → List AlarmRow → Type 0
After = TagsAfter name_cmp alarm_tag

abbrev Ordered : List AlarmRow → Type 0
Ordered = TagsOrdered name_cmp alarm_tag

itself : {a b : Name} → a ≡ b → same_name a b ≡ true
itself {a} {b} e = ap (same_name a) (sym e) ∙ ap is_eq (tied_itself name_total a)

-- the events of an alarm, with one more
own : (es : List Event) (e : Event) (r : AlarmRow) → same_name r.tag e.tag ≡ true
    → summary_of (es ++ e ∷ []) r ≡ summary r.latching (of_alarm r.tag es ++ e ∷ [])
own es e r t = ap (summary r.latching) (filter-append (λ x. same_name r.tag x.tag) es (e ∷ []) ∙ ap (λ b. of_alarm r.tag es ++ cond b (e ∷ []) []) t)

-- what one more event leaves as it is of the alarms that it does not name
abbrev Leaves : {X : Type 0} → (List Event → AlarmRow → X) → Type 0
Leaves f = (es : List Event) (e : Event) (r : AlarmRow) → same_name r.tag e.tag ≡ false → f (es ++ e ∷ []) r ≡ f es r

other_summary : Leaves summary_of
other_summary es e r f =
    ap (summary r.latching)
    (filter-append (λ x. same_name r.tag x.tag) es (e ∷ []) ∙ ap (λ b. of_alarm r.tag es ++ cond b (e ∷ []) []) f ∙ append-nil _)

more_named : (es : List Event) (e : Event) (r : AlarmRow) → has_event_of (es ++ e ∷ []) r ≡ (has_event_of es r || same_name r.tag e.tag)
more_named [] e r = or-false (same_name r.tag e.tag)
more_named (x ∷ es) e r = ap (λ b. same_name r.tag x.tag || b) (more_named es e r) ∙ grind arith

other_named : Leaves has_event_of
other_named es e r f = more_named es e r ∙ ap (λ b. has_event_of es r || b) f ∙ or-false (has_event_of es r)

no_row : (b : Bool) (x : AlarmRow) (o : Option AlarmRow) → cond b (Some x) o ≡ None → (b ≡ false) × (o ≡ None)
no_row false x o h = (refl, h)
no_row true x o h = cc

module _ {X : Type 0} (f : List Event → AlarmRow → X) (others : Leaves f) (es : List Event) (e : Event) where
  -- alarms after its tag stay
  all_after : (rows : List AlarmRow) → After e.tag rows → map (f es) rows ≡ map (f (es ++ e ∷ [])) rows
  all_after [] h = refl
  all_after (r ∷ rows) h =
      let here = sym (others es e r (ap is_eq (turned name_total e.tag r.tag h.0))) in
      λ i. here i ∷ all_after rows h.1 i

  -- the alarm of its tag stands at the place
  set_own : (rows : List AlarmRow) (p : ℕ) (r : AlarmRow) → Ordered rows → slice_get rows p ≡ Some r → r.tag ≡ e.tag
      → set (map (f es) rows) p (f (es ++ e ∷ []) r) ≡ map (f (es ++ e ∷ [])) rows
  set_own [] p r order is tag = cc
  set_own (x ∷ rows) zero r order is tag =
      let same : r ≡ x = cc in
      let rest = all_after rows (subst (λ (a : Name). After a rows) (ap alarm_tag (sym same) ∙ tag) order.0) in
      λ i. f (es ++ e ∷ []) (same i) ∷ rest i
  set_own (x ∷ rows) (suc p) r order is tag =
      let less : name_cmp x.tag e.tag ≡ Less =
      ap (name_cmp x.tag) (sym tag) ∙ ap (λ (y : AlarmRow). name_cmp x.tag y.tag) (sym (get_or_from_slice_get rows p r r is))
      ∙ after_at name_cmp alarm_tag x.tag rows order.0 p r (slice_get_within rows p r is) in
      let here = sym (others es e x (ap is_eq less)) in
      let rest = set_own rows p r order.1 is tag in
      λ i. here i ∷ rest i

  -- no alarm has its tag
  none_own : (rows : List AlarmRow) → row_at name_cmp alarm_tag e.tag rows ≡ None → map (f es) rows ≡ map (f (es ++ e ∷ [])) rows
  none_own [] none = refl
  none_own (x ∷ rows) none =
      let parts = no_row (eq_by_cmp name_cmp e.tag x.tag) x (row_at name_cmp alarm_tag e.tag rows) none in
      let here = sym (others es e x ((eq_by_cmp_equiv name_total).symm x.tag e.tag ∙ parts.0)) in
      let rest = none_own rows parts.1 in
      λ i. here i ∷ rest i

-- the row with the summary of its events
pub summary_state : (es : List Event) (r : AlarmRow) → with_summary r (summary_of es r) ≡ with_state (of_alarm r.tag es) r
unfolding summary
summary_state es r = refl

-- the loops over alarms
pub summarized : (es : List Event) (alarms : List AlarmRow) (told_so : List Summary) (i : ℕ) (r d : AlarmRow) (s e : Summary)
    → told_so ≡ summaries alarms es → i < length alarms → r ≡ get_or alarms i d → s ≡ get_or told_so i e → s ≡ summary_of es r
summarized es alarms told_so i r d s e is lt er es' = es' ∙ ap (λ l. get_or l i e) is ∙ get_or-map (summary_of es) alarms i d e lt
    ∙ ap (summary_of es) (sym er)

pub marked : (fresh : List Event) (alarms : List AlarmRow) (told_so : List Bool) (i : ℕ) (r d : AlarmRow) (b e : Bool)
    → told_so ≡ map (has_event_of fresh) alarms → i < length alarms → r ≡ get_or alarms i d → b ≡ get_or told_so i e → b ≡ has_event_of fresh r
marked fresh alarms told_so i r d b e is lt er eb =
    eb ∙ ap (λ l. get_or l i e) is ∙ get_or-map (has_event_of fresh) alarms i d e lt ∙ ap (has_event_of fresh) (sym er)

-- what one more event does to the summaries, and to the marks of the alarms that events name
module _ (alarms : List AlarmRow) (e : Event) (es fresh : List Event) where
  pub added_own : (p : ℕ) (r : AlarmRow) (old new : List Summary) → IsInOrder name_cmp alarm_tag alarms → slice_get alarms p ≡ Some r
      → r.tag ≡ e.tag → old ≡ summaries alarms es
      → ((fs : List Event) → slice_get old p ≡ Some (summary r.latching fs) → new ≡ set old p (summary r.latching (fs ++ e ∷ [])))
      → new ≡ summaries alarms (es ++ e ∷ [])
  added_own p r old new order is tag so adds =
      adds (of_alarm r.tag es) (ap (λ l. slice_get l p) so ∙ slice_get-map (summary_of es) alarms p ∙ ap (option_map (summary_of es)) is)
      ∙ ap (λ l. set l p (summary r.latching (of_alarm r.tag es ++ e ∷ []))) so
      ∙ ap (set (summaries alarms es) p) (sym (own es e r (itself tag)))
      ∙ set_own summary_of other_summary es e alarms p r (ordered name_cmp alarm_tag alarms order) is tag

  pub named_own : (p : ℕ) (r : AlarmRow) (old new : List Bool) → IsInOrder name_cmp alarm_tag alarms → slice_get alarms p ≡ Some r
      → r.tag ≡ e.tag → old ≡ map (has_event_of fresh) alarms → new ≡ set old p true → new ≡ map (has_event_of (fresh ++ e ∷ [])) alarms
  named_own p r old new order is tag so put =
      put ∙ ap (λ l. set l p true) so
      ∙ ap (set (map (has_event_of fresh) alarms) p)
      (sym (more_named fresh e r ∙ ap (λ b. has_event_of fresh r || b) (itself tag) ∙ or-true (has_event_of fresh r)))
      ∙ set_own has_event_of other_named fresh e alarms p r (ordered name_cmp alarm_tag alarms order) is tag

  pub added_none : row_at name_cmp alarm_tag e.tag alarms ≡ None → brought alarms es fresh ≡ brought alarms (es ++ e ∷ []) (fresh ++ e ∷ [])
  added_none none = λ i. record {
    summaries = none_own summary_of other_summary es e alarms none i;
    named = none_own has_event_of other_named fresh e alarms none i;
  }
