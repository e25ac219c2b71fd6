use Rattle.std.proofs.Common.{List, Some, ap, refl, slice_get, sym, ◌∙◌, ◌≡◌}
use Rattle.plant_model.specs.declared.rows.AlarmRow.{AlarmRow}
use Rattle.plant_types.proofs.public.{KeyedRowLaws.{tied}, Orders.{same_names}, SortedLaws.{get_none, get_some}}
use Rattle.plant_unit.proofs.AlarmLists.{added_none, added_own, named_own}
use Rattle.plant_unit.specs.declared.alarms.Brought.{Brought}
use Rattle.plant_unit.proofs.alarms.add_event.Goals as goal

pub returns-in-Some-get-clause-value : goal.returns-in-Some-get-clause-value
returns-in-Some-get-clause-value c es fresh before =
    let p = c.in-Some.place in
    let r = c.in-Some-get.alarm.now in
    let e = c.args.event.now in
    let found = c.in-Some.ensures in
    let there : slice_get c.args.alarms.now p ≡ Some r =
    ap (λ (l : List AlarmRow). slice_get l p) (sym c.as_slice.ensures.value)
    ∙ sym (get_some c.as_slice.result.now p r c.in-Some-get.ensures.lookup.0 c.in-Some-get.ensures.lookup.1) in
    let same : r ≡ found.0 = cc in
    let tag : r.tag ≡ e.tag = ap (λ (y : AlarmRow). y.tag) same ∙ same_names found.0.tag e.tag (tied _ _ found.2 refl) in
    let summaries_so = added_own c.args.alarms.now e es fresh p r c.args.all.now.summaries c.add_at.new.summaries c.as_slice.ensures.order there tag
    (ap (λ (b : Brought). b.summaries) before) c.add_at.ensures.value in
    let named_so = named_own c.args.alarms.now e es fresh p r c.args.all.now.named c.replace_at.new.self c.as_slice.ensures.order there tag
    (ap (λ (b : Brought). b.named) before) c.replace_at.ensures in
    λ i. record { summaries = summaries_so i; named = named_so i }

pub returns-in_default-get-clause-value : goal.returns-in_default-get-clause-value
returns-in_default-get-clause-value c es fresh before =
    let found = c.in-Some.ensures in
    let none = get_none c.as_slice.result.now c.in-Some.place c.in_default-get.ensures.lookup.0
    ∙ ap (λ (l : List AlarmRow). slice_get l c.in-Some.place) c.as_slice.ensures.value in
    cc

pub returns-in_default-clause-value : goal.returns-in_default-clause-value
returns-in_default-clause-value c es fresh before = before ∙ added_none c.args.alarms.now c.args.event.now es fresh c.in_default.ensures
