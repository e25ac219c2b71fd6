use Rattle.std.proofs.Common.{List, nat_cmp, subst, sym}
use Rattle.plant_alarm.specs.declared.event.Event.{Event}
use Rattle.plant_import.specs.Numbers.{AreNumbered, event_number}
use Rattle.plant_types.proofs.public.SortedLaws.{in_order_drop}
use Rattle.plant_import.proofs.needs.from_last_before.Goals as goal

pub returns-clause-order : goal.returns-clause-order
returns-clause-order c =
    let kept : AreNumbered c.as_slice.result.now =
    subst (λ (l : List Event). AreNumbered l) (sym c.as_slice.ensures.value) c.as_slice.ensures.order in
    subst (λ (l : List Event). AreNumbered l) (sym c.split_at.ensures.back)
    (in_order_drop nat_cmp event_number c.saturating_sub-before.result c.as_slice.result.now kept)
