use Rattle.std.proofs.Common.{List, IfOk, ap, false, if◌then◌else◌, rules, subst, sym, true, ◌∙◌, ◌≡◌}
use Rattle.plant_alarm.specs.declared.event.Event.{Event}
use Rattle.plant_import.{specs.{Needed.{beside, from_last_before, has_late}, Numbers.{AreNumbered}}}
use Rattle.plant_import.proofs.needs.needed.Goals as goal

pub of-requires : goal.of-requires
of-requires c = subst (λ (l : List Event). AreNumbered l) (sym c.in_ok-copy_all.ensures.value) c.from_last_before.ensures.order
