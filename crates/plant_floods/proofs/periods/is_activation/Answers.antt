use Rattle.std.proofs.Common.{refl, sym, ◌∙◌}
use Rattle.plant_floods.proofs.Active.{moved, still_active}
use Rattle.plant_floods.proofs.periods.is_activation.Goals as goal

pub returns-then-contains-clause-active : goal.returns-then-contains-clause-active
returns-then-contains-clause-active c =
    λ before are. still_active c.args.active.now before c.args.event.now (rw c.in-Act.is refl) (sym c.contains.ensures ∙ c.if-contains.true) are

pub returns-in_ok-insert-in-Act-clause-active : goal.returns-in_ok-insert-in-Act-clause-active
returns-in_ok-insert-in-Act-clause-active c =
    λ before are. moved c.args.active.now _ before c.args.event.now _ _ c.in_ok-tag-in-Act.ensures.value (c.in_ok-insert-in-Act.ensures.updates)
    (rw c.in-Act.is refl) (rw c.in-Act.is refl) are

pub returns-in-Rtn-clause-active : goal.returns-in-Rtn-clause-active
returns-in-Rtn-clause-active c =
    λ before are. moved c.args.active.now _ before c.args.event.now _ _ refl c.remove.ensures.updates (rw c.in-Rtn.is refl) (rw c.in-Rtn.is refl) are
