use Rattle.std.proofs.Common.{◌∙◌, ap, append-nil, cond, sym, take, ◌++◌, ◌∷◌, []}
use Rattle.plant_floods.proofs.{Active.{active_more, moments_more}, periods.activations.Goals.{then-branch+in_ok-push, else-branch}}
use Rattle.plant_floods.proofs.periods.activations.Goals as goal

pub loop-event-preserved : goal.loop-event-preserved
loop-event-preserved c =
    let e = c.event-item.result in
    let i = c.loop-event.event-index in
    let so_far = take i c.args.events.now in
    let more =
    moments_more c.args.events.now i e c.in_ok-is_activation.field-0 c.loop-event.moments c.if-branch.moments c.loop-event-test.true
    c.event-item.is (c.in_ok-is_activation.ensures.value so_far c.loop-event.invariant.active) c.loop-event.invariant.moments in
    record {
      moments = more (elim c.if-branch.branch [
        | then-branch+in_ok-push w ↦ w.moments-is ∙ w.in_ok-push.ensures.ok
            ∙ ap (λ b. c.loop-event.moments ++ cond b (e.moment ∷ []) []) (sym w.if-branch.true)
        | else-branch w ↦ w.moments-is ∙ sym (append-nil c.loop-event.moments)
            ∙ ap (λ b. c.loop-event.moments ++ cond b (e.moment ∷ []) []) (sym w.if-branch.false)
      ]);
      active = active_more c.is_activation.new.active c.args.events.now i e c.loop-event-test.true c.event-item.is
          (c.in_ok-is_activation.ensures.active so_far c.loop-event.invariant.active);
    }
