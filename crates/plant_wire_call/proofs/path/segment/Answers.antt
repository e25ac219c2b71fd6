use Rattle.std.proofs.Common.{sym, ap, ◌∙◌}
use Rattle.plant_wire_call.{specs.Path.{after_slash}, proofs.Slashes.{after_slashes-more, after_slashes-none}}
use Rattle.plant_wire_call.proofs.path.segment.Goals as goal

pub loop-slash-init : goal.loop-slash-init
loop-slash-init c = sym (after_slashes-none c.args.path.now)

pub loop-slash-preserved : goal.loop-slash-preserved
loop-slash-preserved c = c.split_at_slash.ensures.after ∙ ap after_slash c.loop-slash.invariant
    ∙ sym (after_slashes-more c.loop-slash._slash c.args.path.now)
