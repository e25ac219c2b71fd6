use Rattle.std.proofs.Common.{◌∙◌}
use Rattle.plant_floods.proofs.Passes.{passed_none, passed_next, passed_whole}
use Rattle.plant_floods.proofs.pass.floods.Goals as goal

pub loop-i-init : goal.loop-i-init
loop-i-init c = record { passed = rw c.new-runs.ensures.items passed_none; room = tt }

pub loop-i-preserved : goal.loop-i-preserved
loop-i-preserved c =
    record {
      passed = rw c.in_ok-close.ensures.value
          (rw c.grown-next.ensures.value
          (passed_next c.args.counts.now c.loop-i.i c.loop-i.runs.items c.loop-i.current c.loop-i-test.true c.loop-i.invariant.passed));
      room = c.grown-next.ensures.room;
    }

pub returns-clause-value : goal.returns-clause-value
returns-clause-value c = c.in_ok-push_some.ensures.value
    ∙ passed_whole c.args.counts.now c.loop-i.i c.loop-i.runs.items c.loop-i.current c.loop-i-test.false c.loop-i.invariant.passed
