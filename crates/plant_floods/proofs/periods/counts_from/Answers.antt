use Rattle.plant_floods.proofs.Active.{counted_more, counted_none}
use Rattle.plant_floods.proofs.periods.counts_from.Goals as goal

pub loop-moment-init : goal.loop-moment-init
loop-moment-init c few =
    counted_none c.args.moments.now c.in_ok-counts.counts.items c.args.start c.args.periods
    (c.in_ok-counts.ensures.items_if_clones_equal (λ y same. same))

pub loop-moment-preserved : goal.loop-moment-preserved
loop-moment-preserved c few =
    counted_more c.args.moments.now c.loop-moment.counts.items c.count_in.new.counts.items c.args.start c.args.periods c.loop-moment.moment-index
    c.moment-item.result c.moment-item.result
    c.loop-moment-test.true c.moment-item.is few c.count_in.ensures.len c.count_in.ensures.counted (c.loop-moment.invariant few)
