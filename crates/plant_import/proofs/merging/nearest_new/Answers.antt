use Rattle.plant_import.proofs.BelowAll.{nearest_below}
use Rattle.plant_import.proofs.merging.nearest_new.Goals as goal

pub returns-in-None-clause-below : goal.returns-in-None-clause-below
returns-in-None-clause-below c none all = nearest_below c.args.seq c.args.fresh.now c.last.result all c.last.ensures.value
