use Rattle.std.proofs.Common.{sym, ◌∙◌}
use Rattle.plant_store.proofs.reopening.open_again.Goals as goal

pub returns-in-Ok-clause-kept : goal.returns-in-Ok-clause-kept
returns-in-Ok-clause-kept g c m keeps own = (c.in-Ok.ensures.fresh.0 ∙ sym own, c.in-Ok.ensures.kept m keeps)
