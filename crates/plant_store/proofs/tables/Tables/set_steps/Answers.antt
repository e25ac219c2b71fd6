use Rattle.plant_store.proofs.tables.Tables.set_steps.Goals as goal

pub returns-clause-kept : goal.returns-clause-kept
returns-clause-kept g c m = rw (c.set_step_limit.ensures, ← c.self.view_is) (λ h honest. h honest)
