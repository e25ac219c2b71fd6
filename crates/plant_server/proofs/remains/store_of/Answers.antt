use Rattle.std.proofs.Common.{IsTrue, ap, not, ◌∙◌}
use Rattle.plant_server.proofs.remains.store_of.Goals as goal

pub returns-clause-undone : goal.returns-clause-undone
returns-clause-undone g c = rw (← c.close-conn.ensures.same) c.into_store.ensures.undone

pub returns-clause-quiet : goal.returns-clause-quiet
returns-clause-quiet g c = rw (← c.close-conn.ensures.same) c.into_store.ensures.quiet

pub returns-clause-live : goal.returns-clause-live
returns-clause-live g c = rw (← c.close-conn.ensures.same) c.schema-live.ensures.live

pub returns-clause-settled : goal.returns-clause-settled
returns-clause-settled g c =
    let quiet : IsTrue c.is_autocommit-settled.result = c.is_autocommit-settled.ensures.value ∙ ap not c.close-conn.ensures.mode in
    rw (← c.close-conn.ensures.same) (c.is_autocommit-settled.ensures.settled quiet)
