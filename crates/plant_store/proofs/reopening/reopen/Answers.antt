use Rattle.std.proofs.Common.{sym}
use Rattle.plant_store.proofs.reopening.reopen.Goals as goal

pub returns-clause-kept : goal.returns-clause-kept
returns-clause-kept g c m admin keeps own =
    let closed = rw (sym c.close.ensures.same) at keeps in
    c.open_again.ensures.kept m (c.in_ok-conn.ensures.kept m closed) own
