use Rattle.std.proofs.Common.{refl}
use Rattle.plant_store.proofs.{SaidAgain.{again_ok}, Standings.{so_read}, public.Leaving.{leaves_unchanged}}
use Rattle.plant_store.proofs.tables.TablesBooks.rows.Goals as goal

pub returns-clause-found : goal.returns-clause-found
returns-clause-found g c = λ m. rw (← c.self.view_is) (λ h honest.
    let then = c.conclude.ensures.reads.honest honest in
    again_ok _ c.rows_of-outcome.result c.conclude.result c.conclude.ensures.outcome (c.rows_of-outcome.ensures.found then
    m (h.1 (c.rows_of-outcome.ensures.reads.honest then))))

pub returns-clause-unchanged : goal.returns-clause-unchanged
returns-clause-unchanged g c =
    let it = c.rows_of-outcome in
    let said = c.conclude.ensures in
    rw (← c.self.view_is) (leaves_unchanged g.S.Store _ _ it.new.conn it.result c.conclude.result refl it.ensures.reads said.reads it.ensures.open
    said.outcome said.same said.count)

pub conclude-requires-clause-so : goal.conclude-requires-clause-so
conclude-requires-clause-so g c =
    let it = c.rows_of-outcome in
    so_read g.S.Store c.self.inside.conn it.new.conn c.self.inside.standing it.result c.self.invariant.1 it.ensures.reads it.ensures.open
