use Rattle.std.proofs.Common.{refl}
use Rattle.plant_store.proofs.{SaidAgain.{again_made, both_ok}, public.Leaving.{leaves_unchanged}}
use Rattle.plant_store.proofs.tables.TablesBooks.ensure_open.Goals as goal

pub returns-clause-open : goal.returns-clause-open
returns-clause-open g c =
    let said = c.conclude.ensures in
    both_ok c.conclude.result
    (again_made c.look-outcome.result c.conclude.result said.outcome c.look-outcome.ensures.open (λ up clean. (clean, up clean)))
    said.same (λ kept same. rw same kept)

pub returns-clause-unchanged : goal.returns-clause-unchanged
returns-clause-unchanged g c =
    let it = c.look-outcome in
    let said = c.conclude.ensures in
    rw (← c.self.view_is) (leaves_unchanged g.S.Store _ _ it.new.conn it.result c.conclude.result refl it.ensures.reads said.reads
    (λ clean up. it.ensures.open clean) said.outcome said.same said.count)
