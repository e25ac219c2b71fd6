use Rattle.sqlite.specs.Held.{state}
use Rattle.plant_store_statements.proofs.public.Writes.{on_ok, remove_grant_applies}
use Rattle.plant_store_statements.proofs.write.remove_grant.Goals as goal

pub returns-clause-made : goal.returns-clause-made
returns-clause-made g c clean inside books =
    let old = state g.S.Store c.args.tx.now.conn.now in
    let new = state g.S.Store c.run.new.tx.conn.now in
    on_ok c.run.result (λ it. remove_grant_applies c.args.unit.now c.args.person.now c.args.role old new books it.0 it.1)
    (rw c.grant_key.ensures at (c.run.ensures.made clean inside))
