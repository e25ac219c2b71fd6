use Rattle.std.proofs.Common.{arith}
use Rattle.sqlite.specs.{Held.{state}, State.{HasCleanDisk}}
use Rattle.plant_store_statements.proofs.PutAgain.{grant_again}
use Rattle.plant_store_statements.proofs.stored.GrantRowStored.update.Goals as goal

pub returns-clause-made : goal.returns-clause-made
returns-clause-made g c clean inside books =
    let old = state g.S.Store c.args.tx.now.conn.now in
    let between = state g.S.Store c.remove_grant.new.tx.conn.now in
    let new = state g.S.Store c.insert.new.tx.conn.now in
    let before : HasCleanDisk between = omega (arith, c.insert.ensures.stays.survives.clean) in
    let first = c.in_ok-remove_grant.ensures.made before inside books in
    let within = c.in_ok-remove_grant.ensures.stays.inside before inside in
    grant_again c.args.unit.now c.args.self.now old.now between.now new.now books first (c.in_ok-insert.ensures.made clean within first.books)
