use Rattle.std.proofs.Common.{◌∷◌, [], arith, rules}
use Rattle.sqlite.specs.{Held.{state}, State.{HasCleanDisk}}
use Rattle.plant_model.specs.declared.rows.RowEdit.TheVariants.{Put}
use Rattle.plant_store_statements.proofs.{public.Writes.{applies_then, on_ok}, WritesOver.{none_put}}
use Rattle.plant_store_statements.proofs.write.put.Goals as goal

pub returns-clause-made : goal.returns-clause-made
returns-clause-made g c clean inside books =
    let u = c.args.unit.now in
    let change = Put (g.T.Stored.as_row c.args.row.now) in
    let old = state g.S.Store c.args.tx.now.conn.now in
    let between = state g.S.Store c.put_over.new.tx.conn.now in
    let new = state g.S.Store c.insert.new.tx.conn.now in
    let before : HasCleanDisk between = omega (arith, c.insert.ensures.stays.survives.clean) in
    let first = none_put u change old.now between.now c.in_ok-written.written (search rules) (c.in_ok-written.ensures.made before inside books) in
    let within = c.in_ok-written.ensures.stays.inside before inside in
    on_ok c.insert.result (applies_then u [] (change ∷ []) old.now between.now new.now first) (c.insert.ensures.made clean within first.books)
