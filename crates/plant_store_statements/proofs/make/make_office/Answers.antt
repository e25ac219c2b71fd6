use Rattle.sqlite.specs.Held.{state}
use Rattle.plant_store_statements.proofs.{Makings.{makes_office}, public.Writes.{on_ok}}
use Rattle.plant_store_statements.proofs.make.make_office.Goals as goal

pub returns-clause-made : goal.returns-clause-made
returns-clause-made g c clean inside has =
    let old = state g.S.Store c.args.tx.now.conn.now in
    let new = state g.S.Store c.run.new.tx.conn.now in
    on_ok c.run.result (λ it. makes_office old new has it.0 it.1) (c.run.ensures.made clean inside)
