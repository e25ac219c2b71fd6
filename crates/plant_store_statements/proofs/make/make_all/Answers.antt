use Rattle.std.proofs.Common.{◌≡◌, IsTrue, refl, rules}
use Rattle.sqlite.specs.{Held.{state}}
use Rattle.plant_store_columns.specs.Tables.{no_schema}
use Rattle.plant_store_statements.{specs.Making.{AreNewTrees}, proofs.public.Crashes.{survives_whole}}
use Rattle.plant_store_statements.proofs.make.make_all.Goals as goal

pub returns-clause-survives : goal.returns-clause-survives
returns-clause-survives g c blank =
    let old = c.args.conn.now in
    let mid = c.make_tables.new.tx.conn.now in
    let started : IsTrue c.transaction-tx.result.conn.now.in_transaction = search rules in
    let empty : c.transaction-tx.result.conn.now.schema ≡ no_schema = search rules in
    let all =
    survives_whole g.S.Store old c.transaction-tx.result.conn.now mid c.commit.new.self.0 (AreNewTrees c.args.admin.now)
    c.transaction-tx.ensures.begun
    c.make_tables.ensures.stays.survives (λ clean. ((state g.S.Store mid).now, refl, c.in_ok-make_tables.ensures.made clean started empty))
    c.commit.ensures.survives in
    search (rules, all)
