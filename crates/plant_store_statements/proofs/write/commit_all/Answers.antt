use Rattle.std.proofs.Common.{rules}
use Rattle.plant_store_statements.proofs.public.Crashes.{survives_commit}
use Rattle.plant_store_statements.proofs.write.commit_all.Goals as goal

pub returns-clause-survives : goal.returns-clause-survives
returns-clause-survives g c =
    let old = c.args.conn.now in
    let all =
    survives_commit g.S.Store old c.transaction-tx.result.conn.now c.change_all.new.tx.conn.now c.commit.new.self.0 c.args.unit.now
    c.args.changes.now c.transaction-tx.ensures.begun
    c.change_all.ensures.survives c.in_ok-change_all.ensures.made c.commit.ensures.survives in
    search (rules, all)

pub returns-in_err-commit-clause-survives : goal.returns-in_err-commit-clause-survives
returns-in_err-commit-clause-survives g c =
    let old = c.args.conn.now in
    let all =
    survives_commit g.S.Store old c.transaction-tx.result.conn.now c.change_all.new.tx.conn.now c.commit.new.self.0 c.args.unit.now
    c.args.changes.now c.transaction-tx.ensures.begun
    c.change_all.ensures.survives c.in_ok-change_all.ensures.made c.commit.ensures.survives in
    search (rules, all)
