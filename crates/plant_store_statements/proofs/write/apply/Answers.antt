use Rattle.plant_store_statements.proofs.public.Crashes.{survives_open}
use Rattle.plant_store_statements.proofs.write.apply.Goals as goal

pub returns-clause-survives : goal.returns-clause-survives
returns-clause-survives g c =
    survives_open g.S.Store c.args.conn.now c.find_open.new.conn c.commit_all.new.conn c.args.unit.now c.args.changes.now
    c.find_open.ensures.reads.quiet c.find_open.ensures.reads.same c.in_ok-find_open.ensures.open c.commit_all.ensures.survives
