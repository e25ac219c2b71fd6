use Rattle.plant_store_statements.proofs.WritesOver.{alarm_over}
use Rattle.plant_store_statements.proofs.stored.AlarmRowStored.update.Goals as goal

pub returns-clause-made : goal.returns-clause-made
returns-clause-made g c clean inside books =
    alarm_over _ g.S.Store c.args.tx.now.conn.now c.run_counting.new.tx.conn.now c.args.unit.now c.args.self.now _ _ c.alarm_cells.ensures books
    (c.run_counting.ensures.made clean inside)
