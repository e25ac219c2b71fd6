use Rattle.sqlite.specs.Held.{state}
use Rattle.plant_store_statements.proofs.public.{Queries.{if_ok}, ReadsOnly.{reads_plain}}
use Rattle.plant_store.proofs.{JoinMeanings.{unit_lines}, JoinedLines.{units_read}}
use Rattle.plant_store.proofs.mine.unit_lines.Goals as goal

pub returns-clause-found : goal.returns-clause-found
returns-clause-found g c honest m k =
    if_ok c.read_rows.result
    (λ read it. units_read (state g.S.Store c.args.conn.now) m k c.args.person.now (state g.S.Store c.read_rows.new.conn) it.0
    (rw c.single.ensures at it.1.0) read it.1.1) (c.read_rows.ensures.rows honest.0)

pub returns-clause-reads : goal.returns-clause-reads
returns-clause-reads g c = reads_plain _ unit_lines.plain c.read_rows.ensures.same c.read_rows.ensures.honest _ c.read_rows.ensures.shows
