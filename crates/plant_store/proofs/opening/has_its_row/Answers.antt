use Rattle.sqlite.specs.Held.{state}
use Rattle.plant_store.proofs.OfficeRow.{office_there, office_told}
use Rattle.plant_store_statements.proofs.public.ReadsOnly.{reads_plain}
use Rattle.plant_store_statements.proofs.public.Meanings.{office_row_plain}
use Rattle.plant_store.proofs.opening.has_its_row.Goals as goal

pub returns-clause-row : goal.returns-clause-row
returns-clause-row g c honest has =
    let found = office_there (state g.S.Store c.args.conn.now).now.schema has in
    let it = office_told c.args.schema c.args.admin.now (state g.S.Store c.args.conn.now)
    (state g.S.Store c.ask.new.conn) found.0 found.1 found.2 c.in_ok-rows.rows.items (c.in_ok-rows.ensures.rows honest.0) in
    let is = rw c.as_slice.ensures.value at c.is_office_row.ensures in
    (λ t. it.0 (is.0 t), λ h. is.1 (it.1 h))

pub returns-in_err-rows-clause-reads : goal.returns-in_err-rows-clause-reads
returns-in_err-rows-clause-reads g c = reads_plain _ office_row_plain c.ask.ensures.same c.ask.ensures.honest _ c.ask.ensures.shows

pub returns-clause-reads : goal.returns-clause-reads
returns-clause-reads g c = reads_plain _ office_row_plain c.ask.ensures.same c.ask.ensures.honest _ c.ask.ensures.shows
