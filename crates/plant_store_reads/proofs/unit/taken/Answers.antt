use Rattle.std.proofs.Common.{ap, sym, ◌∙◌}
use Rattle.sqlite.specs.Held.{state}
use Rattle.plant_store_statements.{specs.Keeping.{has_any}, proofs.public.Contents.{was_opened}}
use Rattle.plant_store_reads.proofs.unit.taken.Goals as goal

pub returns-clause-found : goal.returns-clause-found
returns-clause-found g c honest m k =
    c.has_row.ensures ∙ ap has_any (c.in_ok-units.ensures.rows honest.0 k.books)
    ∙ sym (was_opened (state g.S.Store c.args.conn.now) m c.args.unit.now k)
