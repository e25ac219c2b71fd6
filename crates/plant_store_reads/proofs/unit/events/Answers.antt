use Rattle.std.proofs.Common.{◌∙◌}
use Rattle.plant_store_columns.specs.declared.tables.TableKind.TheVariants.{Events}
use Rattle.plant_store_statements.proofs.public.Queries.{if_ok}
use Rattle.plant_store_reads.proofs.unit.events.Goals as goal

pub returns-clause-found : goal.returns-clause-found
returns-clause-found g c honest m k =
    if_ok c.sorted_rows.result (λ events h. h ∙ k.seen c.args.unit.now Events) (c.sorted_rows.ensures.rows honest.0 k.books)
