use Rattle.std.proofs.Common.{◌≡◌, rules}
use Rattle.plant_store_columns.specs.Tables.{no_schema}
use Rattle.plant_store.proofs.migration.take_into_blank.Goals as goal

pub returns-in-Ok-clause-taken : goal.returns-in-Ok-clause-taken
returns-in-Ok-clause-taken g c honest m is had told_into =
    let blank : c.args.into.now.schema ≡ no_schema = search rules in
    c.in-Ok.ensures.taken honest told_into blank m is had
