use Rattle.std.proofs.Common.{true, ◌∙◌}
use Rattle.plant_books.specs.Contents.{rows_in}
use Rattle.plant_model.specs.steps.Parts.{part_of_holder}
use Rattle.plant_store_reads.proofs.part.part_in_scope.Goals as goal

pub returns-clause-found : goal.returns-clause-found
returns-clause-found g c honest m k is units grants =
    let found = c.in_ok-count.ensures.found honest m k is units in
    let rows = found.1
    ∙ (λ i. record (part_of_holder c.args.call.now (rows_in m c.args.unit.now)).rows { units = units i; grants = grants i }) in
    λ i. record { rows = rows i; count = found.0 i; held = true }
