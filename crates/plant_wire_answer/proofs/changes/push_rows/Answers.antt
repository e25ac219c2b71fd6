use Rattle.std.proofs.lemmas.Simd.{map-map}
use Rattle.plant_wire_answer.specs.Changes.{row_list}
use Rattle.plant_wire_answer.proofs.changes.push_rows.Goals as goal

pub returns-clause-value : goal.returns-clause-value
returns-clause-value c = rw (map-map row_list (λ row. row.items) c.args.rows.now) c.push_listed.ensures.value
