use Rattle.std.proofs.Common.{map}
use Rattle.plant_wire_body.{specs.Lists.{row_from}, proofs.Items.{IsReadTo}}
use Rattle.plant_wire_body.proofs.lists.all_rows.Given as goal

abbrev pub invariant-loop-item : goal.invariant-loop-item
invariant-loop-item l = IsReadTo row_from l.items l.item-index (map (λ row. row.items) l.rows.items)
