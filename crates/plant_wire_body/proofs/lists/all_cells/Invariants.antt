use Rattle.plant_wire_body.{specs.Lists.{cell_from}, proofs.Items.{IsReadTo}}
use Rattle.plant_wire_body.proofs.lists.all_cells.Given as goal

abbrev pub invariant-loop-item : goal.invariant-loop-item
invariant-loop-item l = IsReadTo cell_from l.items l.item-index l.cells.items
