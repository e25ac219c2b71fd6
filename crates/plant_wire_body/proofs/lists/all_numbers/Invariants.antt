use Rattle.plant_wire_body.{specs.Members.{whole_number}, proofs.Items.{IsReadTo}}
use Rattle.plant_wire_body.proofs.lists.all_numbers.Given as goal

abbrev pub invariant-loop-item : goal.invariant-loop-item
invariant-loop-item l = IsReadTo whole_number l.items l.item-index l.numbers.items
