use Rattle.std.proofs.Common.{◌≡◌, ◌++◌, Some, drop, filter_map}
use Rattle.plant_books.specs.Contents.{mine_unit}
use Rattle.plant_books.proofs.opened.units_held.Given as goal

abbrev pub invariant-loop-opened : goal.invariant-loop-opened
invariant-loop-opened l =
    l.mine ++ filter_map (λ o. mine_unit l.fn.now l.fn.person o.unit (Some o.rows)) (drop l.opened-index l.opened-items)
    ≡ filter_map (λ o. mine_unit l.fn.now l.fn.person o.unit (Some o.rows)) l.opened-items
