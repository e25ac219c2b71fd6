use Rattle.std.proofs.Common.{◌≡◌, ◌++◌, Some, drop, flat_map}
use Rattle.plant_books.specs.Contents.{shelves_mine}
use Rattle.plant_books.proofs.opened.shelves_held.Given as goal

abbrev pub invariant-loop-opened : goal.invariant-loop-opened
invariant-loop-opened l =
    l.mine ++ flat_map (λ o. shelves_mine l.fn.now l.fn.person o.unit (Some o.rows)) (drop l.opened-index l.opened-items)
    ≡ flat_map (λ o. shelves_mine l.fn.now l.fn.person o.unit (Some o.rows)) l.opened-items
