use Rattle.std.proofs.Common.{◌≡◌, ◌++◌, Some, drop, filter_map}
use Rattle.plant_books.specs.Contents.{is_held_in}
use Rattle.plant_types.specs.Options.{when}
use Rattle.plant_books.proofs.opened.codes_held.Given as goal

abbrev pub invariant-loop-opened : goal.invariant-loop-opened
invariant-loop-opened l =
    l.codes ++ filter_map (λ o. when (is_held_in l.fn.now l.fn.person (Some o.rows)) o.unit) (drop l.opened-index l.opened-items)
    ≡ filter_map (λ o. when (is_held_in l.fn.now l.fn.person (Some o.rows)) o.unit) l.opened-items
