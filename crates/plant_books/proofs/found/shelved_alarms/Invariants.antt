use Rattle.std.proofs.Common.{drop, ◌++◌, ◌≡◌}
use Rattle.plant_books.specs.Found.{shelved}
use Rattle.plant_books.proofs.found.shelved_alarms.Given as goal

abbrev pub invariant-loop-shelf : goal.invariant-loop-shelf
invariant-loop-shelf l = l.found ++ shelved (drop l.shelf-index l.shelf-items) l.fn.alarms ≡ shelved l.shelf-items l.fn.alarms
