use Rattle.std.proofs.Common.{◌≡◌, ◌++◌, map, take}
use Rattle.plant_books.specs.Contents.{mine_row}
use Rattle.plant_books.proofs.opened.push_shelves.Given as goal

abbrev pub invariant-loop-shelf : goal.invariant-loop-shelf
invariant-loop-shelf l = l.mine ≡ l.initial.mine ++ map (mine_row l.unit l.rows) (take l.shelf-index l.shelf-items)
