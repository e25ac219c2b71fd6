use Rattle.std.proofs.Common.{ap, drop, flat_map, map, sym, ◌+◌, ◌++◌}
use Rattle.plant_books.{specs.Contents.{mine_row, shelves_there}, proofs.public.ShelfLists.{more_listed}}
use Rattle.plant_books_cache.proofs.CopyLaws.{found_there, shelves_seen}
use Rattle.plant_books_cache.proofs.cache.Cache.shelves_of.Goals as goal

pub loop-unit-preserved : goal.loop-unit-preserved
loop-unit-preserved g there copies =
    let u = g.unit-item.result in
    let us = g.args.units.now in
    let i = g.loop-unit.unit-index in
    let copy = g.in-Some.copy.now in
    let rows = copy.rows in
    let f = flat_map (λ u. shelves_there u (there u)) in
    let found = found_there u there g.args.self.now.units.entries copy copies (sym g.in-Some.ensures) in
    let pushed = g.in_ok-push_shelves.ensures.pushed in
    let seen = ap (λ xs. xs ++ f (drop (i + 1) us)) (shelves_seen u copy.has_events (there u) rows found) in
    more_listed f g.loop-unit.mine _ us i (map (mine_row u rows) rows.shelves) _ u g.loop-unit-test.true g.unit-item.is seen pushed
    (g.loop-unit.invariant there copies)
