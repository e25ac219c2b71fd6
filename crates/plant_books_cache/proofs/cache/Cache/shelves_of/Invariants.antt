use Rattle.std.proofs.Common.{drop, ◌++◌, ◌≡◌, flat_map}
use Rattle.plant_books.specs.Contents.{shelves_there}
use Rattle.plant_books_cache.specs.Cache.{AreCopies, There}
use Rattle.plant_books_cache.proofs.cache.Cache.shelves_of.Given as goal

abbrev pub invariant-loop-unit : goal.invariant-loop-unit
invariant-loop-unit l =
    (there : There) → AreCopies there l.self.units.entries
    → l.mine ++ flat_map (λ u. shelves_there u (there u)) (drop l.unit-index l.units) ≡ flat_map (λ u. shelves_there u (there u)) l.units
