use Rattle.std.proofs.Common.{◌≡◌}
use Rattle.plant_books_cache.specs.Cache.{AreCopies, There}
use Rattle.plant_books_cache.proofs.cache.Cache.make_room.Given as goal

abbrev pub invariant-loop : goal.invariant-loop
invariant-loop l =
    record {
      kept : (there : There) → AreCopies there l.fn.self.units.entries → AreCopies there l.self.units.entries;
      limit : l.self.limit ≡ l.fn.self.limit;
    }
