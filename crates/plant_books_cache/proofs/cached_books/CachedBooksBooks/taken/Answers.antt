use Rattle.std.{specs.FinMap.{get}, proofs.Common.{sym}}
use Rattle.plant_books_cache.proofs.CopyLaws.{found_there, is_there}
use Rattle.plant_books_cache.proofs.cached_books.CachedBooksBooks.taken.Goals as goal

pub returns-in-Some-clause-found : goal.returns-in-Some-clause-found
returns-in-Some-clause-found g c = λ m h honest.
    let copy = c.in-Some.field-0.now in
    is_there copy.has_events (get m.units c.args.unit.now) copy.rows
    (found_there c.args.unit.now (get m.units) c.args.self.now.copies.units.entries copy (h.copied honest) (sym c.in-Some.ensures))
