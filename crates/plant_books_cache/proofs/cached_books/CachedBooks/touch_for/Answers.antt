use Rattle.std.specs.FinMap.{get}
use Rattle.plant_books_cache.proofs.cached_books.CachedBooks.touch_for.Goals as goal

pub returns-then-part-clause-kept : goal.returns-then-part-clause-kept
returns-then-part-clause-kept g c = λ m h. record { held = h.held; copied = λ honest. c.touch.ensures.kept (get m.units) (h.copied honest) }
