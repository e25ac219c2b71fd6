use Rattle.std.{specs.FinMap.{get}, proofs.Common.{subst, ◌≡◌, IfOk}}
use Rattle.plant_books_cache.proofs.cached_books.CachedBooksBooks.events.Goals as goal

pub returns-in-Some-clause-found : goal.returns-in-Some-clause-found
returns-in-Some-clause-found g c = λ m h honest.
    subst (λ es. IfOk c.copy.result (λ events. events ≡ es)) (c.in-Some.ensures (get m.units) (h.copied honest)) c.copy.ensures.value
