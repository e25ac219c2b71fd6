use Rattle.std.{specs.FinMap.{get, keys}, proofs.Common.{ap, subst, ◌∙◌, ◌≡◌, IfSome, flat_map}}
use Rattle.plant_books.{specs.Contents.{shelves_there}, proofs.public.ShelfLists.{held_shelves}}
use Rattle.plant_books_cache.proofs.cached_books.CachedBooksBooks.mine_shelves.Goals as goal

pub returns-in-Some-clause-found : goal.returns-in-Some-clause-found
returns-in-Some-clause-found g c = λ m h honest.
    let units = c.in_ok-units.ensures.found m h.held honest in
    let copies = h.copied (c.held.ensures.unchanged.honest honest) in
    let found = c.in_ok-shelves.ensures.found (get m.units) copies in
    let shelves = subst (λ o. IfSome o (λ mine. mine ≡ flat_map (λ u. shelves_there u (get m.units u)) c.as_slice.result.now)) c.in-Some.is found in
    shelves ∙ ap (flat_map (λ u. shelves_there u (get m.units u))) (c.as_slice.ensures ∙ units)
    ∙ held_shelves (get m.units) c.args.now c.args.person.now (keys m.units)
