use Rattle.std.{specs.FinMap.{get}, proofs.Common.{Some, ap, sym, ◌∙◌}}
use Rattle.plant_books_cache.proofs.CopyLaws.{all_but_history, found_there}
use Rattle.plant_books_cache.proofs.cached_books.CachedBooksBooks.rows_but_history.Goals as goal

pub returns-in_ok-rows_but_history-in-Some-clause-found : goal.returns-in_ok-rows_but_history-in-Some-clause-found
returns-in_ok-rows_but_history-in-Some-clause-found g c = λ m h honest.
    let copy = c.in-Some.copy.now in
    let u = c.args.unit.now in
    let it = found_there u (get m.units) c.args.self.now.copies.units.entries copy (h.copied honest) (sym c.in-Some.ensures) in
    ap (λ x. Some x) c.in_ok-rows_but_history-in-Some.ensures.value ∙ all_but_history copy.has_events (get m.units u) copy.rows it
