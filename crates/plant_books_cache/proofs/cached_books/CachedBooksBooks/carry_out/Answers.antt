use Rattle.std.proofs.Common.{sym}
use Rattle.plant_books_cache.proofs.cached_books.CachedBooksBooks.carry_out.Goals as goal

pub returns-clause-made : goal.returns-clause-made
returns-clause-made g c = λ m h known. record {
  held = c.in_ok-change_below.ensures.made m h.held known;
  copied = λ honest. c.follow.ensures.copied m (rw (sym c.in_ok-change_below.ensures.kept) at (h.copied (c.in_ok-change_below.ensures.honest honest)));
}
