use Rattle.std.specs.FinMap.{get}
use Rattle.std.proofs.Common.{List, subst, sym}
use Rattle.plant_books.specs.Contents.{after_changes}
use Rattle.plant_books_cache.specs.Cache.{AreCopies}
use Rattle.plant_model.specs.declared.rows.RowEdit.{RowEdit}
use Rattle.plant_books_cache.proofs.cached_books.CachedBooksBooks.apply.Goals as goal

pub returns-in-Ok-clause-made : goal.returns-in-Ok-clause-made
returns-in-Ok-clause-made g c = λ m h known. record {
  held = c.in_ok-change_below.ensures.made m h.held known;
  copied = λ honest.
      subst (λ (cs : List RowEdit). AreCopies (get (after_changes m c.args.unit.now cs).units) c.follow.new.self.units.entries) c.in-Ok.ensures.value
      (c.follow.ensures.copied m (rw (sym c.in_ok-change_below.ensures.kept) at (h.copied (c.in_ok-change_below.ensures.honest honest))));
}

pub returns-in-Err-clause-made : goal.returns-in-Err-clause-made
returns-in-Err-clause-made g c = λ m h known. record {
  held = c.in_ok-change_below.ensures.made m h.held known;
  copied = λ honest. subst (AreCopies (get (after_changes m c.args.unit.now c.args.changes.now).units)) (sym c.clear.ensures.none) tt;
}
