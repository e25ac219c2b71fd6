use Rattle.std.proofs.Common.{ap, false, refl, rules, sym, ◌∙◌, ◌≡◌}
use Rattle.plant_books.specs.Contents.{without_reviews}
use Rattle.plant_books_cache.proofs.CopyLaws.{changed_there}
use Rattle.plant_books_cache.proofs.cached_unit.CachedUnit.after.Goals as goal

pub returns-in-Ok : goal.returns-in-Ok
returns-in-Ok c = λ m u h.
    let none : c.misses.result ≡ false = search rules in
    changed_there m u c.args.changes c.args.self (record {
      rows = c.without_reviews.result;
      has_events = c.args.self.has_events;
    }) h refl (c.without_reviews.ensures ∙ ap without_reviews (c.in-Ok.ensures.value)) (sym c.misses.ensures ∙ none)
