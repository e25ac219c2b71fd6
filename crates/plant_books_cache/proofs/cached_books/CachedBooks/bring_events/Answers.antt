use Rattle.std.{specs.FinMap.{get}, proofs.Common.{Some, ap, refl, rules, sym, ◌∙◌}}
use Rattle.plant_books_cache.proofs.CopyLaws.{taken_there, seen_with_events}
use Rattle.plant_books_cache.proofs.cached_books.CachedBooks.bring_events.Goals as goal

pub returns-in-Some : goal.returns-in-Some
returns-in-Some g c = record {
  leaves = record {
    same = λ m h.
        let u = c.args.unit.now in
        let rows = c.in-Some.copy.rows in
        c.keep.ensures.kept m
        (record {
          held = c.events.ensures.unchanged.same m h.held;
          copied = λ honest. c.take.ensures.rest (get m.units) (get m.units) (λ _ _. refl) (h.copied (c.events.ensures.unchanged.honest honest));
        })
        (λ honest.
        let copy =
        taken_there u (get m.units) c.args.self.now.copies.units.entries (c.in-Some.field-0-0, c.in-Some.copy)
        (h.copied (c.events.ensures.unchanged.honest honest)) c.in-Some.ensures.taken in
        seen_with_events c.in-Some.copy.has_events (get m.units u) rows copy.1
        ∙ ap (λ es. Some (record rows { events = es })) (sym (c.in_ok-events.ensures.found m h.held honest)));
    honest = search rules;
    stays_open = search rules;
    count = search rules;
    crash = search rules;
  };
}

pub returns-in_default : goal.returns-in_default
returns-in_default g c = record {
  leaves = record {
    same = λ m h. record {
      held = c.events.ensures.unchanged.same m h.held;
      copied = λ honest. c.take.ensures.rest (get m.units) (get m.units) (λ _ _. refl) (h.copied (c.events.ensures.unchanged.honest honest));
    };
    honest = search rules;
    stays_open = search rules;
    count = search rules;
    crash = search rules;
  };
}
