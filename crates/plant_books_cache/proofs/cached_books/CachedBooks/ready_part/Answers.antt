use Rattle.std.{specs.FinMap.{get}, proofs.Common.{option_map, rules, sym, true, ◌≡◌}}
use Rattle.plant_model.specs.steps.Parts.{part_of}
use Rattle.plant_books_cache.proofs.CopyLaws.{found_there, made_there, part_there}
use Rattle.plant_books_cache.proofs.cached_books.CachedBooks.ready_part.Goals as goal

pub returns-in-Some-clause-found : goal.returns-in-Some-clause-found
returns-in-Some-clause-found g c = λ m h honest named.
    let u = c.args.unit.now in
    let copy = c.in-Some.copy.now in
    let serves : c.serves.result ≡ true = search rules in
    let it = found_there u (get m.units) c.args.self.now.copies.units.entries copy (h.copied honest) (sym c.in-Some.ensures) in
    made_there c.part_of.result c.part_if_countable.result (part_of c.args.call.now copy.rows) (option_map (part_of c.args.call.now) (get m.units u))
    c.part_if_countable.ensures.same c.part_of.ensures.value
    (part_there c.args.call.now copy.has_events (get m.units u) copy.rows it (c.serves.ensures serves))
