use Rattle.std.proofs.Common.{rules, sym, true, ◌≡◌}
use Rattle.plant_books_cache.proofs.CopyLaws.{events_there, found_there}
use Rattle.plant_books_cache.proofs.cache.Cache.events_of.Goals as goal

pub returns-in-Some : goal.returns-in-Some
returns-in-Some c = λ there h.
    let copy = c.in-Some.copy.now in
    let whole : copy.has_events ≡ true = search rules in
    let found = found_there c.args.unit.now there c.args.self.now.units.entries copy h (sym c.in-Some.ensures) in
    events_there copy.has_events (there c.args.unit.now) copy.rows whole found
