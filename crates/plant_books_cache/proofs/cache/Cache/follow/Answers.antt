use Rattle.std.{specs.FinMap.{get}, proofs.Common.{subst}}
use Rattle.plant_books.specs.Contents.{after_changes}
use Rattle.plant_books_cache.{specs.Cache.{IsCopy}, proofs.CopyLaws.{others_stay, taken_there}}
use Rattle.plant_types.specs.Names.{Name}
use Rattle.plant_books_cache.proofs.cache.Cache.follow.Goals as goal

pub returns-in-Some-after-clause-copied : goal.returns-in-Some-after-clause-copied
returns-in-Some-after-clause-copied c = λ m old.
    let u = c.args.unit.now in
    let cs = c.args.changes in
    let after = after_changes m u cs in
    let it = taken_there u (get m.units) c.args.self.now.units.entries (c.in-Some.unit, c.in-Some.copy) old c.in-Some.ensures.taken in
    let rest = c.take.ensures.rest (get m.units) (get after.units) (others_stay m u cs) old in
    let copy = c.in-Some-after.ensures m u it.1 in
    c.keep.ensures.kept (get after.units) (subst (λ (v : Name). IsCopy (get after.units) (v, c.in-Some-after.copy)) it.0 copy) rest

pub returns-in_default-after-clause-copied : goal.returns-in_default-after-clause-copied
returns-in_default-after-clause-copied c = λ m old.
    let u = c.args.unit.now in
    let cs = c.args.changes in
    c.take.ensures.rest (get m.units) (get (after_changes m u cs).units) (others_stay m u cs) old

pub returns-in_default-clause-copied : goal.returns-in_default-clause-copied
returns-in_default-clause-copied c = λ m old.
    let u = c.args.unit.now in
    let cs = c.args.changes in
    c.take.ensures.rest (get m.units) (get (after_changes m u cs).units) (others_stay m u cs) old
