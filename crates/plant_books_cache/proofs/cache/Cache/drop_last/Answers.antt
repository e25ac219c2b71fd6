use Rattle.std.proofs.Common.{ap, arith}
use Rattle.lru.specs.LruCache.{LruCache}
use Rattle.plant_books_cache.{specs.{Cache.{rows_of_all}, declared.cached_unit.CachedUnit.{CachedUnit}}, proofs.CopyLaws.{count_last}}
use Rattle.plant_types.specs.Names.{Name}
use Rattle.plant_books_cache.proofs.cache.Cache.drop_last.Goals as goal

pub overflow_sub-self : goal.overflow_sub-self
overflow_sub-self c =
    let last = count_last c.args.self.now.units.entries (c.in-Some.field-0-0, c.in-Some.copy) c.in-Some.ensures.value in
    omega (arith, last, c.row_count.ensures, c.args.self.now.counted)

pub invariant_of-self : goal.invariant_of-self
invariant_of-self c =
    let last = count_last c.args.self.now.units.entries (c.in-Some.field-0-0, c.in-Some.copy) c.in-Some.ensures.value in
    let same = ap (λ (x : LruCache Name CachedUnit). rows_of_all x.entries) c.in-Some.ensures.entries in
    record {
      counted = omega (arith, last, same, c.row_count.ensures, c.args.self.now.counted);
      within = omega (arith, c.args.self.now.within);
      limited = c.args.self.now.limited;
    }
