use Rattle.std.proofs.Common.{ap, arith, subst, sym}
use Rattle.lru.specs.LruCache.{LruCache}
use Rattle.plant_books_cache.{specs.{Cache.{AreCopies, rows_of_all}, declared.cached_unit.CachedUnit.{CachedUnit}}, proofs.CopyLaws.{count_removed, true_without}}
use Rattle.plant_types.specs.Names.{Name}
use Rattle.plant_books_cache.proofs.cache.Cache.take.Goals as goal

pub returns-in_err-unit-clause-rest : goal.returns-in_err-unit-clause-rest
returns-in_err-unit-clause-rest c = λ there after same h.
    subst (λ (x : LruCache Name CachedUnit). AreCopies after x.entries) (sym c.pop_entry.ensures.entries)
    (true_without c.args.unit.now there after c.args.self.now.units.entries c.len-count.ensures.valid.0 same h)

pub overflow_sub-self : goal.overflow_sub-self
overflow_sub-self c =
    let less = count_removed c.args.unit.now c.args.self.now.units.entries (c.in_ok-unit.unit, c.in_ok-unit.copy) (sym c.in_ok-unit.ensures.value) in
    omega (arith, less, c.row_count.ensures, c.args.self.now.counted)

pub invariant_of-self-2 : goal.invariant_of-self-2
invariant_of-self-2 c =
    let less = count_removed c.args.unit.now c.args.self.now.units.entries (c.in_ok-unit.unit, c.in_ok-unit.copy) (sym c.in_ok-unit.ensures.value) in
    let same = ap (λ (x : LruCache Name CachedUnit). rows_of_all x.entries) c.pop_entry.ensures.entries in
    record {
      counted = omega (arith, less, same, c.row_count.ensures, c.args.self.now.counted);
      within = omega (arith, c.args.self.now.within);
      limited = c.args.self.now.limited;
    }

pub returns-clause-rest : goal.returns-clause-rest
returns-clause-rest c = λ there after same h.
    subst (λ (x : LruCache Name CachedUnit). AreCopies after x.entries) (sym c.pop_entry.ensures.entries)
    (true_without c.args.unit.now there after c.args.self.now.units.entries c.len-count.ensures.valid.0 same h)
