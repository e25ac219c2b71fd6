use Rattle.std.proofs.Common.{arith, false, rules, sym, true, ap, ◌≡◌, ◌∙◌, ◌==◌, ◌||◌, option_copied, option_map, unwrap_or}
use Rattle.plant_alarm.specs.declared.event.Event.{Event}
use Rattle.plant_import.{specs.Relation.{below, from}, proofs.ByNumber.{halves}}
use Rattle.plant_import.proofs.public.Nearest.{above_rising, below_rising, related_known, stands_apart, stands_clash}
use Rattle.plant_import.proofs.relation.relation_of.Goals as goal

pub returns-then-is_same : goal.returns-then-is_same
returns-then-is_same c es rising near =
    let e = c.args.event.now in
    related_known es (below e.seq es) (from e.seq es) e c.in-Some.other.now (halves e.seq es rising) (sym (ap option_copied c.in-Some.is) ∙ near.1)
    (search rules)

pub returns-else-is_same : goal.returns-else-is_same
returns-else-is_same c es rising near =
    let e = c.args.event.now in
    stands_clash es (below e.seq es) (from e.seq es) e c.in-Some.other.now (halves e.seq es rising) (sym (ap option_copied c.in-Some.is) ∙ near.1)
    (search rules) (search rules)

pub returns-then-is_late : goal.returns-then-is_late
returns-then-is_late c es rising near =
    let e = c.args.event.now in
    let p = halves e.seq es rising in
    let other : unwrap_or (option_map (λ (x : Event). x.seq == e.seq) (option_copied c.args.nearest.from)) false ≡ false = grind arith in
    let told : (c.is_before_last-is_early.result || c.is_after_first-is_late.result) ≡ true = grind arith in
    stands_apart es (below e.seq es) (from e.seq es) e (option_copied c.args.nearest.from) _ _ true p near.1 other
    (c.is_before_last-is_early.ensures (below e.seq es) (below_rising es (below e.seq es) (from e.seq es) e.seq p) near.0)
    (c.is_after_first-is_late.ensures (from e.seq es) (above_rising es (below e.seq es) (from e.seq es) e.seq p) near.1) told

pub returns-else-is_late : goal.returns-else-is_late
returns-else-is_late c es rising near =
    let e = c.args.event.now in
    let p = halves e.seq es rising in
    let other : unwrap_or (option_map (λ (x : Event). x.seq == e.seq) (option_copied c.args.nearest.from)) false ≡ false = grind arith in
    let told : (c.is_before_last-is_early.result || c.is_after_first-is_late.result) ≡ false = grind arith in
    stands_apart es (below e.seq es) (from e.seq es) e (option_copied c.args.nearest.from) _ _ false p near.1 other
    (c.is_before_last-is_early.ensures (below e.seq es) (below_rising es (below e.seq es) (from e.seq es) e.seq p) near.0)
    (c.is_after_first-is_late.ensures (from e.seq es) (above_rising es (below e.seq es) (from e.seq es) e.seq p) near.1) told
