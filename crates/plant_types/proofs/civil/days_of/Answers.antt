use Rattle.std.proofs.{Common.{refl, ◌≡◌, ◌<◌, ◌-◌, arith, pos, to_z, of_z, w32, FitsSigned, ◌∙◌}, lemmas.Int.{ints, to_z-of_z}}
use Rattle.jiff_core.specs.Calendar.{IsCivilDate, day_count}
use Rattle.plant_types.proofs.public.Days.{the_days, civil_at, is_date_true}
use Rattle.plant_types.proofs.civil.days_of.Goals as goal

is_year : (c : goal.After-until) → c.in-Ok.date.year ≡ pos c.args.year
is_year c = omega (arith, ints, c.in-Ok.ensures.value.0)

is_month : (c : goal.After-until) → c.in-Ok.date.month ≡ c.args.month
is_month c = omega (arith, ints, c.in-Ok.ensures.value.1)

is_day : (c : goal.After-until) → c.in-Ok.date.day ≡ c.args.day
is_day c = omega (arith, ints, c.in-Ok.ensures.value.2)

is_civil : (c : goal.After-until) → IsCivilDate (pos c.args.year) c.args.month c.args.day
is_civil c =
    civil_at c.args.year c.args.month c.args.day _ _ _ (is_year c) (is_month c) (is_day c)
    (c.in-Ok.date.year_in, c.in-Ok.date.month_in, c.in-Ok.date.day_in)

days : (c : goal.After-until)
    → (c.until.result ≡ pos (day_count (pos c.args.year) c.args.month c.args.day - day_count (pos 2000) 1 1))
    × (day_count (pos c.args.year) c.args.month c.args.day - day_count (pos 2000) 1 1 < 36525)
days c =
    the_days c.args.year c.args.month c.args.day _ _ _ _ _ _ c.until.result
    (rw c.to_plain.ensures (is_year c)) (rw c.to_plain.ensures (is_month c)) (rw c.to_plain.ensures (is_day c))
    (rw c.to_plain-first.ensures c.date.ensures.0) (rw c.to_plain-first.ensures (omega (arith, ints, c.date.ensures.1)))
    (rw c.to_plain-first.ensures (omega (arith, ints, c.date.ensures.2)))
    (omega arith) (omega arith) (is_civil c) c.until.ensures.value

fits : (c : goal.After-until) → FitsSigned w32 c.until.result
fits c = omega (arith, ints, c.until.ensures.bound)

same : (c : goal.After-until)
    → to_z w32 (of_z w32 c.until.result) ≡ pos (day_count (pos c.args.year) c.args.month c.args.day - day_count (pos 2000) 1 1)
same c = to_z-of_z w32 c.until.result (fits c) ∙ (days c).0

pub overflow_cast-result : goal.overflow_cast-result
overflow_cast-result c = rw (same c) (tt, omega (arith, (days c).1))

pub returns-clause-value : goal.returns-clause-value
returns-clause-value c = rw (same c, is_date_true c.args.year c.args.month c.args.day (omega arith) (omega arith) (is_civil c)) refl

pub returns-clause-bound : goal.returns-clause-bound
returns-clause-bound c = rw (same c) ((days c).1)
