use Rattle.std.proofs.Common.{◌≡◌, ℕ, ◌<◌, ◌≤◌, ◌∙◌, arith, pos, to_z, of_z, w16, w64, FitsSigned, ℤ, Fits, subst, sym, true, unsigned_abs}
use Rattle.std.proofs.lemmas.{Bool.{false≢true}, Int.{ints, to_z-of_z}}
use Rattle.plant_types.{specs.Moment.{is_date, days_since_2000}, proofs.public.Days.{IsDayAfter, day_after, day_is_there}}
use lib.Dec.{T}
use lib.Signed.{non_neg}
use Rattle.plant_types.proofs.civil.day_after.Goals as goal

as_signed : (n : ℕ) → n < 36525 → to_z w64 n ≡ pos n
as_signed n lt = omega (arith, ints)

pub unreachable-requires : goal.unreachable-requires
unreachable-requires c =
    false≢true (c.in_default.ensures.succeeds.1 (day_is_there c.args.days _ _ _ (to_z w64 c.args.days)
    (rw c.to_plain-first.ensures c.date.ensures.0) (rw c.to_plain-first.ensures (omega (arith, ints, c.date.ensures.1)))
    (rw c.to_plain-first.ensures (omega (arith, ints, c.date.ensures.2)))
    (as_signed c.args.days c.requires) c.requires))

the_day : (c : goal.After-from-2) → IsDayAfter c.args.days c.in-Ok.date.year c.in-Ok.date.month c.in-Ok.date.day
the_day c =
    day_after c.args.days c.in-Ok.date.year c.in-Ok.date.month c.in-Ok.date.day _ _ _ (to_z w64 c.args.days)
    (rw c.to_plain-first.ensures c.date.ensures.0) (rw c.to_plain-first.ensures (omega (arith, ints, c.date.ensures.1)))
    (rw c.to_plain-first.ensures (omega (arith, ints, c.date.ensures.2)))
    (as_signed c.args.days c.requires) c.requires (c.in-Ok.date.year_in, c.in-Ok.date.month_in, c.in-Ok.date.day_in) c.in-Ok.ensures.value

back : (y : ℤ) (n : ℕ) → y ≡ pos n → n ≤ 2099 → to_z w16 (of_z w16 y) ≡ pos n
back y n e h = let f : FitsSigned w16 y = omega (arith, ints, e) in to_z-of_z w16 y f ∙ e

year_is : (c : goal.After-from-2) → to_z w16 (of_z w16 c.in-Ok.date.year) ≡ pos ((the_day c).year)
year_is c = back _ _ ((the_day c).is) ((the_day c).high)

carry : (P : ℕ → ℕ → ℕ → Type 0) (z : ℤ) (y a m b d : ℕ) → z ≡ pos y → a ≡ m → b ≡ d → P y m d → P (unsigned_abs z) a b
carry P z y a m b d ez ea eb p =
    subst (λ (v : ℤ). P (unsigned_abs v) a b) (sym ez) (subst (λ (v : ℕ). P y v b) (sym ea) (subst (λ (v : ℕ). P y m v) (sym eb) p))

pub returns-clause-date : goal.returns-clause-date
returns-clause-date c = carry (λ y m d. is_date y m d ≡ true) _ _ _ _ _ _ (year_is c) c.from.ensures c.from-2.ensures ((the_day c).date)

pub returns-clause-days : goal.returns-clause-days
returns-clause-days c =
    carry (λ y m d. days_since_2000 y m d ≡ c.args.days) _ _ _ _ _ _ (year_is c) c.from.ensures c.from-2.ensures ((the_day c).days)

the_day_there : (c : goal.After-struct_told-1) → IsDayAfter c.args.days c.in-Ok.date.year c.in-Ok.date.month c.in-Ok.date.day
the_day_there c =
    day_after c.args.days c.in-Ok.date.year c.in-Ok.date.month c.in-Ok.date.day _ _ _ (to_z w64 c.args.days)
    (rw c.to_plain-first.ensures c.date.ensures.0) (rw c.to_plain-first.ensures (omega (arith, ints, c.date.ensures.1)))
    (rw c.to_plain-first.ensures (omega (arith, ints, c.date.ensures.2)))
    (as_signed c.args.days c.requires) c.requires (c.in-Ok.date.year_in, c.in-Ok.date.month_in, c.in-Ok.date.day_in) c.in-Ok.ensures.value

fits_there : (z : ℤ) (n : ℕ) → z ≡ pos n → n ≤ 2099 → T (non_neg z) × Fits w64 (unsigned_abs z)
fits_there z n e h = rw e (tt, omega arith)

pub overflow_cast-result : goal.overflow_cast-result
overflow_cast-result c = fits_there _ _ (back _ _ ((the_day_there c).is) ((the_day_there c).high)) ((the_day_there c).high)
