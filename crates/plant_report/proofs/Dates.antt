-- The dates one after another are those of the calendar.
use Rattle.std.proofs.Common.{◌≡◌, ℕ, zero, suc, ◌+◌, ◌≤◌, ◌<◌, refl, ap, arith, pos, cond, Bool, true, false, nat_lt}
use Rattle.std.proofs.lemmas.{Bool.{ltb-true, ltb-false}, Int.{ints}}
use Rattle.jiff_core.specs.Calendar.{day_count, days_in_month, IsCivilDate}
use Rattle.jiff_core.proofs.CalendarLemmas.{day_count-day, day_count-next_month, day_count-next_year, day_count-last_of_year, days_in_month_bounds}
use Rattle.plant_types.proofs.public.Days.{day_count-2000, years}
use Rattle.plant_report.specs.Moments.{Date, date_after}

-- the date n days after 2000-01-01
pub record IsDateAfter (n : ℕ) (t : Date) : Type 0 where
  pub low : 2000 ≤ t.year
  pub civil : IsCivilDate (pos t.year) t.month t.day
  pub count : day_count (pos t.year) t.month t.day ≡ 4382910 + n

next_after : (n : ℕ) (y m d : ℕ) → suc n < 36525 → 2000 ≤ y → y ≤ 2099 → IsCivilDate (pos y) m d → day_count (pos y) m d ≡ 4382910 + n
    → (b c : Bool) → nat_lt d (days_in_month (pos y) m) ≡ b → nat_lt m 12 ≡ c
    → IsDateAfter (suc n)
    (cond b (record {
      year = y;
      month = m;
      day = d + 1;
    }) (cond c (record { year = y; month = m + 1; day = 1 }) (record { year = y + 1; month = 1; day = 1 })))
next_after n y m d lt low high civil count true c t u =
    let more = day_count-day (pos y) m d (d + 1) civil.2.0 (omega arith) in
    record {
      low = low;
      civil = (civil.0, civil.1, (omega arith, omega (arith, ltb-true d (days_in_month (pos y) m) t)));
      count = omega (arith, count, more);
    }
next_after n y m d lt low high civil count false true t u =
    let last : days_in_month (pos y) m ≤ d = ltb-false d (days_in_month (pos y) m) t in
    let begins = day_count-day (pos y) m d 1 civil.2.0 (omega arith) in
    let more = day_count-next_month (pos y) m civil.1.0 in
    let small = (days_in_month_bounds (pos y) (m + 1)).1 in
    let full = civil.2.1 in
    record {
      low = low;
      civil = (civil.0, (omega arith, omega (arith, ltb-true m 12 u)), (omega arith, omega (arith, small)));
      count = omega (arith, count, begins, more, last, full);
    }
next_after n y m d lt low high civil count false false t u =
    let december : m ≡ 12 = omega (arith, ltb-false m 12 u, civil.1.1) in
    let last : days_in_month (pos y) m ≤ d = ltb-false d (days_in_month (pos y) m) t in
    let full = civil.2.1 in
    let begins = day_count-day (pos y) m d 1 civil.2.0 (omega arith) in
    let month = day_count-next_month (pos y) m civil.1.0 in
    let ends = day_count-last_of_year (pos y) in
    let more = day_count-next_year (pos y) (pos (y + 1)) (omega (arith, ints)) (omega (arith, ints)) in
    let at : day_count (pos y) m 31 ≡ day_count (pos y) 12 31 = ap (λ v. day_count (pos y) v 31) december in
    let dim : days_in_month (pos y) m ≡ 31 = ap (λ v. days_in_month (pos y) v) december in
    let here = day_count-day (pos y) m d 31 civil.2.0 (omega arith) in
    record {
      low = omega arith;
      civil = (
        (omega (arith, ints), omega (arith, ints)),
        (omega arith, omega arith),
        (
          omega arith,
          omega
              (arith, (days_in_month_bounds (pos (y + 1)) 1).1),
        ),
      );
      count = omega (arith, count, here, at, dim, last, full, ends, more);
    }

pub date_after_is : (n : ℕ) → n < 36525 → IsDateAfter n (date_after n)
unfolding date_after
date_after_is zero lt =
    record {
      low = omega arith;
      civil = (
        (omega (arith, ints), omega (arith, ints)),
        (omega arith, omega arith),
        (
          omega arith,
          omega
              (arith, (days_in_month_bounds (pos 2000) 1).1),
        ),
      );
      count = omega (arith, day_count-2000);
    }
date_after_is (suc n) lt =
    let before = date_after_is n (omega arith) in
    let t = date_after n in
    let of_year = years (pos t.year) t.month t.day before.civil (omega (arith, before.count)) (omega (arith, before.count)) in
    let high : t.year ≤ 2099 = omega (arith, ints, of_year.is, of_year.high) in
    next_after n t.year t.month t.day lt before.low high before.civil before.count (nat_lt t.day (days_in_month (pos t.year) t.month))
    (nat_lt t.month 12) refl refl
