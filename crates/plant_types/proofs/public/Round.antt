-- What is spelled is read again.
use Rattle.std.proofs.lemmas.Bool.{lt-ltb, Decides.{nat_tests}}
use Rattle.std.proofs.Common.{◌≡◌, ℕ, ◌+◌, ◌*◌, ◌/◌, ◌%◌, ◌<◌, refl, ap, ◌∙◌, arith, Bool, true, ◌&&◌, Some, List, [], ◌∷◌, pos}
use Rattle.jiff_core.proofs.CalendarLemmas.{days_in_month_bounds}
use Rattle.plant_types.specs.Moment.{decimal_value, has_form, is_date, is_time, days_since_2000, moment_of}
use Rattle.plant_types.{specs.{Spelling.{digit, spelled}, Text.{is_digit}}, proofs.public.DateTests.{date_is}}

two : {a b : Bool} → a ≡ true → b ≡ true → (a && b) ≡ true
two {a} {b} p q = ap (λ x. x && b) p ∙ q

dig : (n : ℕ) → n < 10 → is_digit (48 + n) ≡ true
dig n h = grind (arith, nat_tests)

pub decimal_two : (n : ℕ) → n < 100 → decimal_value (digit (n / 10) ∷ digit (n % 10) ∷ []) ≡ n
decimal_two n h = omega arith

pub decimal_four : (n : ℕ) → decimal_value (digit (n / 100 / 10) ∷ digit (n / 100 % 10) ∷ digit (n % 100 / 10) ∷ digit (n % 100 % 10) ∷ []) ≡ n
decimal_four n = omega arith

pub form_of : (y m d h mi s : ℕ) → y < 10000 → m < 100 → d < 100 → h < 100 → mi < 100 → s < 100 → has_form (spelled y m d h mi s) ≡ true
form_of y m d h mi s hy hm hd hh hmi hs =
    two (dig (y / 100 / 10) (omega arith))
    (two (dig (y / 100 % 10) (omega arith))
    (two (dig (y % 100 / 10) (omega arith))
    (two (dig (y % 100 % 10) (omega arith))
    (two (dig (m / 10) (omega arith))
    (two (dig (m % 10) (omega arith))
    (two (dig (d / 10) (omega arith))
    (two (dig (d % 10) (omega arith))
    (two (dig (h / 10) (omega arith))
    (two (dig (h % 10) (omega arith))
    (two (dig (mi / 10) (omega arith))
    (two (dig (mi % 10) (omega arith)) (two (dig (s / 10) (omega arith)) (two (dig (s % 10) (omega arith)) (refl))))))))))))))

pub round : (y m d h mi s : ℕ) → is_date y m d ≡ true → is_time h mi s ≡ true → y < 10000 → m < 100 → d < 100 → h < 100 → mi < 100 → s < 100
    → moment_of (spelled y m d h mi s) ≡ Some (86400 * days_since_2000 y m d + 3600 * h + 60 * mi + s)
unfolding moment_of
round y m d h mi s date time hy hm hd hh hmi hs =
    rw (
      form_of y m d h mi s hy hm hd hh hmi hs,
      decimal_four y,
      decimal_two m hm,
      decimal_two d hd,
      decimal_two h hh,
      decimal_two mi hmi,
      decimal_two
          s hs,
      date,
      time,
    ) refl

-- the parts of a date are small
pub date_bounds : (y m d : ℕ) → is_date y m d ≡ true → (y < 10000) × (m < 100) × (d < 100)
date_bounds y m d e =
    let is = date_is y m d e in
    (omega (arith, is.high), omega (arith, is.last_month), omega (arith, is.last_day, (days_in_month_bounds (pos y) m).0))

pub time_true : (t : ℕ) → t < 86400 → is_time (t / 60 / 60) (t / 60 % 60) (t % 60) ≡ true
time_true t lt = two (two (lt-ltb (t / 60 / 60) 24 (omega arith)) (lt-ltb (t / 60 % 60) 60 (omega arith))) (lt-ltb (t % 60) 60 (omega arith))

time_sum : (n : ℕ) → 86400 * (n / 86400) + 3600 * (n % 86400 / 60 / 60) + 60 * (n % 86400 / 60 % 60) + n % 86400 % 60 ≡ n
time_sum n = omega arith

pub written : (n y m d : ℕ) (text : List ℕ) → is_date y m d ≡ true → days_since_2000 y m d ≡ n / 86400
    → text ≡ spelled y m d (n % 86400 / 60 / 60) (n % 86400 / 60 % 60) (n % 86400 % 60) → moment_of text ≡ Some n
written n y m d text date days e =
    let small = date_bounds y m d date in
    ap moment_of e
    ∙ round y m d (n % 86400 / 60 / 60) (n % 86400 / 60 % 60)
    (n % 86400 % 60) date (time_true (n % 86400) (omega arith)) small.0 small.1 small.2 (omega arith) (omega arith) (omega arith)
    ∙ ap (λ v. Some (86400 * v + 3600 * (n % 86400 / 60 / 60) + 60 * (n % 86400 / 60 % 60) + n % 86400 % 60)) days
    ∙ ap Some (time_sum n)
