-- The text computed by the calendar is the one that is read as the moment.
use Rattle.std.proofs.Common.{◌≡◌, ℕ, ◌+◌, ◌*◌, ◌/◌, ◌%◌, ◌≤◌, ◌<◌, sym, arith, true, Some, List, pos}
use Rattle.std.proofs.lemmas.{Bool.{leb-true, ltb-true}, Int.{ints}, Option.{cond_some}}
use Rattle.jiff_core.specs.Calendar.{days_in_month, IsCivilDate}
use Rattle.plant_types.specs.{Moment.{moment_of, is_date, is_time, has_form, civil_of, is_civil, days_since_2000}, Spelling.{spelled}}
use Rattle.plant_types.proofs.public.{Days.{day_count-2000, until-2100, is_date_true, years}, Halves.{left, right}, Round.{written}}
use Rattle.plant_report.{specs.Moments.{date_after, moment_text}, proofs.Dates.{date_after_is}}

clock_is : (y m d n : ℕ)
    → spelled y m d (n % 86400 / 3600) (n % 3600 / 60) (n % 60) ≡ spelled y m d (n % 86400 / 60 / 60) (n % 86400 / 60 % 60) (n % 86400 % 60)
clock_is y m d n =
    let hour : n % 86400 / 3600 ≡ n % 86400 / 60 / 60 = omega arith in
    let minute : n % 3600 / 60 ≡ n % 86400 / 60 % 60 = omega arith in
    let second : n % 60 ≡ n % 86400 % 60 = omega arith in
    three (spelled y m d) hour minute second
  where
    three : {A : Type 0} (f : ℕ → ℕ → ℕ → A) {a b c a' b' c' : ℕ} → a ≡ a' → b ≡ b' → c ≡ c' → f a b c ≡ f a' b' c'
    three f p q r = cc

pub moment_of-moment_text : (n : ℕ) → n < 3155760000 → moment_of (moment_text n) ≡ Some n
unfolding moment_text
moment_of-moment_text n lt =
    let date = date_after (n / 86400) in
    let is = date_after_is (n / 86400) (omega arith) in
    let of_year = years (pos date.year) date.month date.day is.civil (omega (arith, is.count)) (omega (arith, is.count)) in
    let high : date.year ≤ 2099 = omega (arith, ints, of_year.is, of_year.high) in
    written n date.year date.month date.day (moment_text n) (is_date_true date.year date.month date.day is.low high is.civil)
    (omega (arith, is.count, day_count-2000)) (clock_is date.year date.month date.day n)

day_is_early : (y m d : ℕ) → is_date y m d ≡ true → days_since_2000 y m d < 36525
day_is_early y m d e =
    let e₁ = left _ _ e in
    let e₂ = left _ _ e₁ in
    let e₃ = left _ _ e₂ in
    let e₄ = left _ _ e₃ in
    let low : 2000 ≤ y = leb-true 2000 y (left _ _ e₄) in
    let high : y ≤ 2099 = leb-true y 2099 (right _ _ e₄) in
    let civil : IsCivilDate (pos y) m d = (
      (omega (arith, ints), omega (arith, ints)),
      (leb-true 1 m (right _ _ e₃), leb-true m 12 (right _ _ e₂)),
      (
        leb-true 1 d
            (right _ _ e₁),
        leb-true d (days_in_month (pos y) m) (right _ _ e),
      ),
    ) in
    omega (arith, until-2100 y m d high civil, day_count-2000)

time_is_short : (h m s : ℕ) → is_time h m s ≡ true → 3600 * h + 60 * m + s < 86400
time_is_short h m s e =
    let e₁ = left _ _ e in
    let hour : h < 24 = ltb-true h 24 (left _ _ e₁) in
    let minute : m < 60 = ltb-true m 60 (right _ _ e₁) in
    let second : s < 60 = ltb-true s 60 (right _ _ e) in
    omega arith

-- what a text is read as is a moment
pub moment_of_bound : (text : List ℕ) (n : ℕ) → moment_of text ≡ Some n → n < 3155760000
unfolding moment_of
moment_of_bound text n e =
    let p = cond_some _ _ n e in
    let c = civil_of text in
    let both = right (has_form text) (is_civil c) p.0 in
    let day = day_is_early c.year c.month c.day (left _ _ both) in
    let time = time_is_short c.hour c.minute c.second (right _ _ both) in
    omega (arith, p.1, day, time)

-- the one text that is read as the moment
pub only_text : (text : List ℕ) (n : ℕ) → moment_of text ≡ Some n → ((other : List ℕ) → moment_of other ≡ Some n → other ≡ text)
    → text ≡ moment_text n
only_text text n is only = sym (only (moment_text n) (moment_of-moment_text n (moment_of_bound text n is)))
