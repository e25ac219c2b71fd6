-- What the tests of a date and of a time say.
use Rattle.std.proofs.{Common.{◌≡◌, ℕ, ◌≤◌, ◌<◌, true, pos}, lemmas.Bool.{leb-true, ltb-true}}
use Rattle.jiff_core.specs.Calendar.{days_in_month}
use Rattle.plant_types.{specs.Moment.{is_date, is_time}, proofs.public.Halves.{left, right}}

pub record IsDate (y m d : ℕ) : Type 0 where
  pub low : 2000 ≤ y
  pub high : y ≤ 2099
  pub first_month : 1 ≤ m
  pub last_month : m ≤ 12
  pub first_day : 1 ≤ d
  pub last_day : d ≤ days_in_month (pos y) m

pub date_is : (y m d : ℕ) → is_date y m d ≡ true → IsDate y m d
date_is y m d e =
    record {
      low = leb-true 2000 y (left _ _ (left _ _ (left _ _ (left _ _ (left _ _ e)))));
      high = leb-true y 2099 (right _ _ (left _ _ (left _ _ (left _ _ (left _ _ e)))));
      first_month = leb-true 1 m (right _ _ (left _ _ (left _ _ (left _ _ e))));
      last_month = leb-true m 12 (right _ _ (left _ _ (left _ _ e)));
      first_day = leb-true 1 d (right _ _ (left _ _ e));
      last_day = leb-true d (days_in_month (pos y) m) (right _ _ e);
    }

pub record IsTime (h m s : ℕ) : Type 0 where
  pub hour : h < 24
  pub minute : m < 60
  pub second : s < 60

pub time_is : (h m s : ℕ) → is_time h m s ≡ true → IsTime h m s
time_is h m s e =
    record {
      hour = ltb-true h 24 (left _ _ (left _ _ e));
      minute = ltb-true m 60 (right _ _ (left _ _ e));
      second = ltb-true s 60 (right _ _ e);
    }
