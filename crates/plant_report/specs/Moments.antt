-- The text of a moment, by the calendar.
use Rattle.std.specs.Prelude.{ℕ, zero, suc, ◌+◌, ◌/◌, ◌%◌, nat_lt, if◌then◌else◌, List, pos}
use Rattle.jiff_core.specs.Calendar.{days_in_month}
use Rattle.plant_types.specs.Spelling.{spelled}

-- a day of the calendar
pub record Date : Type 0 where
  pub year : ℕ
  pub month : ℕ
  pub day : ℕ

-- the next day
abbrev pub next_day : Date → Date
next_day t =
    if nat_lt t.day (days_in_month (pos t.year) t.month) then record t { day = t.day + 1 }
    else if nat_lt t.month 12 then record { year = t.year; month = t.month + 1; day = 1 }
    else record { year = t.year + 1; month = 1; day = 1 }

-- the date n days after 2000-01-01
unfoldable pub date_after : ℕ → Date
date_after zero = record { year = 2000; month = 1; day = 1 }
date_after (suc n) = next_day (date_after n)

-- the moment n seconds after 2000-01-01T00:00:00Z, as YYYY-MM-DDTHH:MM:SSZ
unfoldable pub moment_text : ℕ → List ℕ
moment_text n =
    let date = date_after (n / 86400) in
    spelled date.year date.month date.day (n % 86400 / 3600) (n % 3600 / 60) (n % 60)
