-- A moment has one text: two texts that are read as one moment are the same.
use Rattle.std.proofs.lemmas.{Bool.{leb-true, eqb-true, cases_lt, Decides.{nat_tests}}, Int.{ints}}
use Rattle.std.proofs.Common.{⊎_elim, ◌&&◌, ◌≡◌, ℕ, ◌+◌, ◌*◌, ◌/◌, ◌%◌, ◌≤◌, refl, sym, ap, ◌∙◌, arith, Bool, true, Some, None, cond, List, [], ◌∷◌, length, pos, subst}
use Rattle.jiff_core.{specs.Calendar.{day_count, IsCivilDate}, proofs.CalendarLemmas.{day_count-lt_year, day_count-lt_month, day_count-day}}
use Rattle.plant_types.specs.{Spelling.{digit, spelled}, Text.{is_digit}}
use Rattle.plant_types.proofs.public.{DateTests.{date_is, IsTime, time_is}, Days.{day_count-2000, since-2000}, Halves.{left, right}}
use Rattle.plant_types.specs.Moment.{decimal_value, has_form, Civil, civil_of, is_civil, is_date, days_since_2000, seconds_since_2000, moment_of}

-- what a digit is
within : (b : ℕ) → is_digit b ≡ true → (48 ≤ b) × (b ≤ 57)
within b e = (leb-true 48 b (left _ _ e), leb-true b 57 (right _ _ e))

of_two : (a b : ℕ) → is_digit a ≡ true → is_digit b ≡ true
    → (a ≡ digit (decimal_value (a ∷ b ∷ []) / 10)) × (b ≡ digit (decimal_value (a ∷ b ∷ []) % 10))
of_two a b p q =
    let u = within a p in
    let v = within b q in
    (omega arith, omega arith)

abbrev number_of : ℕ → ℕ → ℕ → ℕ → ℕ
number_of a b c d = decimal_value (a ∷ b ∷ c ∷ d ∷ [])

of_four : (a b c d : ℕ) → is_digit a ≡ true → is_digit b ≡ true → is_digit c ≡ true → is_digit d ≡ true
    → (a ≡ digit (number_of a b c d / 100 / 10)) × (b ≡ digit (number_of a b c d / 100 % 10)) × (c ≡ digit (number_of a b c d % 100 / 10))
    × (d ≡ digit (number_of a b c d % 100 % 10))
of_four a b c d p q r s =
    let u = within a p in
    let v = within b q in
    let w = within c r in
    let x = within d s in
    (omega arith, omega arith, omega arith, omega arith)

-- a text of the form is spelled by its parts
abbrev spelled_by : Civil → List ℕ
spelled_by c = spelled c.year c.month c.day c.hour c.minute c.second

put : {x y : ℕ} {xs ys : List ℕ} → x ≡ y → xs ≡ ys → x ∷ xs ≡ y ∷ ys
put p q = cc

is_long : (text : List ℕ) → has_form text ≡ true → length text ≡ 20
is_long text is = grind (arith, nat_tests)

three : (a b c rest : Bool) → (a && (b && (c && rest))) ≡ true → (a ≡ true) × (b ≡ true) × (c ≡ true) × (rest ≡ true)
three a b c rest h = (grind arith, grind arith, grind arith, grind arith)

spelled_by_parts : (text : List ℕ) → has_form text ≡ true → text ≡ spelled_by (civil_of text)
spelled_by_parts (a ∷ b ∷ c ∷ d ∷ e ∷ f ∷ g ∷ h ∷ i ∷ j ∷ k ∷ l ∷ m ∷ n ∷ o ∷ p ∷ q ∷ r ∷ s ∷ t ∷ []) is =
    let abc = three _ _ _ _ is in
    let def = three _ _ _ _ abc.3 in
    let ghi = three _ _ _ _ def.3 in
    let jkl = three _ _ _ _ ghi.3 in
    let mno = three _ _ _ _ jkl.3 in
    let pqr = three _ _ _ _ mno.3 in
    let year = of_four a b c d abc.0 abc.1 abc.2 def.0 in
    let month = of_two f g def.2 ghi.0 in
    let day = of_two i j ghi.2 jkl.0 in
    let hour = of_two l m jkl.2 mno.0 in
    let minute = of_two o p mno.2 pqr.0 in
    let second = of_two r s pqr.2 (left _ _ pqr.3) in
    put year.0
    (put year.1
    (put year.2
    (put year.3 (put (eqb-true e 45 def.1) (put month.0 (put month.1 (put (eqb-true h 45 ghi.1) (put day.0 (put day.1 (put (eqb-true k 84 jkl.1)
    (put hour.0
    (put hour.1
    (put (eqb-true n 58 mno.1)
    (put minute.0
    (put minute.1 (put (eqb-true q 58 pqr.1) (put second.0 (put second.1 (put (eqb-true t 90 (left _ _ (right _ _ pqr.3))) refl)))))))))))))))))))
spelled_by_parts text is = absurd (omega (arith, is_long text is))

-- a day of these years
record IsDay (y m d : ℕ) : Type 0 where
  low : 2000 ≤ y
  civil : IsCivilDate (pos y) m d

day_of : (y m d : ℕ) → is_date y m d ≡ true → IsDay y m d
day_of y m d e =
    let is = date_is y m d e in
    record {
      low = is.low;
      civil = ((omega (arith, ints, is.low), omega (arith, ints, is.high)), (is.first_month, is.last_month), (is.first_day, is.last_day));
    }

-- days with one number are the same day
no_earlier_year : (y m d z n e : ℕ) → IsDay y m d → IsDay z n e → day_count (pos y) m d ≡ day_count (pos z) n e → z ≤ y
no_earlier_year y m d z n e p q same =
    ⊎_elim (λ lt. absurd (omega (arith, same, day_count-lt_year (pos y) m d (pos z) n e p.civil q.civil.2.0 (omega (arith, ints))))) (λ le. le)
    (cases_lt y z)

no_earlier_month : (y m d n e : ℕ) → IsDay y m d → IsDay y n e → day_count (pos y) m d ≡ day_count (pos y) n e → n ≤ m
no_earlier_month y m d n e p q same =
    ⊎_elim (λ lt. absurd (omega (arith, same, day_count-lt_month (pos y) m d n e p.civil q.civil.2.0 lt))) (λ le. le) (cases_lt m n)

same_year : (y m d z n e : ℕ) → IsDay y m d → IsDay z n e → day_count (pos y) m d ≡ day_count (pos z) n e → y ≡ z
same_year y m d z n e p q same = omega (arith, no_earlier_year y m d z n e p q same, no_earlier_year z n e y m d q p (sym same))

same_month : (y m d n e : ℕ) → IsDay y m d → IsDay y n e → day_count (pos y) m d ≡ day_count (pos y) n e → m ≡ n
same_month y m d n e p q same = omega (arith, no_earlier_month y m d n e p q same, no_earlier_month y n e m d q p (sym same))

same_day : (y m d e : ℕ) → IsDay y m d → IsDay y m e → day_count (pos y) m d ≡ day_count (pos y) m e → d ≡ e
same_day y m d e p q same = omega (arith, same, day_count-day (pos y) m d e p.civil.2.0 q.civil.2.0)

record SameDay (y m d z n e : ℕ) : Type 0 where
  year : y ≡ z
  month : m ≡ n
  day : d ≡ e

same_date : (y m d z n e : ℕ) → IsDay y m d → IsDay z n e → day_count (pos y) m d ≡ day_count (pos z) n e → SameDay y m d z n e
same_date y m d z n e p q same =
    let year : y ≡ z = same_year y m d z n e p q same in
    let p' : IsDay z m d = subst (λ (v : ℕ). IsDay v m d) year p in
    let same' : day_count (pos z) m d ≡ day_count (pos z) n e = ap (λ (v : ℕ). day_count (pos v) m d) (sym year) ∙ same in
    let month : m ≡ n = same_month z m d n e p' q same' in
    let p'' : IsDay z n d = subst (λ (v : ℕ). IsDay z v d) month p' in
    let same'' : day_count (pos z) n d ≡ day_count (pos z) n e = ap (λ (v : ℕ). day_count (pos z) v d) (sym month) ∙ same' in
    record { year = year; month = month; day = same_day z n d e p'' q same'' }

since_same : (y m d z n e : ℕ) → IsDay y m d → IsDay z n e → days_since_2000 y m d ≡ days_since_2000 z n e
    → day_count (pos y) m d ≡ day_count (pos z) n e
since_same y m d z n e p q same =
    let from = since-2000 y m d p.low p.civil.2.0 in
    let from' = since-2000 z n e q.low q.civil.2.0 in
    omega (arith, same, day_count-2000, from, from')

-- times and days with one number of seconds are the same
record SameClock (x h m s y i n t : ℕ) : Type 0 where
  days : x ≡ y
  hour : h ≡ i
  minute : m ≡ n
  second : s ≡ t

same_clock : (x h m s y i n t : ℕ) → IsTime h m s → IsTime i n t → 86400 * x + 3600 * h + 60 * m + s ≡ 86400 * y + 3600 * i + 60 * n + t
    → SameClock x h m s y i n t
same_clock x h m s y i n t p q same =
    record {
      days = omega (arith, p.hour, p.minute, p.second, q.hour, q.minute, q.second);
      hour = omega (arith, p.hour, p.minute, p.second, q.hour, q.minute, q.second);
      minute = omega (arith, p.hour, p.minute, p.second, q.hour, q.minute, q.second);
      second = omega (arith, p.hour, p.minute, p.second, q.hour, q.minute, q.second);
    }

same_spelling : (a b : Civil) → is_civil a ≡ true → is_civil b ≡ true → seconds_since_2000 a ≡ seconds_since_2000 b → spelled_by a ≡ spelled_by b
same_spelling a b p q same =
    let day = day_of a.year a.month a.day (left _ _ p) in
    let day' = day_of b.year b.month b.day (left _ _ q) in
    let clock = same_clock _ a.hour a.minute a.second _ b.hour b.minute b.second (time_is _ _ _ (right _ _ p)) (time_is _ _ _ (right _ _ q)) same in
    let date =
    same_date a.year a.month a.day b.year b.month b.day day day' (since_same a.year a.month a.day b.year b.month b.day day day' clock.days) in
    rw (date.year, date.month, date.day, clock.hour, clock.minute, clock.second) refl

-- what is read was of the form, a day and a time
picked : (b : Bool) (n k : ℕ) → cond b (Some n) None ≡ Some k → (b ≡ true) × (n ≡ k)
picked b n k e = (grind arith, grind arith)

pub same_text : (a b : List ℕ) (n : ℕ) → moment_of a ≡ Some n → moment_of b ≡ Some n → a ≡ b
unfolding moment_of
same_text a b n p q =
    let u = picked _ _ n p in
    let v = picked _ _ n q in
    spelled_by_parts a (left _ _ u.0)
    ∙ same_spelling (civil_of a) (civil_of b) (right _ _ u.0) (right _ _ v.0) (u.1 ∙ sym v.1)
    ∙ sym (spelled_by_parts b (left _ _ v.0))
