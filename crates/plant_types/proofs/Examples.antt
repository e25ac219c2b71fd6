-- Moments computed by their definition.
use Rattle.std.proofs.Common.{◌≡◌, refl, Some, None, codes}
use Rattle.plant_types.{specs.Moment.{moment_of}, proofs.public.Days.{day_count-2000, day_count-2099}}

pub no_such_day : moment_of (codes "2026-02-29T00:00:00Z") ≡ None
unfolding moment_of
no_such_day = refl

pub no_leap_second : moment_of (codes "2026-03-01T00:00:60Z") ≡ None
unfolding moment_of
no_leap_second = refl

pub too_late : moment_of (codes "2100-01-01T00:00:00Z") ≡ None
unfolding moment_of
too_late = refl

pub no_form : moment_of (codes "2026-03-01 00:00:00Z") ≡ None
unfolding moment_of
no_form = refl

pub the_last : moment_of (codes "2099-12-31T23:59:59Z") ≡ Some 3155759999
unfolding moment_of
the_last = rw (day_count-2099, day_count-2000) refl
