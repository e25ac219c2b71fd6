-- Moments' texts, computed.
use Rattle.std.proofs.Common.{◌≡◌, refl, codes}
use Rattle.plant_report.specs.Moments.{date_after, moment_text}

pub the_first : moment_text 0 ≡ codes "2000-01-01T00:00:00Z"
unfolding moment_text date_after
the_first = refl

pub a_leap_day : moment_text 5183999 ≡ codes "2000-02-29T23:59:59Z"
unfolding moment_text date_after
a_leap_day = refl

pub a_new_year : moment_text 31658400 ≡ codes "2001-01-01T10:00:00Z"
unfolding moment_text date_after
a_new_year = refl
