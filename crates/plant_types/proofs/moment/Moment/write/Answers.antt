use Rattle.std.proofs.Common.{◌∙◌, ◌≡◌, ap, Some}
use Rattle.plant_types.{specs.Moment.{moment_of}, proofs.{Unique.{same_text}, public.Round.{written}}}
use Rattle.plant_types.proofs.moment.Moment.write.Goals as goal

pub returns : goal.returns
returns c =
    let is_read : moment_of c.spell.result ≡ Some c.args.self.now =
    written c.seconds-seconds.result c.day_after-year.result.0 c.day_after-year.result.1 c.day_after-year.result.2 c.spell.result
    c.day_after-year.ensures.date c.day_after-year.ensures.days c.spell.ensures
    ∙ ap Some c.seconds-seconds.ensures.value in
    record { read = is_read; only = λ text e. same_text text c.spell.result c.args.self.now e is_read }
