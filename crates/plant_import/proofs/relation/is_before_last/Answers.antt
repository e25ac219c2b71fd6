use Rattle.std.{proofs.Common.{ap, rules, sym, ◌∙◌, ◌≡◌, option_copied, nat_lt}}
use Rattle.plant_import.proofs.public.Risings.{last_settles_at}
use Rattle.plant_import.proofs.relation.is_before_last.Goals as goal

pub returns-in-Some : goal.returns-in-Some
returns-in-Some c es rising last =
    let earlier : c.lt.result ≡ nat_lt c.args.event.now.moment c.in-Some.last.now.moment = search rules in
    earlier ∙ last_settles_at c.args.event.now.moment es c.in-Some.last.now (sym (ap option_copied c.in-Some.is) ∙ last) rising
