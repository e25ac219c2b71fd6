use Rattle.std.{proofs.Common.{ap, rules, sym, ◌∙◌, ◌≡◌, option_copied, nat_lt}}
use Rattle.plant_import.proofs.public.Risings.{first_settles_at}
use Rattle.plant_import.proofs.relation.is_after_first.Goals as goal

pub returns-in-Some : goal.returns-in-Some
returns-in-Some c es rising first =
    let later : c.lt.result ≡ nat_lt c.in-Some.first.now.moment c.args.event.now.moment = search rules in
    later ∙ first_settles_at c.args.event.now.moment es c.in-Some.first.now (sym (ap option_copied c.in-Some.is) ∙ first) rising
