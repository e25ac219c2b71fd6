use Rattle.std.{specs.Option.{is_some}, proofs.Common.{ap, ◌∙◌, rules, ◌≡◌}}
use Rattle.plant_types.proofs.public.SortedLaws.{some_copied}
use Rattle.plant_types.proofs.sorted.Sorted.has.Goals as goal

pub returns : goal.returns
returns g c =
    let told : c.is_some.result ≡ is_some c.get.result = search rules in
    told ∙ some_copied c.get.result ∙ ap is_some c.get.ensures
