use Rattle.std.proofs.Common.{ap, arith, ◌∙◌, ◌≡◌, option_map}
use Rattle.std.proofs.lemmas.Grind.{common_steps}
use Rattle.plant_ration.specs.declared.change.ChangeKind.TheVariants.{Matrix}
use Rattle.plant_unit.proofs.ReadingLaws.{mapped_when}
use Rattle.plant_unit.proofs.reading.matrix_kind.Goals as goal

pub returns-clause-value : goal.returns-clause-value
returns-clause-value c =
    let mapped : c.map.result ≡ option_map Matrix c.in_ok-matrix_of.field-0 = grind (arith, common_steps) in
    mapped ∙ ap (option_map Matrix) c.in_ok-matrix_of.ensures.value ∙ mapped_when Matrix _ _
