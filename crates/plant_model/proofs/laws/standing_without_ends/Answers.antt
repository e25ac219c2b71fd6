use Rattle.plant_model.proofs.public.EndLaws.{without_ends}
use Rattle.plant_model.proofs.laws.standing_without_ends.Goals as goal

pub returns : goal.returns
returns c = without_ends
