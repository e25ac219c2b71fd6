use Rattle.plant_model.proofs.public.QuotaLaws.{few_others}
use Rattle.plant_model.proofs.laws.largest_quota.Goals as goal

pub returns : goal.returns
returns c = few_others
