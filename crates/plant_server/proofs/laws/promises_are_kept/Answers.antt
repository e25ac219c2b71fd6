use Rattle.plant_server.proofs.Promised.{promised}
use Rattle.plant_server.proofs.laws.promises_are_kept.Goals as goal

pub returns : goal.returns
returns g c = promised _ c.split_office.ensures.own _ _ _
