use Rattle.plant_model.proofs.ShelfLaws.{all_shelves_end, shelves_end}
use Rattle.plant_model.proofs.laws.shelves_end_by_returns.Goals as goal

pub returns-clause-unit : goal.returns-clause-unit
returns-clause-unit c = shelves_end

pub returns-clause-units : goal.returns-clause-units
returns-clause-units c = all_shelves_end
