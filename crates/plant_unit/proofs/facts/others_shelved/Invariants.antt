use Rattle.std.proofs.Common.{◌≡◌, take, count_by}
use Rattle.plant_model.specs.steps.RowFacts.{facts_in}
use Rattle.plant_unit.specs.Shelving.{is_other_shelved}
use Rattle.plant_unit.proofs.facts.others_shelved.Given as goal

-- how many of the shelves so far are those of other alarms that are shelved
abbrev pub invariant-loop-row : goal.invariant-loop-row
invariant-loop-row l = l.others ≡ count_by (λ s. is_other_shelved (facts_in l.part) l.tag s l.now) (take l.row-index l.shelves)
