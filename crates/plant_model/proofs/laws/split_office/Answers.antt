use Rattle.plant_model.proofs.SplitLaws.{lists_merged, lists_merged_of_many, only_its_codes, other_units, others_change_nothing, parts_answer, parts_run}
use Rattle.plant_model.proofs.laws.split_office.Goals as goal

pub returns-clause-own : goal.returns-clause-own
returns-clause-own c = parts_answer

pub returns-clause-elsewhere : goal.returns-clause-elsewhere
returns-clause-elsewhere c = others_change_nothing

pub returns-clause-runs : goal.returns-clause-runs
returns-clause-runs c = parts_run

pub returns-clause-others : goal.returns-clause-others
returns-clause-others c = other_units

pub returns-clause-lists : goal.returns-clause-lists
returns-clause-lists c = lists_merged

pub returns-clause-many : goal.returns-clause-many
returns-clause-many c = lists_merged_of_many

pub returns-clause-codes : goal.returns-clause-codes
returns-clause-codes c = only_its_codes
