use Rattle.plant_model.proofs.public.WorldLaws.{unseen_calls, codes_are_the_administrators, equal_views, calls_to_seen_units}
use Rattle.plant_model.proofs.laws.two_worlds.Goals as goal

pub returns-clause-unseen : goal.returns-clause-unseen
returns-clause-unseen c = unseen_calls

pub returns-clause-codes : goal.returns-clause-codes
returns-clause-codes c = codes_are_the_administrators

pub returns-clause-own : goal.returns-clause-own
returns-clause-own c = equal_views

pub returns-clause-shared : goal.returns-clause-shared
returns-clause-shared c = calls_to_seen_units
