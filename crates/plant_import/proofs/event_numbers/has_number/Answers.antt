use Rattle.std.proofs.Common.{nat_cmp, ◌∙◌}
use Rattle.plant_import.specs.Numbers.{event_number}
use Rattle.plant_types.proofs.public.SortedLaws.{some_at}
use Rattle.plant_import.proofs.event_numbers.has_number.Goals as goal

pub returns : goal.returns
returns c = c.has.ensures ∙ some_at nat_cmp event_number c.args.number c.args.events.now
