use Rattle.std.proofs.Common.{refl, sym, ◌∙◌}
use Rattle.plant_import.{specs.Numbers.{event_number}, proofs.public.Placed.{puts_none, rises_of}}
use Rattle.plant_import.proofs.event_numbers.in_rising_number.Goals as goal

pub returns-in-Ok-clause-value : goal.returns-in-Ok-clause-value
returns-in-Ok-clause-value c = c.in-Ok.ensures.ok ∙ sym (puts_none event_number c.args.events (rises_of event_number c.args.events (c.in-Ok.ensures.when.0 refl)))
