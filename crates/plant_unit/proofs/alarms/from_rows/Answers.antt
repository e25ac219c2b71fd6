use Rattle.std.proofs.Common.{[], ap, ◌++◌, ◌∙◌}
use Rattle.plant_unit.specs.Alarms.{brought, in_columns}
use Rattle.plant_unit.proofs.NamedLaws.{columns_are}
use Rattle.plant_unit.proofs.alarms.from_rows.Goals as goal

pub returns-clause-value : goal.returns-clause-value
returns-clause-value c es so =
    c.add_events.ensures.value es []
    (c.in_ok-all.ensures.value ∙ ap in_columns c.as_slice.ensures.value ∙ columns_are c.args.alarms.now es so)
    ∙ ap (λ l. brought c.args.alarms.now (es ++ l) l) c.as_slice-2.ensures.value
