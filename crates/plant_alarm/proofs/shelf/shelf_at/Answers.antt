-- The shelf by the last return is the shelf by the events.
use Rattle.std.proofs.Common.{rules, ◌≡◌, ◌-◌, ◌∙◌}
use Rattle.plant_alarm.specs.{Shelves.{shelf_state}, declared.shelf.ShelfState.TheVariants.{Unshelved, OneShotShelved}}
use Rattle.plant_alarm.proofs.public.Returns.{shelf_by_events}
use Rattle.plant_alarm.proofs.shelf.shelf_at.Goals as goal

pub returns-then-not-is_after-clause-events : goal.returns-then-not-is_after-clause-events
returns-then-not-is_after-clause-events c =
    let is : OneShotShelved (c.in-OneShot.until - c.seconds-t-in-OneShot.result) ≡ shelf_state c.args.shelf.now c.args.returned c.args.now =
    search rules in
    λ es h e. is ∙ shelf_by_events c.args.shelf.now es c.args.returned c.args.now h e

pub returns-else-t-until-2-clause-events : goal.returns-else-t-until-2-clause-events
returns-else-t-until-2-clause-events c =
    let is : Unshelved ≡ shelf_state c.args.shelf.now c.args.returned c.args.now = search rules in
    λ es h e. is ∙ shelf_by_events c.args.shelf.now es c.args.returned c.args.now h e
