-- What shelving an alarm changes, and why it is refused, with the names of OPC 10000-9.
use Rattle.std.specs.Prelude.{Bool, List, Option, Result, Some, [], false, filter_map, not, true, ℕ, ◌&&◌, ◌∷◌}
use Rattle.plant_alarm.specs.{Shelves.{is_unshelved}, declared.shelf.Shelf.{Shelf, TheVariants.{Clear, OneShot, Timed}}}
use Rattle.plant_alarm.specs.declared.shelf.ShelfRefused.{ShelfRefused}
use Rattle.plant_alarm.specs.declared.shelf.ShelfRefused.TheVariants.{ConditionAlreadyShelved, ConditionNotShelved, ShelvingTimeOutOfRange}
use Rattle.plant_model.specs.{Facts.{Facts, returned}, Refusals.{first_refusal, over_quota}, Replies.{line_of}}
use Rattle.plant_model.specs.steps.RowFacts.{facts_in, last_return_in}
use Rattle.plant_model.specs.{Shelves.{shelf_row_as, state_of_shelf}, declared.{call.Call.{Call}, reply.Refused.{Refused}, rows.UnitPart.{UnitPart}}}
use Rattle.plant_model.specs.declared.reply.Refused.TheVariants.{ConditionAlreadyShelved as IsShelved, ConditionNotShelved as IsUnshelved, ShelvingTimeOutOfRange as IsOutOfRange}
use Rattle.plant_model.specs.declared.{reply.ShelfLine.{ShelfLine}, rows.{AlarmRow.{AlarmRow}, Key.TheVariants.{Shelf as ShelfKey}}}
use Rattle.plant_model.specs.declared.rows.{Row.TheVariants.{Shelf as ShelfPut}, RowEdit.{RowEdit, TheVariants.{Put, Remove}}, ShelfRow.{ShelfRow}}
use Rattle.plant_types.specs.Names.{Name, same_name}
use Rattle.plant_unit.specs.Additions.{decided_or}

abbrev pub refusal_of : ShelfRefused → Refused
refusal_of (ShelvingTimeOutOfRange max) = IsOutOfRange max
refusal_of ConditionAlreadyShelved = IsShelved
refusal_of ConditionNotShelved = IsUnshelved

-- the row of an alarm's shelf is put, with the person and the words; no shelf has no row
abbrev pub shelf_change : Name → Name → Name → Shelf → RowEdit
shelf_change a p words Clear = Remove (ShelfKey a)
shelf_change a p words (Timed start until) = Put (ShelfPut (shelf_row_as false start until p words a))
shelf_change a p words (OneShot start until) = Put (ShelfPut (shelf_row_as true start until p words a))

-- the decision on a shelving that the alarm's state allows: its change, unless the unit's quota is used up
abbrev pub shelf_decision : UnitPart → Call → Name → Name → Shelf → Result (List RowEdit) Refused
shelf_decision part c a words shelf =
    decided_or (first_refusal (over_quota (facts_in part) a c.moment ∷ [])) (shelf_change a c.person words shelf ∷ [])

-- the row is the shelf of another alarm, and that alarm is shelved at the moment
abbrev pub is_other_shelved : Facts → Name → ShelfRow → ℕ → Bool
is_other_shelved f a s t = not (same_name a s.tag) && not (is_unshelved (state_of_shelf (Some s) (returned f s.tag) t))

-- the line of a shelf whose alarm last returned to normal at this moment, if it holds
abbrev pub line_at : ShelfRow → Option ℕ → ℕ → Option ShelfLine
line_at s returned_s t = line_of s (state_of_shelf (Some s) returned_s t)

-- the lines of the shelves that hold, by the alarms of their unit
abbrev pub lines_among : List AlarmRow → List ShelfRow → ℕ → List ShelfLine
lines_among alarms shelves t = filter_map (λ s. line_at s (last_return_in alarms s.tag) t) shelves

-- an alarm is shelved at the moment
abbrev pub is_shelved : Facts → AlarmRow → ℕ → Bool
is_shelved f r t = not (is_unshelved (state_of_shelf (f.shelf r.tag) r.return_s t))
