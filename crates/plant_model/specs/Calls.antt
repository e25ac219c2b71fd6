-- What a unit answers to each call: its refusals in their order, and its reply. Each table has one line for each kind
-- of call.
use Rattle.std.specs.Prelude.{Bool, List, None, Option, Some, [], is_none, is_some, nat_le, nat_lt, not, ℕ, ◌&&◌, ◌++◌, ◌+◌, ◌∷◌}
use Rattle.plant_alarm.specs.Shelves.{is_one_shot, is_timed, is_unshelved}
use Rattle.plant_model.specs.{Events.{flood_lines, is_aligned, rows_of_file}, Facts.{Facts, is_out, limit_of, shelf_now}}
use Rattle.plant_model.specs.Grants.{is_before}
use Rattle.plant_model.specs.{Refusals.{file_refusals, kind_refusals, kind_unknown, of_change, over_quota, unknown}}
use Rattle.plant_model.specs.Replies.{alarm_lines, change_reply, import_reply, shelf_lines, standing_lines, status_reply}
use Rattle.plant_model.specs.declared.call.Request.{Request}
use Rattle.plant_model.specs.declared.call.Request.TheVariants.{Alarms, Approve, ChangeOf, Floods, Grant, Import, MyShelves, MyUnits, OneShotShelve, OpenUnit, PlaceInService, Propose, RecordOf, Register, Reject, RemoveFromService, Shelves, Standing, Status, TimedShelve, Unshelve, Withdraw, WithdrawChange}
use Rattle.plant_model.specs.declared.reply.Full.TheVariants.{Alarms as TooManyAlarms, Changes as TooManyChanges, Grants as TooManyGrants}
use Rattle.plant_model.specs.declared.reply.{RecordRow.{RecordRow}, Refused.{Refused}, Reply.{Reply}}
use Rattle.plant_model.specs.declared.reply.Refused.TheVariants.{AlarmTaken, AlreadyHeld, AlreadyOutOfService, ChangeUnknown, ConditionAlreadyShelved, ConditionNotShelved, EndNotAhead, LastSteward, NotHeld, NotOutOfService, NotProposer, RangeNotAligned, RecordUnknown, SamePerson, ShelvingTimeOutOfRange, UnitFull}
use Rattle.plant_model.specs.declared.reply.Reply.TheVariants.{Alarms as AlarmsOf, Done, Floods as FloodsOf, Number, RecordOf as RecordReply, Shelves as ShelvesOf, Standing as StandingOf}
use Rattle.plant_types.specs.{Limits.{max_alarms, max_changes, max_grants}, Names.{Name, same_name}, Roles.{same_role}}
use Rattle.plant_types.specs.declared.role.Role.TheVariants.{Steward}

-- the refusals of a request of this person at this moment, apart from those for a caller without the role and for a
-- moment before the last one
abbrev pub own_refusals : Facts → Name → ℕ → Request → List (Bool × Refused)
own_refusals f p t (Grant u q r) =
    (nat_le max_grants f.pairs, UnitFull TooManyGrants) ∷ (f.held t (q, r.0), AlreadyHeld)
    ∷ (not (is_before t r.1), EndNotAhead) ∷ []
own_refusals f p t (Withdraw u q r) =
    (not (f.stands (q, r)), NotHeld) ∷ (same_role r Steward && nat_le f.stewards 1, LastSteward) ∷ []
own_refusals f p t (Register u a l m) =
    (nat_le max_alarms f.alarm_count, UnitFull TooManyAlarms) ∷ (is_some (f.alarm a), AlarmTaken) ∷ []
own_refusals f p t (Import u file) = file_refusals f t file
own_refusals f p t (TimedShelve u a d w) =
    unknown f a ∷ (nat_lt (limit_of f a) d, ShelvingTimeOutOfRange (limit_of f a))
    ∷ (is_timed (shelf_now f a t), ConditionAlreadyShelved) ∷ over_quota f a t ∷ []
own_refusals f p t (OneShotShelve u a w) =
    unknown f a ∷ (is_one_shot (shelf_now f a t), ConditionAlreadyShelved) ∷ over_quota f a t ∷ []
own_refusals f p t (Unshelve u a) = unknown f a ∷ (is_unshelved (shelf_now f a t), ConditionNotShelved) ∷ []
own_refusals f p t (RemoveFromService u a w) = unknown f a ∷ (is_out f a, AlreadyOutOfService) ∷ []
own_refusals f p t (PlaceInService u a) = unknown f a ∷ (not (is_out f a), NotOutOfService) ∷ []
own_refusals f p t (Propose u x) =
    (nat_le max_changes f.change_count, UnitFull TooManyChanges) ∷ kind_unknown f x.kind
    ++ kind_refusals f x.base x.kind
own_refusals f p t (WithdrawChange u n) = of_change (f.change n) (λ c. (not (same_name p c.proposer), NotProposer) ∷ [])
own_refusals f p t (Approve u n) =
    of_change (f.change n) (λ c. (same_name p c.proposer, SamePerson) ∷ kind_refusals f c.base c.kind)
own_refusals f p t (Reject u n) = of_change (f.change n) (λ c. (same_name p c.proposer, SamePerson) ∷ [])
own_refusals f p t (Status u a) = unknown f a ∷ []
own_refusals f p t (RecordOf u a) = unknown f a ∷ (is_none (f.rationale a), RecordUnknown) ∷ []
own_refusals f p t (ChangeOf u n) = (is_none (f.change n), ChangeUnknown) ∷ []
own_refusals f p t (Floods u begin until) = (not (is_aligned begin until), RangeNotAligned) ∷ []
own_refusals f p t (OpenUnit u s m q) = []
own_refusals f p t (Shelves u) = []
own_refusals f p t (Alarms u) = []
own_refusals f p t (Standing u) = []
own_refusals f p t MyUnits = []
own_refusals f p t MyShelves = []

abbrev pub record_reply : Option RecordRow → Reply
record_reply None = Done
record_reply (Some r) = RecordReply r

-- the reply to a request that is accepted
abbrev pub reply : Facts → ℕ → Request → Reply
reply f t (Import u file) = import_reply f.events (rows_of_file file)
reply f t (Propose u x) = Number (f.change_count + 1)
reply f t (RecordOf u a) = record_reply (f.rationale a)
reply f t (ChangeOf u n) = change_reply (f.change n)
reply f t (Status u a) = status_reply (f.alarm a) (shelf_now f a t)
reply f t (Shelves u) = ShelvesOf u t (shelf_lines f t)
reply f t (Alarms u) = AlarmsOf u t (alarm_lines f t)
reply f t (Standing u) = StandingOf u t (standing_lines f t)
reply f t (Floods u begin until) = FloodsOf u begin until (flood_lines f.events begin until)
reply f t (OpenUnit u s m q) = Done
reply f t (Grant u q r) = Done
reply f t (Withdraw u q r) = Done
reply f t (Register u a l m) = Done
reply f t (TimedShelve u a d w) = Done
reply f t (OneShotShelve u a w) = Done
reply f t (Unshelve u a) = Done
reply f t (RemoveFromService u a w) = Done
reply f t (PlaceInService u a) = Done
reply f t (WithdrawChange u n) = Done
reply f t (Approve u n) = Done
reply f t (Reject u n) = Done
reply f t MyUnits = Done
reply f t MyShelves = Done
