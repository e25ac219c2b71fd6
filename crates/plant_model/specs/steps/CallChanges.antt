-- What each accepted call changes in the rows of its unit, with one line for each kind of call.
use Rattle.std.specs.Prelude.{List, None, [], false, option_and_then, true, unwrap_or, ℕ, ◌+◌, ◌∷◌}
use Rattle.plant_model.specs.{Alarms.{said_of_quota}, Changes.{change_as, number_approved}, Events.{rows_of_file}, Facts.{Facts, limit_of}}
use Rattle.plant_model.specs.{Kinds.{effect_of}, declared.kinds.Effect.{Effect, TheVariants.{Changes, Opens, Reads}}}
use Rattle.plant_model.specs.steps.RowChanges.{approval_changes, approved_row, decision_change, for_change, import_changes, kind_changes, matrix_changes, placed_in, taken_out, with_alarm}
use Rattle.plant_model.specs.{Rows.{alarm_as, change_entry, grant_as}, Shelves.{shelf_row_as}, declared.call.{Call.{Call}, Request.{Request}}}
use Rattle.plant_model.specs.declared.call.Request.TheVariants.{Alarms, Approve, ChangeOf, Floods, Grant, Import, MyShelves, MyUnits, OneShotShelve, OpenUnit, PlaceInService, Propose, RecordOf, Register, Reject, RemoveFromService, Shelves, Standing, Status, TimedShelve, Unshelve, Withdraw, WithdrawChange}
use Rattle.plant_model.specs.declared.rows.Key.TheVariants.{Grant as GrantKey, Shelf as ShelfKey}
use Rattle.plant_model.specs.declared.rows.Row.TheVariants.{Alarm as AlarmPut, Change as ChangePut, Grant as GrantPut, Shelf as ShelfPut, Unit as UnitPut}
use Rattle.plant_model.specs.declared.rows.{RowEdit.{RowEdit, TheVariants.{Put, Remove}}, UnitRow.{UnitRow}}
use Rattle.plant_ration.specs.declared.change.ChangeState.TheVariants.{Rejected, Withdrawn}
use Rattle.plant_types.specs.Names.{Name}
use Rattle.plant_types.specs.declared.role.Role.TheVariants.{Steward}

-- the changes that an accepted call makes, apart from that of the unit's own row
abbrev pub own_changes : Facts → Name → ℕ → Request → List RowEdit
own_changes f p t (OpenUnit u s m q) = Put (GrantPut (grant_as (s, Steward) None)) ∷ matrix_changes 0 m
own_changes f p t (Grant u q r) = Put (GrantPut (grant_as (q, r.0) r.1)) ∷ []
own_changes f p t (Withdraw u q r) = Remove (GrantKey q r) ∷ []
own_changes f p t (Register u a l max) = Put (AlarmPut (alarm_as a max 0 [] None l)) ∷ []
own_changes f p t (Import u file) = import_changes f (rows_of_file file)
own_changes f p t (TimedShelve u a d w) = Put (ShelfPut (shelf_row_as false t (t + d) p w a)) ∷ []
own_changes f p t (OneShotShelve u a w) = Put (ShelfPut (shelf_row_as true t (t + limit_of f a) p w a)) ∷ []
own_changes f p t (Unshelve u a) = Remove (ShelfKey a) ∷ []
own_changes f p t (RemoveFromService u a w) = with_alarm f a (taken_out p t w)
own_changes f p t (PlaceInService u a) = with_alarm f a placed_in
own_changes f p t (Propose u x) =
    Put (ChangePut
    (change_entry (change_as (f.change_count + 1) None (record {
      proposer = p;
      proposed = t;
      kind = x.kind;
      base = x.base;
    })))) ∷ kind_changes (f.change_count + 1) x.kind
own_changes f p t (WithdrawChange u n) = for_change (f.change n) (λ c. decision_change Withdrawn p t c ∷ [])
own_changes f p t (Approve u n) = for_change (f.change n) (approval_changes f p t)
own_changes f p t (Reject u n) = for_change (f.change n) (λ c. decision_change Rejected p t c ∷ [])
own_changes f p t (Status u a) = []
own_changes f p t (RecordOf u a) = []
own_changes f p t (ChangeOf u n) = []
own_changes f p t (Shelves u) = []
own_changes f p t (Alarms u) = []
own_changes f p t (Standing u) = []
own_changes f p t (Floods u begin until) = []
own_changes f p t MyUnits = []
own_changes f p t MyShelves = []

-- the unit's row after a call: an opening begins it, reading leaves it; of any other the moment is the last one, and an
-- approved matrix is in force
abbrev pub row_by : Effect → Facts → ℕ → Request → UnitRow
row_by Opens f t r = record { last_s = t; matrix_no = 0; matrix_rev = 0; quota = unwrap_or (said_of_quota r) 0 }
row_by Changes f t r = approved_row t f.unit (option_and_then f.change (number_approved r))
row_by Reads f t r = f.unit

abbrev pub unit_after : Facts → ℕ → Request → UnitRow
unit_after f t r = row_by (effect_of r) f t r

-- all changes that an accepted call makes
abbrev pub changes_for : Facts → Call → List RowEdit
changes_for f c = Put (UnitPut (unit_after f c.moment c.request)) ∷ own_changes f c.person c.moment c.request
