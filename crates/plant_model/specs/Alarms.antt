-- Alarms: their registration, the limit MaxTimeShelved of OPC 10000-9 that is in force, and the unit's quota of
-- shelves.
use Rattle.std.specs.Prelude.{Bool, List, None, Option, Some, option_map, unwrap_or, ℕ}
use Rattle.plant_model.specs.{Changes.{approved_limit}, Histories.{latest}, Kinds.{Registration, says}, declared.call.Call.{Call}}
use Rattle.plant_model.specs.declared.call.Request.{Request}
use Rattle.plant_types.specs.{Names.{Name, same_name}, Options.{when}}

-- the limit that a registration of the alarm gives it; without a registration, that of an approved change
abbrev pub limit_by : Name → Option Registration → Option ℕ → Option ℕ
limit_by a (Some x) by_change = when (same_name a x.tag) x.max
limit_by a None by_change = by_change

-- what an entry states about an alarm's limit: it registers the alarm, or approves a change of its limit
abbrev pub said_of_limit : Name → List Call → Request → Option ℕ
said_of_limit a before r = limit_by a (says r).registration (approved_limit a before r)

-- MaxTimeShelved in force: that of the last approved change, else that of the registration. None for an alarm that
-- was never registered
abbrev pub limit : List Call → Name → Option ℕ
limit h a = latest (λ c before. said_of_limit a before c.request) h

-- whether a registration makes the alarm a latching one; none if it registers another alarm
abbrev pub latching_by : Name → Option Registration → Option Bool
latching_by a None = None
latching_by a (Some x) = when (same_name a x.tag) x.latching

abbrev pub said_of_latching : Name → Request → Option Bool
said_of_latching a r = latching_by a (says r).registration

-- whether it is a latching alarm. None for an alarm that was never registered
abbrev pub latching : List Call → Name → Option Bool
latching h a = latest (λ c before. said_of_latching a c.request) h

abbrev pub said_of_quota : Request → Option ℕ
said_of_quota r = option_map (λ o. o.quota) (says r).opening

-- the quota of shelved alarms that the opening gave
abbrev pub quota : List Call → ℕ
quota h = unwrap_or (latest (λ c before. said_of_quota c.request) h) 0
