-- The kinds of calls: what all calls of a kind have in common, and what a request of each kind states. Each table has
-- one line for each kind.
use Rattle.std.specs.Prelude.{Bool, Err, List, None, Ok, Option, Result, Some, [], false, true, ℕ}
use Rattle.plant_alarm.specs.declared.event.Event.{Event}
use Rattle.plant_import.specs.declared.bad_file.BadFile.{BadFile}
use Rattle.plant_model.specs.{Histories.{Begins, Over, Said}, declared.{call.Request.{Request}, kinds.Counted.{Counted}}}
use Rattle.plant_model.specs.declared.kinds.Effect.{Effect, TheVariants.{Changes, Opens, Reads}}
use Rattle.plant_ration.specs.Grid.{Grid}
use Rattle.plant_ration.specs.declared.change.{ChangeState.{ChangeState, TheVariants.{Approved, Rejected, Withdrawn}}, Proposal.{Proposal}}
use Rattle.plant_types.specs.{Names.{Name}, Roles.{Pair}, declared.role.Role.{Role, TheVariants.{Approver, Engineer, Maintainer, Operator, Steward}}}
use Rattle.plant_model.specs.declared.call.Request.TheVariants as request
use Rattle.plant_model.specs.declared.kinds.Counted.TheVariants as count

-- what a request is about: one unit, or the units in which its caller holds a role, as a list of them or of their
-- shelves
pub data Subject : Type 0 where
  OneUnit : Name → Subject
  OwnUnits : Subject
  OwnShelves : Subject

-- what a request does to its unit's history, the role that it needs, if it needs a particular one, the count that it
-- needs, and what it is about
abbrev pub traits_of : Request → Effect × Option Role × Counted × Subject
traits_of (request.OpenUnit u s m q) = (Opens, None, count.Nothing, OneUnit u)
traits_of (request.Grant u p t) = (Changes, Some Steward, count.Nothing, OneUnit u)
traits_of (request.Withdraw u p r) = (Changes, Some Steward, count.Nothing, OneUnit u)
traits_of (request.Register u a latching max) = (Changes, Some Engineer, count.Alarms, OneUnit u)
traits_of (request.Import u file) = (Changes, Some Operator, count.Events, OneUnit u)
traits_of (request.TimedShelve u a d words) = (Changes, Some Operator, count.Nothing, OneUnit u)
traits_of (request.OneShotShelve u a words) = (Changes, Some Operator, count.Nothing, OneUnit u)
traits_of (request.Unshelve u a) = (Changes, Some Operator, count.Nothing, OneUnit u)
traits_of (request.RemoveFromService u a words) = (Changes, Some Maintainer, count.Nothing, OneUnit u)
traits_of (request.PlaceInService u a) = (Changes, Some Maintainer, count.Nothing, OneUnit u)
traits_of (request.Propose u x) = (Changes, Some Engineer, count.Changes, OneUnit u)
traits_of (request.WithdrawChange u n) = (Changes, Some Engineer, count.Nothing, OneUnit u)
traits_of (request.Approve u n) = (Changes, Some Approver, count.Nothing, OneUnit u)
traits_of (request.Reject u n) = (Changes, Some Approver, count.Nothing, OneUnit u)
traits_of (request.Status u a) = (Reads, None, count.Nothing, OneUnit u)
traits_of (request.RecordOf u a) = (Reads, None, count.Nothing, OneUnit u)
traits_of (request.ChangeOf u n) = (Reads, None, count.Nothing, OneUnit u)
traits_of (request.Shelves u) = (Reads, None, count.Nothing, OneUnit u)
traits_of (request.Alarms u) = (Reads, None, count.Nothing, OneUnit u)
traits_of (request.Standing u) = (Reads, None, count.Nothing, OneUnit u)
traits_of (request.Floods u begin until) = (Reads, None, count.Nothing, OneUnit u)
traits_of request.MyUnits = (Reads, None, count.Nothing, OwnUnits)
traits_of request.MyShelves = (Reads, None, count.Nothing, OwnShelves)

-- each of these alone
abbrev pub effect_of : Request → Effect
effect_of r = (traits_of r).0

abbrev pub role_needed : Request → Option Role
role_needed r = (traits_of r).1

abbrev pub count_of : Request → Counted
count_of r = (traits_of r).2

abbrev pub subject_of : Request → Subject
subject_of r = (traits_of r).3

abbrev pub unit_of : Subject → Option Name
unit_of (OneUnit u) = Some u
unit_of OwnUnits = None
unit_of OwnShelves = None

-- the unit that a request names
abbrev pub unit_named : Request → Option Name
unit_named r = unit_of (subject_of r)

abbrev pub is_opens : Effect → Bool
is_opens Opens = true
is_opens Changes = false
is_opens Reads = false

abbrev pub is_reads : Effect → Bool
is_reads Opens = false
is_reads Changes = false
is_reads Reads = true

abbrev pub is_opening : Request → Bool
is_opening r = is_opens (effect_of r)

abbrev pub is_read : Request → Bool
is_read r = is_reads (effect_of r)

-- the rows of a file that was read without fault
abbrev pub rows_of_file : Result (List Event) BadFile → List Event
rows_of_file (Ok rows) = rows
rows_of_file (Err fault) = []

-- an opening of a unit: the unit, its first steward, its matrix and its quota
pub record Opening : Type 0 where
  pub unit : Name
  pub steward : Name
  pub matrix : Grid
  pub quota : ℕ

-- a registration of an alarm: whether it latches, and its limit
pub record Registration : Type 0 where
  pub tag : Name
  pub latching : Bool
  pub max : ℕ

-- a shelf that begins, and why: timed, with its length in seconds, or one-shot
pub data NewShelf : Type 0 where
  TimedShelf : ℕ → Name → NewShelf
  OneShotShelf : Name → NewShelf

-- what an entry states, and about what: one field for each thing that the definitions read. Most entries state one
-- thing
pub record Sayings : Type 0 where
  pub opening : Option Opening
  -- about a person's role: it is held from now on until an end (None: without end), or it is over
  pub pair : Option (Pair × Said (Option ℕ))
  pub registration : Option Registration
  pub file : Option (Result (List Event) BadFile)
  -- about an alarm's shelf
  pub shelf : Option (Name × Said NewShelf)
  -- about an alarm's removal from service, with its reason
  pub outage : Option (Name × Said Name)
  pub proposal : Option Proposal
  -- about the change with a number
  pub decision : Option (ℕ × ChangeState)

-- an entry that states nothing
abbrev pub silent : Sayings
silent = record {
  opening = None;
  pair = None;
  registration = None;
  file = None;
  shelf = None;
  outage = None;
  proposal = None;
  decision = None;
}

-- what a request states once it is an entry. An opening also grants Steward to the first steward, without end; a
-- request that only reads states nothing
abbrev pub says : Request → Sayings
says (request.OpenUnit u s m q) =
    record silent {
      opening = Some (record { unit = u; steward = s; matrix = m; quota = q });
      pair = Some ((s, Steward), Begins None);
    }
says (request.Grant u p t) = record silent { pair = Some ((p, t.0), Begins t.1) }
says (request.Withdraw u p r) = record silent { pair = Some ((p, r), Over) }
says (request.Register u a latching max) =
    record silent { registration = Some (record { tag = a; latching = latching; max = max }) }
says (request.Import u file) = record silent { file = Some file }
says (request.TimedShelve u a d words) = record silent { shelf = Some (a, Begins (TimedShelf d words)) }
says (request.OneShotShelve u a words) = record silent { shelf = Some (a, Begins (OneShotShelf words)) }
says (request.Unshelve u a) = record silent { shelf = Some (a, Over) }
says (request.RemoveFromService u a words) = record silent { outage = Some (a, Begins words) }
says (request.PlaceInService u a) = record silent { outage = Some (a, Over) }
says (request.Propose u x) = record silent { proposal = Some x }
says (request.WithdrawChange u n) = record silent { decision = Some (n, Withdrawn) }
says (request.Approve u n) = record silent { decision = Some (n, Approved) }
says (request.Reject u n) = record silent { decision = Some (n, Rejected) }
says (request.Status u a) = silent
says (request.RecordOf u a) = silent
says (request.ChangeOf u n) = silent
says (request.Shelves u) = silent
says (request.Alarms u) = silent
says (request.Standing u) = silent
says (request.Floods u begin until) = silent
says request.MyUnits = silent
says request.MyShelves = silent
