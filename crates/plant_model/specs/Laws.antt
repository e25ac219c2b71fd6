-- Laws about the definitions alone: isolation, legality, ends of grants, the quota, and the answers about shelves.
use Rattle.std.specs.{FinMap.{keys}, List.{AllByRecursion, list_all}}
use Rattle.std.specs.Prelude.{Bool, List, Option, Some, count_by, false, filter_map, flat_map, is_none, is_some, map, not, true, ℕ, ◌&&◌, ◌<◌, ◌≡◌}
use Rattle.plant_types.specs.{Limits.{max_quota}, Names.{Name, same_name}, Roles.{Pair}}
use Rattle.plant_model.specs.{Events.{events_of}, Facts.{facts, others_shelved, shelf_now}, Grants.{held, holds_any, stands}, Histories.{Said}}
use Rattle.plant_model.specs.{Histories.{passes, what_stands}, Kinds.{says}, Legality.{IsLegal, has_matrix}}
use Rattle.plant_model.specs.{Replies.{alarm_lines, line_of, shelf_lines, standing_lines}, Rows.{alarm_row, shelf_rows}}
use Rattle.plant_model.specs.Shelves.{shelf, shelf_left}
use Rattle.plant_model.specs.{Views.{IsAlwaysInside, answers_to, grants_to, purge, view}, Worlds.{IsLegalWorld, World, answer, empty_world, history}}
use Rattle.plant_model.specs.{Worlds.{mine_line, mine_lines, next, unit_named, units_held}, declared.call.{Call.{Call}, Request.{Request}}}
use Rattle.plant_model.specs.declared.reply.{AlarmLine.{AlarmLine}, ShelfLine.{ShelfLine}, StandingLine.{StandingLine}}
use Rattle.plant_alarm.specs.{Shelves.{is_unshelved, shelf_of}, declared.shelf.ShelfState.{ShelfState}}

-- a call that names no unit that the person sees, and grants the person nothing, changes nothing that the person sees
-- of the units
abbrev pub UnseenCallsChangeNothing : Type 0
UnseenCallsChangeNothing =
    (w : World) (p : Name) (t : ℕ) (c : Call)
    → ((u : Name) → unit_named c.request ≡ Some u → holds_any (history w u) t p ≡ false)
    → grants_to p c.request ≡ false
    → units_held (next w c) t p ≡ units_held w t p

-- only the administrator's calls change the codes
abbrev pub CodesAreTheAdministrators : Type 0
CodesAreTheAdministrators =
    (w : World) (c : Call) → same_name c.person w.admin ≡ false → keys (next w c).units ≡ keys w.units

-- equal views give equal answers, and equal views afterwards
abbrev pub EqualViewsEqualAnswers : Type 0
EqualViewsEqualAnswers =
    (w v : World) (c : Call)
    → w.admin ≡ v.admin
    → view c.moment c.person w ≡ view c.moment c.person v
    → (answer w c ≡ answer v c) × (view c.moment c.person (next w c) ≡ view c.moment c.person (next v c))

-- in two worlds that the person sees alike, anyone's call to a unit that the person sees gets equal answers, and leaves
-- worlds that the person sees alike
abbrev pub CallsToSeenUnits : Type 0
CallsToSeenUnits =
    (w v : World) (p : Name) (t : ℕ) (c : Call) (u : Name)
    → w.admin ≡ v.admin
    → view t p w ≡ view t p v
    → unit_named c.request ≡ Some u
    → holds_any (history w u) t p ≡ true
    → (answer w c ≡ answer v c) × (view t p (next w c) ≡ view t p (next v c))

-- a person's calls get the answers that they would get if no one else had called on units in which the person never had
-- a role
abbrev pub OthersCallsCanGo : Type 0
OthersCallsCanGo =
    (admin p : Name) (units : Name → Bool) (calls : List Call)
    → IsAlwaysInside p units (empty_world admin) calls
    → answers_to p (empty_world admin) (purge p units calls) ≡ answers_to p (empty_world admin) calls

-- if all histories of a world are legal, so are those of the next world
abbrev pub NextWorldsAreLegal : Type 0
NextWorldsAreLegal = (w : World) (c : Call) → IsLegalWorld w → has_matrix c.request ≡ true → IsLegalWorld (next w c)

-- the histories of the world in which no unit was opened are legal
abbrev pub FirstWorldsAreLegal : Type 0
FirstWorldsAreLegal = (admin : Name) → IsLegalWorld (empty_world admin)

-- no grant of the request has an end
abbrev pub is_for_good : Pair × Said (Option ℕ) → Bool
is_for_good e = passes is_none (what_stands e.1)

abbrev pub has_no_end : Request → Bool
has_no_end r = passes is_for_good (says r).pair

-- without ends, a pair that stands is held at every moment
abbrev pub WithoutEndsStandingIsHolding : Type 0
WithoutEndsStandingIsHolding =
    (h : List Call) → list_all (λ c. has_no_end c.request) h ≡ true → (t : ℕ) (k : Pair) → held h t k ≡ stands h k

-- in a legal history fewer than 2,000 other alarms are shelved, whatever the moment: a quota of 2,000 refuses nothing
abbrev pub QuotaOf2000RefusesNothing : Type 0
QuotaOf2000RefusesNothing =
    (h : List Call) → IsLegal h → (a : Name) (t : ℕ) → is_some (alarm_row h a) ≡ true
    → others_shelved (facts h) a t < max_quota

-- the shelf of an alarm at a moment, as all its events leave it: a one-shot shelf holds until some return after its
-- start
abbrev pub shelf_in_history : List Call → Name → ℕ → ShelfState
shelf_in_history h a t = shelf_of (shelf_left (shelf h a)) (events_of h a) t

-- the lines of the shelves that hold, each by all events of its alarm
abbrev pub lines_in_history : List Call → ℕ → List ShelfLine
lines_in_history h t = filter_map (λ s. line_of s (shelf_in_history h s.tag t)) (shelf_rows h)

-- how many other alarms are shelved, by all their events
abbrev pub others_in_history : List Call → Name → ℕ → ℕ
others_in_history h a t =
    count_by (λ s. not (same_name a s.tag) && not (is_unshelved (shelf_in_history h s.tag t))) (shelf_rows h)

-- all that a verdict and its reply state about shelves at a moment agrees with all events of the alarms: the state of
-- one alarm, the lines of shelves, of alarms and of standing alarms, and the count for the quota
pub record SaysShelves (h : List Call) (t : ℕ) : Type 0 where
  pub state : (a : Name) → shelf_now (facts h) a t ≡ shelf_in_history h a t
  pub lines : shelf_lines (facts h) t ≡ lines_in_history h t
  pub alarms : AllByRecursion (λ (l : AlarmLine). l.shelved ≡ not (is_unshelved (shelf_in_history h l.tag t)))
      (alarm_lines (facts h) t)
  pub standing : AllByRecursion (λ (l : StandingLine). l.shelved ≡ not (is_unshelved (shelf_in_history h l.tag t)))
      (standing_lines (facts h) t)
  pub others : (a : Name) → others_shelved (facts h) a t ≡ others_in_history h a t

-- a verdict sees only an alarm's last return; in a legal history that makes no difference
abbrev pub ShelvesEndByReturns : Type 0
ShelvesEndByReturns = (h : List Call) → IsLegal h → (t : ℕ) → SaysShelves h t

-- nor does it make a difference to the list of the shelves of several units
abbrev pub AllShelvesEndByReturns : Type 0
AllShelvesEndByReturns =
    (units : List (Name × List Call)) → AllByRecursion (λ (e : Name × List Call). IsLegal e.1) units → (t : ℕ)
    → mine_lines t units ≡ flat_map (λ e. map (mine_line e.0) (lines_in_history e.1 t)) units
