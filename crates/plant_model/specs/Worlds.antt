-- The office: an administrator, and for each opened unit its history.
use Rattle.std.specs.FinMap.{FinMap, contains_key, empty, get, insert, keys}
use Rattle.std.specs.Prelude.{flat_map, Bool, Err, List, None, Ok, Option, Result, Some, [], filter_map, fold, if◌then◌else◌, map, max, nat_lt, not, unwrap_or, ℕ, ◌∷◌, ◌≡◌}
use Rattle.plant_model.specs.{Facts.{facts}, Grants.{holds_any, roles_held}, Histories.{last_moment}}
use Rattle.plant_model.specs.{Kinds.{OneUnit, OwnShelves, OwnUnits, Subject, subject_of}, Legality.{IsLegal}, Replies.{shelf_lines}}
use Rattle.plant_model.specs.{Verdicts.{changes_history, is_opening, verdict}, declared.call.{Call.{Call}, Request.{Request}}}
use Rattle.plant_model.specs.declared.reply.{MineLine.{MineLine}, Refused.{Refused, TheVariants.{MomentBehind, NotAdministrator, UnitTaken}}}
use Rattle.plant_model.specs.declared.reply.{Reply.{Reply, TheVariants.{Done, Mine, Units}}, ShelfLine.{ShelfLine}, UnitLine.{UnitLine}}
use Rattle.plant_types.specs.{Names.{Name, name_cmp, same_name}, Options.{when}}
pub use Rattle.plant_model.specs.Kinds.{unit_named}

pub record World : Type 0 where
  pub admin : Name
  pub units : FinMap name_cmp (List Call)

-- the history of a unit, empty if the code was never opened
abbrev pub history : World → Name → List Call
history w u = unwrap_or (get w.units u) []

-- a unit with its history, if the person holds a role in it at the moment
abbrev pub unit_seen : World → ℕ → Name → Name → Option (Name × List Call)
unit_seen w t p u = when (holds_any (history w u) t p) (u, history w u)

-- the units in which a person holds a role at a moment, rising, each with its history
abbrev pub units_held : World → ℕ → Name → List (Name × List Call)
units_held w t p = filter_map (unit_seen w t p) (keys w.units)

abbrev pub greatest_last : List (Name × List Call) → ℕ
greatest_last units = fold max 0 (map (λ e. last_moment e.1) units)

abbrev pub unit_lines : ℕ → Name → List (Name × List Call) → List UnitLine
unit_lines t p units = map (λ e. record { unit = e.0; roles = roles_held e.1 t p }) units

abbrev pub mine_line : Name → ShelfLine → MineLine
mine_line u l = record { unit = u; line = l }

-- their shelves that hold at a moment, by unit and tag
abbrev pub mine_lines : ℕ → List (Name × List Call) → List MineLine
mine_lines t units = flat_map (λ e. map (mine_line e.0) (shelf_lines (facts e.1) t)) units

abbrev pub reply_about : List (Name × List Call) → Call → Subject → Reply
reply_about units c OwnUnits = Units (unit_lines c.moment c.person units)
reply_about units c OwnShelves = Mine c.person c.moment (mine_lines c.moment units)
reply_about units c (OneUnit u) = Done

abbrev pub reply_of_units : List (Name × List Call) → Call → Request → Reply
reply_of_units units c r = reply_about units c (subject_of r)

-- the answer to a call that names no unit, from the caller's units
abbrev pub answer_of_units : List (Name × List Call) → Call → Result Reply Refused
answer_of_units units c = if nat_lt c.moment (greatest_last units) then
    Err (MomentBehind (greatest_last units)) else Ok (reply_of_units units c c.request)

-- the answer to an opening
abbrev pub opening : Bool → Bool → Result Reply Refused
opening by_admin taken = if not by_admin then Err NotAdministrator else (if taken then Err UnitTaken else Ok Done)

-- what one unit answers; the arguments are whether the caller is the administrator, whether the unit exists, its
-- history, and the call
abbrev pub unit_answer : Bool → Bool → List Call → Call → Result Reply Refused
unit_answer by_admin taken h c = if is_opening c.request then opening by_admin taken else verdict h c

abbrev pub by_admin : World → Call → Bool
by_admin w c = same_name c.person w.admin

abbrev pub is_taken : World → Name → Bool
is_taken w u = contains_key w.units u

abbrev pub answer_at : World → Call → Option Name → Result Reply Refused
answer_at w c None = answer_of_units (units_held w c.moment c.person) c
answer_at w c (Some u) = unit_answer (by_admin w c) (is_taken w u) (history w u) c

-- the answer to a call
abbrev pub answer : World → Call → Result Reply Refused
answer w c = answer_at w c (unit_named c.request)

abbrev pub with_call : World → Call → Name → World
with_call w c u = record { admin = w.admin; units = insert w.units u (c ∷ history w u) }

abbrev pub next_at : World → Call → Option Name → World
next_at w c None = w
next_at w c (Some u) = if changes_history (answer_at w c (Some u)) c then with_call w c u else w

-- the world after a call: an accepted changing call is put at the front of its unit's history
abbrev pub next : World → Call → World
next w c = next_at w c (unit_named c.request)

abbrev pub empty_world : Name → World
empty_world admin = record { admin = admin; units = empty }

-- the answers to a list of calls, in order
abbrev pub answers : World → List Call → List (Result Reply Refused)
answers w [] = []
answers w (c ∷ calls) = answer w c ∷ answers (next w c) calls

-- each unit of the world has a legal history
abbrev pub IsLegalWorld : World → Type 0
IsLegalWorld w = (u : Name) (h : List Call) → get w.units u ≡ Some h → IsLegal h
