-- Imports agree: which file has which rows, and in which order they come, makes no difference.
use Rattle.std.specs.List.{list_all}
use Rattle.std.specs.Prelude.{flat_map, Err, List, Ok, Result, Some, [], is_ok, is_some, length, map, nat_le, option_map, true, ℕ, ◌++◌, ◌+◌, ◌∷◌, ◌≡◌, ◌≤◌}
use Rattle.plant_alarm.specs.declared.event.Event.{Event}
use Rattle.plant_import.specs.{Files.{SameMembers, is_fit}, Merging.{fresh}}
use Rattle.plant_model.specs.{Alarms.{latching}, Events.{events, imported}, Grants.{held}, Histories.{last_moment}}
use Rattle.plant_model.specs.{Kinds.{says, unit_named}, Legality.{IsLegal}, Rows.{rows_of}}
use Rattle.plant_model.specs.{Verdicts.{changes_history, verdict}, declared.{call.{Call.{Call}, Request.{Request}}, reply.Refused.{Refused}}}
use Rattle.plant_model.specs.declared.{reply.Reply.{Reply}, rows.{UnitRow.{UnitRow}, UnitRows.{UnitRows}}}
use Rattle.plant_types.specs.{Limits.{max_events}, Names.{Name}, declared.role.Role.TheVariants.{Operator}}
use Rattle.plant_model.specs.declared.reply.Reply.TheVariants as reply

-- the rows that calls import, the calls' oldest first
abbrev pub rows_imported : List Call → List Event
rows_imported calls = flat_map (λ c. imported c.request) calls

-- a request on this unit that imports a file that was read without fault
pub record IsImportOf (u : Name) (r : Request) : Type 0 where
  pub unit : unit_named r ≡ Some u
  pub file : option_map is_ok (says r).file ≡ Some true

-- an import by a person who holds Operator at its moment, of rows of registered alarms; the moment lies before no event
pub record IsImportInto (h : List Call) (u : Name) (es : List Event) (c : Call) : Type 0 where
  pub import : IsImportOf u c.request
  pub operator : held h c.moment (c.person, Operator) ≡ true
  pub known : list_all (λ e. is_some (latching h e.tag)) (imported c.request) ≡ true
  pub not_ahead : list_all (λ e. nat_le e.moment c.moment) es ≡ true

-- imports at moments that never fall, from a moment on
abbrev pub AreImportsInto : List Call → Name → List Event → ℕ → List Call → Type 0
AreImportsInto h u es t [] = Unit {0}
AreImportsInto h u es t (c ∷ calls) = IsImportInto h u es c × (t ≤ c.moment) × AreImportsInto h u es c.moment calls

-- the history after calls, and whether each is accepted after those before it
abbrev pub through : List Call → List Call → List Call
through h [] = h
through h (c ∷ calls) = through (c ∷ h) calls

abbrev pub AreAccepted : List Call → List Call → Type 0
AreAccepted h [] = Unit {0}
AreAccepted h (c ∷ calls) = (changes_history (verdict h c) c ≡ true) × AreAccepted (c ∷ h) calls

-- how many rows an answer says were new
abbrev pub new_in : Result Reply Refused → ℕ
new_in (Ok (reply.Imported new repeated)) = new
new_in (Ok reply.Done) = 0
new_in (Ok (reply.Number n)) = 0
new_in (Ok (reply.Status row)) = 0
new_in (Ok (reply.RecordOf row)) = 0
new_in (Ok (reply.ChangeOf row)) = 0
new_in (Ok (reply.Units lines)) = 0
new_in (Ok (reply.Shelves u t lines)) = 0
new_in (Ok (reply.Standing u t lines)) = 0
new_in (Ok (reply.Alarms u t lines)) = 0
new_in (Ok (reply.Floods u begin until lines)) = 0
new_in (Ok (reply.Mine p t lines)) = 0
new_in (Err refused) = 0

-- how many rows the answers to calls say were new, one call after another
abbrev pub new_counted : List Call → List Call → ℕ
new_counted h [] = 0
new_counted h (c ∷ calls) = new_in (verdict h c) + new_counted (c ∷ h) calls

-- the rows but the last call's moment
abbrev pub but_last : UnitRows → UnitRows
but_last rows = record rows { units = map (λ (r : UnitRow). record r { last_s = 0 }) rows.units }

-- all imports of both lists are accepted, the rows after both are the same but for the last moment, and their answers
-- say that as many rows were new, which are those that were not kept
pub record AreAlike (h : List Call) (xs ys : List Call) : Type 0 where
  pub first_accepted : AreAccepted h xs
  pub second_accepted : AreAccepted h ys
  pub rows : but_last (rows_of (through h xs)) ≡ but_last (rows_of (through h ys))
  pub counted : new_counted h xs ≡ length (fresh (events h) (rows_imported xs))
  pub same_counted : new_counted h xs ≡ new_counted h ys

-- two lists of imports into the unit of a legal history that have the same rows, repeats and order aside, which fit
-- together with the kept events and are at most 100,000 with them
abbrev pub ImportsAgree : Type 0
ImportsAgree =
    (h : List Call) (u : Name) (xs ys : List Call)
    → IsLegal h
    → AreImportsInto h u (events h ++ rows_imported xs) (last_moment h) xs
    → AreImportsInto h u (events h ++ rows_imported xs) (last_moment h) ys
    → SameMembers (rows_imported xs) (rows_imported ys)
    → is_fit (events h ++ rows_imported xs) ≡ true
    → length (events h) + length (fresh (events h) (rows_imported xs)) ≤ max_events
    → AreAlike h xs ys
