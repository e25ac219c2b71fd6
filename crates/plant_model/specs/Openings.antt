-- A unit's history belongs to that unit alone: the administrator opened it, and its opening and grants have valid
-- values.
use Rattle.std.specs.{FinMap.{get}, Prelude.{Bool, List, None, Option, Some, [], is_none, not, true, ℕ, ◌&&◌, ◌∷◌, ◌||◌, ◌≡◌}}
use Rattle.plant_ration.specs.Matrix.{is_matrix}
use Rattle.plant_model.specs.{Histories.{Said, passes, what_stands}, Kinds.{Opening, says}, Verdicts.{is_opening}}
use Rattle.plant_model.specs.{Worlds.{World, empty_world, next, unit_named}, declared.call.{Call.{Call}, Request.{Request}}}
use Rattle.plant_types.specs.{Names.{Name}, Numbers.{is_quota}, Roles.{Pair, same_role}, Text.{in_person, in_unit_code, is_text}}
use Rattle.plant_types.specs.declared.role.Role.TheVariants.{Steward}

-- the values that a grant carries are valid
abbrev pub has_grant_values : Pair × Said (Option ℕ) → Bool
has_grant_values e =
    passes (λ until. is_text in_person 32 e.0.0 && (not (same_role e.0.1 Steward) || is_none until)) (what_stands e.1)

-- the values that an opening or a grant carries are valid
abbrev pub has_values_said : Option Opening → Option (Pair × Said (Option ℕ)) → Bool
has_values_said (Some o) pair =
    is_text in_unit_code 8 o.unit && is_text in_person 32 o.steward && is_matrix o.matrix.limits o.matrix.cells
    && is_quota o.quota
has_values_said None pair = passes has_grant_values pair

-- the values of an opening and the name in a grant are valid, and a steward's grant has no end
abbrev pub has_values : Request → Bool
has_values r = has_values_said (says r).opening (says r).pair

-- an entry of a unit's history
pub record IsEntryOf (u : Name) (c : Call) : Type 0 where
  pub own : unit_named c.request ≡ Some u
  pub values : has_values c.request ≡ true

-- a history begins with its unit's opening by the administrator, and all later entries are the unit's own and are not
-- openings
abbrev pub IsHistoryOf : Name → Name → List Call → Type 0
IsHistoryOf admin u [] = ⊥
IsHistoryOf admin u (c ∷ []) = IsEntryOf u c × (is_opening c.request ≡ true) × (c.person ≡ admin)
IsHistoryOf admin u (c ∷ d ∷ before) = IsEntryOf u c × (not (is_opening c.request) ≡ true)
    × IsHistoryOf admin u (d ∷ before)

abbrev pub HasItsHistories : World → Type 0
HasItsHistories w = (u : Name) (h : List Call) → get w.units u ≡ Some h → IsHistoryOf w.admin u h

-- from the empty office on, each unit's history is its own, whatever is called
pub record HistoriesAreOwn : Type 0 where
  pub at_first : (admin : Name) → HasItsHistories (empty_world admin)
  pub afterwards : (w : World) (c : Call) → HasItsHistories w → has_values c.request ≡ true → HasItsHistories (next w c)
