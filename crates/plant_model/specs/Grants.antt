-- Which roles a person holds in a unit, and until when.
use Rattle.std.specs.{List.{list_any}, Prelude.{Bool, List, None, Option, Some, false, filter, is_some, nat_lt, option_map, true, unwrap_or, ℕ}}
use Rattle.plant_model.specs.{Histories.{Said, latest, of_key, still}, Kinds.{says}, declared.call.{Call.{Call}, Request.{Request}}}
use Rattle.plant_types.specs.{Names.{Name}, Roles.{Pair, all_roles, same_pair}, declared.role.Role.{Role}}

-- some role passes the test
abbrev pub some_role : (Role → Bool) → Bool
some_role test = list_any test all_roles

-- what a request states about a pair: that it stands until an end (None: without end), or that it is withdrawn
abbrev pub said_of_pair : Pair → Request → Option (Said (Option ℕ))
said_of_pair k r = of_key same_pair k (says r).pair

-- the end of the pair's grant, if the pair stands by the last entry that states something about it
abbrev pub standing : List Call → Pair → Option (Option ℕ)
standing h k = still (latest (λ c before. said_of_pair k c.request) h)

-- the pair stands: it was granted and not withdrawn since
abbrev pub stands : List Call → Pair → Bool
stands h k = is_some (standing h k)

-- the moment lies before the end, if any
abbrev pub is_before : ℕ → Option ℕ → Bool
is_before t None = true
is_before t (Some until) = nat_lt t until

-- the pair is held at a moment: it stands, and has not ended
abbrev pub held : List Call → ℕ → Pair → Bool
held h t k = unwrap_or (option_map (is_before t) (standing h k)) false

-- the roles that a person holds at a moment, by number, and whether the person holds any
abbrev pub roles_held : List Call → ℕ → Name → List Role
roles_held h t p = filter (λ r. held h t (p, r)) all_roles

abbrev pub holds_any : List Call → ℕ → Name → Bool
holds_any h t p = some_role (λ r. held h t (p, r))
