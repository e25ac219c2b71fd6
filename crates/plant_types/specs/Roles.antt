-- Roles, by their numbers, and pairs of a person and a role.
use Rattle.std.specs.{Ordering.{eq_by_cmp, nat_cmp, ordering_then}, Prelude.{Bool, List, [], ℕ, ◌∷◌}, declared.cmp.Ordering.{Ordering}}
use Rattle.plant_types.specs.{Names.{Name, name_cmp}, declared.role.Role.{Role}}
use Rattle.plant_types.specs.declared.role.Role.TheVariants.{Approver, Engineer, Maintainer, Operator, Steward, Viewer}

-- the number of a role
abbrev pub role_no : Role → ℕ
role_no Viewer = 1
role_no Operator = 2
role_no Maintainer = 3
role_no Engineer = 4
role_no Approver = 5
role_no Steward = 6

-- whether two roles are the same
abbrev pub same_role : Role → Role → Bool
same_role r s = eq_by_cmp nat_cmp (role_no r) (role_no s)

-- the roles, by number
abbrev pub all_roles : List Role
all_roles = Viewer ∷ Operator ∷ Maintainer ∷ Engineer ∷ Approver ∷ Steward ∷ []

-- a person with a role
abbrev pub Pair : Type 0
Pair = Name × Role

-- by person, and then by role
abbrev pub pair_cmp : Pair → Pair → Ordering
pair_cmp a b = ordering_then (name_cmp a.0 b.0) (nat_cmp (role_no a.1) (role_no b.1))

-- whether two pairs are the same
abbrev pub same_pair : Pair → Pair → Bool
same_pair a b = eq_by_cmp pair_cmp a b
