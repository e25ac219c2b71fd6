-- What a person sees of an office, and which calls remain when the calls of others are left out.
use Rattle.std.specs.FinMap.{keys}
use Rattle.std.specs.Prelude.{Bool, List, None, Option, Result, Some, [], false, filter, if◌then◌else◌, ℕ, ◌||◌, ◌∷◌, ◌≡◌}
use Rattle.plant_model.specs.{Grants.{some_role, stands}, Histories.{begins}, Kinds.{says}, declared.reply.{Refused.{Refused}, Reply.{Reply}}}
use Rattle.plant_model.specs.{Worlds.{World, answer, history, next, unit_named, units_held}, declared.call.{Call.{Call}, Request.{Request}}}
use Rattle.plant_types.specs.{Names.{Name, same_name}}

-- the codes for the administrator, none for anyone else
abbrev pub codes_seen : World → Name → List Name
codes_seen w p = if same_name p w.admin then keys w.units else []

-- what a person sees of a world at a moment: the units in which the person holds a role, each with its history, and, as
-- the administrator, all codes
abbrev pub view : ℕ → Name → World → List (Name × List Call) × List Name
view t p w = (units_held w t p, codes_seen w p)

-- the request grants the person something
abbrev pub grants_to : Name → Request → Bool
grants_to p r = begins (λ k. same_name p k.0) (says r).pair

-- some grant to the person stands
abbrev pub has_pair : List Call → Name → Bool
has_pair h p = some_role (λ r. stands h (p, r))

-- a call that names one of these units
abbrev pub names_in : (Name → Bool) → Option Name → Bool
names_in units None = false
names_in units (Some u) = units u

-- the calls that the person made or that name one of the units
abbrev pub purge : Name → (Name → Bool) → List Call → List Call
purge p units calls = filter (λ c. same_name c.person p || names_in units (unit_named c.request)) calls

-- the answers to the person's calls among these
abbrev pub answers_to : Name → World → List Call → List (Result Reply Refused)
answers_to p w [] = []
answers_to p w (c ∷ calls) = if same_name c.person p then
    answer w c ∷ answers_to p (next w c) calls else answers_to p (next w c) calls

-- outside these units no grant to the person stands
abbrev pub IsInside : Name → (Name → Bool) → World → Type 0
IsInside p units w = (u : Name) → units u ≡ false → has_pair (history w u) p ≡ false

-- and none stood at any point of the run
abbrev pub IsAlwaysInside : Name → (Name → Bool) → World → List Call → Type 0
IsAlwaysInside p units w [] = IsInside p units w
IsAlwaysInside p units w (c ∷ calls) = IsInside p units w × IsAlwaysInside p units (next w c) calls
